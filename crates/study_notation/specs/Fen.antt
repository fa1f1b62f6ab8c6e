-- The start that a FEN text spells, or its first fault.
use Rattle.study_text.specs.Words.{words}
use Rattle.study_notation.specs.FenSpelling.{man_letter}
use Rattle.std.specs.Prelude.{ℕ, ◌+◌, ◌-◌, ◌*◌, Bool, true, false, not, ◌&&◌, ◌||◌, List, []}
use Rattle.std.specs.Prelude.{◌∷◌, length, reverse, replicate, Option, Some, None, Result, Ok}
use Rattle.std.specs.Prelude.{Err, nat_le, nat_lt, ◌==◌, if◌then◌else◌, is_some}
use Rattle.std.specs.List.{slice_split, flat_map, list_all}
use Rattle.std.specs.Str.Parse.{digits_value}
use Rattle.study_board.specs.declared.men.Side.{Side}
use Rattle.study_board.specs.declared.men.Side.TheVariants.{White, Black}
use Rattle.study_board.specs.declared.men.Kind.{Kind}
use Rattle.study_board.specs.declared.men.Kind.TheVariants.{King, Queen, Rook, Bishop, Knight, Pawn}
use Rattle.study_board.specs.declared.men.Man.{Man}
use Rattle.study_board.specs.declared.fault.PositionFault.{PositionFault}
use Rattle.study_board.specs.declared.fault.PositionFault.TheVariants as board
use Rattle.study_board.specs.Men.{other_side}
use Rattle.study_board.specs.Position.{Position, has_one_king, has_end_pawn, in_check, passed_possible}
use Rattle.study_notation.specs.declared.placement.Piece.{Piece}
use Rattle.study_notation.specs.declared.start.Start.{Start}
use Rattle.study_notation.specs.declared.fault.FenFault.{FenFault}
use Rattle.study_notation.specs.declared.fault.FenFault.TheVariants.{FieldCount, Placement, TooManyMen, KingCount}
use Rattle.study_notation.specs.declared.fault.FenFault.TheVariants.{PawnOnEndRank, SideField, OpponentInCheck}
use Rattle.study_notation.specs.declared.fault.FenFault.TheVariants.{Castling, EnPassantField, EnPassantImpossible}
use Rattle.study_notation.specs.declared.fault.FenFault.TheVariants.{Clock, MoveNumber}

-- ---- the fields

pub record Fields : Type 0 where
  pub placement : List ℕ
  pub side : List ℕ
  pub castling : List ℕ
  pub passed : List ℕ
  pub clock : List ℕ
  pub number : List ℕ

-- six fields, or four, to which `0 1` is appended
unfoldable pub fields_of : List (List ℕ) → Option Fields
fields_of (p ∷ s ∷ c ∷ e ∷ []) = Some (record { placement = p; side = s; castling = c; passed = e; clock = 48 ∷ []; number = 49 ∷ [] })
fields_of (p ∷ s ∷ c ∷ e ∷ h ∷ n ∷ []) = Some (record { placement = p; side = s; castling = c; passed = e; clock = h; number = n })
fields_of _ = None

-- ---- the placement

abbrev pub piece : Side → Kind → Option Piece
piece s k = Some (record { side = s; kind = k })

-- the man that a letter stands for
abbrev pub piece_of : ℕ → Option Piece
piece_of b =
    if b == man_letter White King then piece White King
    else (if b == man_letter White Queen then piece White Queen
    else (if b == man_letter White Rook then piece White Rook
    else (if b == man_letter White Bishop then piece White Bishop
    else (if b == man_letter White Knight then piece White Knight
    else (if b == man_letter White Pawn then piece White Pawn
    else (if b == man_letter Black King then piece Black King
    else (if b == man_letter Black Queen then piece Black Queen
    else (if b == man_letter Black Rook then piece Black Rook
    else (if b == man_letter Black Bishop then piece Black Bishop
    else (if b == man_letter Black Knight then piece Black Knight
    else (if b == man_letter Black Pawn then piece Black Pawn
    else None)))))))))))

-- a digit from 1 to 8
abbrev pub is_run : ℕ → Bool
is_run b = nat_le 49 b && nat_le b 56

abbrev pub is_placement_byte : ℕ → Bool
is_placement_byte b = is_run b || is_some (piece_of b)

-- a digit stands for so many empty squares, a letter for one man, any other byte has no meaning
unfoldable pub squares_of : ℕ → List (Option Piece)
squares_of b = if is_run b then replicate (b - 48) None else (if is_some (piece_of b) then piece_of b ∷ [] else [])

abbrev pub squares : List ℕ → List (Option Piece)
squares part = flat_map squares_of part

-- digits and letters that fill eight squares
unfoldable pub is_rank : List ℕ → Bool
is_rank part = list_all is_placement_byte part && length (squares part) == 8

-- the men on ascending squares, the first of which has the number n
abbrev pub men_from : ℕ → List (Option Piece) → List Man
men_from n [] = []
men_from n (None ∷ cells) = men_from (n + 1) cells
men_from n (Some p ∷ cells) = record { side = p.side; kind = p.kind; at = n } ∷ men_from (n + 1) cells

-- the parts between strokes
abbrev pub parts_of : List ℕ → List (List ℕ)
parts_of text = slice_split (λ b. b == 47) text

-- eight ranks between strokes, the eighth first
unfoldable pub placement : List ℕ → Option (List Man)
placement text = let parts = parts_of text in
    if length parts == 8 && list_all is_rank parts then Some (men_from 0 (flat_map squares (reverse parts))) else None

-- the first fault of men that are placed, whoever is to move
unfoldable pub placement_fault : List Man → Option FenFault
placement_fault men =
    if nat_lt 4 (length men) then Some TooManyMen
    else (if not (has_one_king men White && has_one_king men Black) then Some KingCount
    else (if has_end_pawn men then Some PawnOnEndRank else None))

-- the faults that are reported before the side to move is read
abbrev pub fen_fault_of_men : PositionFault → Option FenFault
fen_fault_of_men board.TooManyMen = Some TooManyMen
fen_fault_of_men board.KingCount = Some KingCount
fen_fault_of_men board.PawnOnEndRank = Some PawnOnEndRank
fen_fault_of_men _ = None

-- ---- the other fields

abbrev pub side_of : List ℕ → Option Side
side_of (b ∷ []) = if b == 119 then Some White else (if b == 98 then Some Black else None)
side_of _ = None

abbrev pub is_dash : List ℕ → Bool
is_dash (b ∷ []) = b == 45
is_dash _ = false

-- `-`, or a file and a rank
abbrev pub passed_of : List ℕ → Option (Option ℕ)
passed_of (b ∷ []) = if b == 45 then Some None else None
passed_of (f ∷ r ∷ []) = if (nat_le 97 f && nat_le f 104) && (nat_le 49 r && nat_le r 56) then Some (Some (8 * (r - 49) + (f - 97))) else None
passed_of _ = None

-- the men with the side to move and the passed square, if a pawn may have passed it just before
unfoldable pub position_of : List Man → Side → Option ℕ → Option Position
position_of men side passed =
    if passed_possible men side passed then Some (record { men = men; to_move = side; passed = passed }) else None

abbrev pub is_digit : ℕ → Bool
is_digit d = nat_le 48 d && nat_le d 57

-- digits, at least one and at most so many, as the number that they spell
abbrev pub digits_parsed : ℕ → List ℕ → Option ℕ
digits_parsed most ds = if (nat_le 1 (length ds) && nat_le (length ds) most) && list_all is_digit ds then Some (digits_value 10 ds) else None

-- one to four digits
unfoldable pub count_of : List ℕ → Option ℕ
count_of ds = if (nat_le 1 (length ds) && nat_le (length ds) 4) && list_all is_digit ds then Some (digits_value 10 ds) else None

-- ---- the whole

infixl 10 ◌>>=◌
abbrev pub ◌>>=◌ : {A B : Type 0} → Result A FenFault → (A → Result B FenFault) → Result B FenFault
(Ok x) >>= f = f x
(Err e) >>= f = Err e

-- continues, unless the test is met
abbrev pub refuse : Bool → FenFault → Result (Unit {0}) FenFault
refuse true e = Err e
refuse false e = Ok tt

abbrev pub refuse_any : Option FenFault → Result (Unit {0}) FenFault
refuse_any None = Ok tt
refuse_any (Some e) = Err e

abbrev pub field_needed : {A : Type 0} → Option A → FenFault → Result A FenFault
field_needed None e = Err e
field_needed (Some x) e = Ok x

unfoldable pub start_of : List ℕ → Result Start FenFault
start_of text = do
  f ← field_needed (fields_of (words text)) FieldCount
  men ← field_needed (placement f.placement) Placement
  _ ← refuse_any (placement_fault men)
  side ← field_needed (side_of f.side) SideField
  _ ← refuse (in_check men (other_side side)) OpponentInCheck
  _ ← refuse (not (is_dash f.castling)) Castling
  passed ← field_needed (passed_of f.passed) EnPassantField
  position ← field_needed (position_of men side passed) EnPassantImpossible
  clock ← field_needed (count_of f.clock) Clock
  number ← field_needed (count_of f.number) MoveNumber
  Ok (record { position = position; clock = clock; number = if number == 0 then 1 else number })

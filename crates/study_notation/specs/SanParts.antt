-- The parts of a SAN text, from the left. Each is read as its value and the rest of the text.
use Rattle.std.specs.Prelude.{ℕ, ◌+◌, ◌-◌, ◌*◌, Bool, true, false, ◌&&◌, ◌||◌, ◌==◌, nat_le, if◌then◌else◌, List, [], ◌∷◌, Option, Some, None}
use Rattle.study_board.specs.declared.men.Kind.{Kind}
use Rattle.study_board.specs.declared.men.Kind.TheVariants.{King, Queen, Rook, Bishop, Knight, Pawn}
use Rattle.study_board.specs.Letters.{letter}
use Rattle.study_notation.specs.declared.san.San.{San}
use Rattle.study_notation.specs.San.{is_ending}

infixl 10 ◌>>=◌
abbrev pub ◌>>=◌ : {A B : Type 0} → Option A → (A → Option B) → Option B
(Some x) >>= f = f x
None >>= f = None

unfoldable pub promotion_piece : ℕ → Option Kind
promotion_piece b =
    if b == letter Queen then Some Queen else (if b == letter Rook then Some Rook
    else (if b == letter Bishop then Some Bishop else (if b == letter Knight then Some Knight else None)))

unfoldable pub kind_at : List ℕ → Kind × List ℕ
kind_at [] = (Pawn, [])
kind_at (b ∷ bs) =
    if b == letter King then (King, bs) else (if b == letter Queen then (Queen, bs) else (if b == letter Rook then (Rook, bs)
    else (if b == letter Bishop then (Bishop, bs) else (if b == letter Knight then (Knight, bs) else (Pawn, b ∷ bs)))))

unfoldable pub file_at : List ℕ → Option ℕ × List ℕ
file_at [] = (None, [])
file_at (b ∷ bs) = if nat_le 97 b && nat_le b 104 then (Some (b - 97), bs) else (None, b ∷ bs)

unfoldable pub rank_at : List ℕ → Option ℕ × List ℕ
rank_at [] = (None, [])
rank_at (b ∷ bs) = if nat_le 49 b && nat_le b 56 then (Some (b - 49), bs) else (None, b ∷ bs)

unfoldable pub takes_at : List ℕ → Bool × List ℕ
takes_at [] = (false, [])
takes_at (b ∷ bs) = if b == 120 then (true, bs) else (false, b ∷ bs)

abbrev pub split_kind : Option Kind → ℕ → List ℕ → Option Kind × List ℕ
split_kind None b bs = (None, b ∷ bs)
split_kind (Some k) b bs = (Some k, bs)

unfoldable pub promotion_piece_at : List ℕ → Option Kind × List ℕ
promotion_piece_at [] = (None, [])
promotion_piece_at (b ∷ bs) = split_kind (promotion_piece b) b bs

-- `=` must be followed by a kind
abbrev pub required_kind : Option Kind × List ℕ → Option (Option Kind × List ℕ)
required_kind x = elim x.0 [ None ↦ None | Some k ↦ Some (Some k, x.1) ]

unfoldable pub promotion_at : List ℕ → Option (Option Kind × List ℕ)
promotion_at [] = Some (None, [])
promotion_at (b ∷ bs) = if b == 61 then required_kind (promotion_piece_at bs) else Some (promotion_piece_at (b ∷ bs))

-- the coordinates of origin and target
pub record SanSquares : Type 0 where
  pub file : Option ℕ
  pub rank : Option ℕ
  pub is_capture : Bool
  pub target : ℕ

-- a target follows the origin, or else what was read as the origin is the target
abbrev pub squares_from : Option ℕ → Option ℕ → Bool → Option ℕ → Option ℕ → Option SanSquares
squares_from f r x (Some tf) (Some tr) = Some (record { file = f; rank = r; is_capture = x; target = 8 * tr + tf })
squares_from f r x (Some tf) None = None
squares_from (Some tf) (Some tr) false None tr' = Some (record { file = None; rank = None; is_capture = false; target = 8 * tr + tf })
squares_from _ _ _ _ _ = None

-- the rank of a target is read only if its file was
abbrev pub rank_behind : Option ℕ × List ℕ → Option ℕ × List ℕ
rank_behind x = elim x.0 [ None ↦ (None, x.1) | Some f ↦ rank_at x.1 ]

unfoldable pub squares_at : List ℕ → Option (SanSquares × List ℕ)
squares_at text =
    let f = file_at text in
    let r = rank_at f.1 in
    let x = takes_at r.1 in
    let tf = file_at x.1 in
    let tr = rank_behind tf in
    squares_from f.0 r.0 x.0 tf.0 tr.0 >>= λ s. Some (s, tr.1)

-- the parts of a text, if it has them
unfoldable pub san_of : List ℕ → Option San
san_of text = do
  let k = kind_at text
  s ← squares_at k.1
  p ← promotion_at s.1
  if is_ending p.1
      then Some (record { kind = k.0; file = s.0.file; rank = s.0.rank; is_capture = s.0.is_capture; target = s.0.target; promoted = p.0 }) else None

-- `O-O` or `O-O-O`, with letters or digits, and an ending
abbrev pub is_castling_with : ℕ → List ℕ → Bool
is_castling_with o (a ∷ b ∷ c ∷ d ∷ e ∷ rest) = (a == o && b == 45 && c == o) && ((d == 45 && e == o && is_ending rest) || is_ending (d ∷ e ∷ rest))
is_castling_with o (a ∷ b ∷ c ∷ rest) = (a == o && b == 45 && c == o) && is_ending rest
is_castling_with o _ = false

abbrev pub is_castling : List ℕ → Bool
is_castling text = is_castling_with 79 text || is_castling_with 48 text

-- The one FEN text that is written for a start.
use Rattle.std.specs.Prelude.{ℕ, zero, suc, ◌+◌, ◌*◌, ◌/◌, ◌%◌, List, [], ◌∷◌, ◌++◌, Option, Some, None, ◌==◌, if◌then◌else◌, decimal}
use Rattle.std.specs.List.{join_with_byte}
use Rattle.study_board.specs.declared.men.Side.{Side}
use Rattle.study_board.specs.declared.men.Side.TheVariants.{White, Black}
use Rattle.study_board.specs.declared.men.Kind.{Kind}
use Rattle.study_board.specs.declared.men.Man.{Man}
use Rattle.study_board.specs.Letters.{letter}
use Rattle.study_notation.specs.declared.placement.Piece.{Piece}
use Rattle.study_notation.specs.declared.start.Start.{Start}

-- KQRBNP for White, kqrbnp for Black: small letters are 32 above the others
abbrev pub man_letter : Side → Kind → ℕ
man_letter White k = letter k
man_letter Black k = letter k + 32

-- the man on a square, if any, without its square
abbrev pub piece_on : List Man → ℕ → Option Piece
piece_on [] at = None
piece_on (m ∷ men) at = if m.at == at then Some (record { side = m.side; kind = m.kind }) else piece_on men at

-- n squares from one on
abbrev pub row : List Man → ℕ → ℕ → List (Option Piece)
row men at zero = []
row men at (suc n) = piece_on men at ∷ row men (at + 1) n

-- one digit for a run of empty squares
abbrev pub run : ℕ → List ℕ
run n = if n == 0 then [] else (48 + n) ∷ []

-- squares, with n empty ones before them
abbrev pub squares_text : ℕ → List (Option Piece) → List ℕ
squares_text n [] = run n
squares_text n (None ∷ cells) = squares_text (n + 1) cells
squares_text n (Some p ∷ cells) = run n ++ (man_letter p.side p.kind ∷ squares_text 0 cells)

unfoldable pub rank_field : List Man → ℕ → List ℕ
rank_field men rank = squares_text 0 (row men (8 * rank) 8)

-- this rank, then a stroke and the ranks below it
unfoldable pub ranks_text : List Man → ℕ → List ℕ
ranks_text men zero = rank_field men 0
ranks_text men (suc k) = rank_field men (suc k) ++ (47 ∷ ranks_text men k)

unfoldable pub placement_text : List Man → List ℕ
placement_text men = ranks_text men 7

abbrev pub side_text : Side → List ℕ
side_text White = 119 ∷ []
side_text Black = 98 ∷ []

-- file and rank
abbrev pub square_text : ℕ → List ℕ
square_text at = (97 + at % 8) ∷ (49 + at / 8) ∷ []

abbrev pub passed_text : Option ℕ → List ℕ
passed_text None = 45 ∷ []
passed_text (Some at) = square_text at

-- six fields, and no castling
unfoldable pub fen_text : Start → List ℕ
fen_text s =
    join_with_byte 32 (placement_text s.position.men ∷ side_text s.position.to_move ∷ (45 ∷ []) ∷ passed_text
    s.position.passed ∷ decimal s.clock ∷ decimal s.number ∷ [])

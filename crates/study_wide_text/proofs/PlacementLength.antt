-- A placement has at most 71 bytes: eight ranks of at most eight, and seven strokes.
use Rattle.std.proofs.Common.{◌≡◌, ℕ, zero, suc, ◌+◌, ◌*◌, ◌≤◌, eqb, List, [], ◌∷◌, length, Option, Some, None, refl, arith, inl, inr, length-append}
use Rattle.std.proofs.lemmas.Bool.{cases_Bool}
use Rattle.study_board.specs.declared.men.Man.{Man}
use Rattle.study_notation.specs.declared.placement.Piece.{Piece}
use Rattle.study_notation.specs.FenSpelling.{man_letter, row, run, squares_text, rank_field, ranks_text, placement_text}

length-run : (n : ℕ) → length (run n) ≤ 1
length-run n = elim (cases_Bool (eqb n 0)) [ inl hit ↦ rw hit (omega arith) | inr miss ↦ rw miss (omega arith) ]

length-squares : (n : ℕ) (cells : List (Option Piece)) → length (squares_text n cells) ≤ length (run n) + length cells
length-squares n [] = omega arith
length-squares n (None ∷ cells) = omega (arith, length-squares (n + 1) cells, length-run (n + 1))
length-squares n (Some p ∷ cells) =
    omega (arith, length-append (run n) (man_letter p.side p.kind ∷ squares_text 0 cells), length-squares 0 cells)

length-row : (men : List Man) (at n : ℕ) → length (row men at n) ≡ n
length-row men at zero = refl
length-row men at (suc n) = let e = length-row men (at + 1) n in omega (arith, e)

length-rank : (men : List Man) (rank : ℕ) → length (rank_field men rank) ≤ 8
unfolding rank_field
length-rank men rank = omega (arith, length-squares 0 (row men (8 * rank) 8), length-row men (8 * rank) 8)

length-ranks : (men : List Man) (k : ℕ) → length (ranks_text men k) ≤ 8 + 9 * k
unfolding ranks_text
length-ranks men zero = length-rank men 0
length-ranks men (suc k) =
    omega (arith, length-append (rank_field men (suc k)) (47 ∷ ranks_text men k), length-rank men (suc k), length-ranks men k)

pub placement_is_short : (men : List Man) → length (placement_text men) ≤ 71
unfolding placement_text
placement_is_short men = omega (arith, length-ranks men 7)

-- No text has both the file and the rank of the origin.
use Rattle.study_board.specs.Men.{is_pawn}
use Rattle.std.proofs.Common.{◌≡◌, ℕ, true, false, not, ◌&&◌, sym, ◌∙◌}
use Rattle.std.proofs.lemmas.Bool.{false≢true, and_parts, not-true}
use Rattle.study_board.specs.declared.men.Man.{Man}
use Rattle.study_board.specs.Position.{Position}
use Rattle.study_notation.specs.SanSpelling.{has_rival, has_file_rival, gives_file, gives_rank}

pub not_both : (p : Position) (man : Man) (x : ℕ) → gives_file p man x ≡ true → gives_rank p man x ≡ true → ⊥
unfolding gives_file gives_rank
not_both p man x file rank =
    let r = and_parts (not (is_pawn man)) (has_file_rival p man x) rank in
    let piece : is_pawn man ≡ false = not-true (is_pawn man) r.0 in
    let given : (has_rival p man x && not (has_file_rival p man x)) ≡ true = rw piece at file in
    let no : has_file_rival p man x ≡ false = not-true (has_file_rival p man x) (and_parts (has_rival p man x) (not (has_file_rival p man x)) given).1 in
    false≢true (sym no ∙ r.1)

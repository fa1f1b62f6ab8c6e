use Rattle.std.proofs.Common.{◌+◌, ◌*◌, ℕ, sym, ◌∙◌, ap, arith}
use Rattle.std.proofs.lemmas.Bool.{false≢true}
use Rattle.study_board.specs.Sets.{has}
use Rattle.study_board.proofs.SetBits.{has-zero}
use Rattle.study_index.proofs.ClassLaws.{below}
use Rattle.study_index.proofs.ComputedIndex.{decoded_of_numbered}
use Rattle.study_retro.proofs.rows.predecessors.write_before_row.Goals as goal

pub returns-then-is_empty-clause-done : goal.returns-then-is_empty-clause-done
returns-then-is_empty-clause-done g c = λ n y on e b.
    absurd (false≢true (sym (has-zero y) ∙ ap (λ (s : ℕ). has s y) (sym (c.is_empty.ensures.0 c.if-is_empty.true)) ∙ e))

pub new-requires-clause-cell : goal.new-requires-clause-cell
new-requires-clause-cell g c =
    let f = c.first-square.ensures in
    let y = c.first-square.result in
    let number = 64 * c.args.row + y in
    let q = c.requires.numbered y f.inside f.there in
    let b = below c.args.class number q.0 (decoded_of_numbered c.args.class number q.0 q.1) in
    omega (arith, b)

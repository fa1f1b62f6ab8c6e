use Rattle.std.proofs.Common.{arith, ◌≡◌, ◌-◌, ◌%◌, sym, ◌∙◌}
use Rattle.std.proofs.lemmas.Bool.Decides.{nat_tests}
use Rattle.study_levels.proofs.HeldLemmas.{value_of-even, won_cell}
use Rattle.study_levels.proofs.propagate.tells_win.Goals as goal
use Rattle.study_levels.proofs.propagate.tells_win.Goals.{then-cell-ne0, else-cell-ne0}

pub returns-then-cell-eq0 : goal.returns-then-cell-eq0
returns-then-cell-eq0 c = elim c.if-cell-ne0.branch [
  | then-cell-ne0 w ↦
      let even : c.args.cell % 2 ≡ 0 = (let e = sym w.value-is ∙ c.if-cell-eq0.true in grind (arith, nat_tests)) in (
        λ t. (c.args.cell - 1, value_of-even c.args.cell w.if-cell-ne0.true even, (let small = t in grind (arith, nat_tests))),
        λ s. (let cell = (won_cell c.args.cell s.0 s.1).2 in let small = s.2 in grind (arith, nat_tests)),
      )
  | else-cell-ne0 w ↦
      absurd (let zero = w.if-cell-ne0.false in let e = sym w.value-is ∙ c.if-cell-eq0.true in grind (arith, nat_tests))
]

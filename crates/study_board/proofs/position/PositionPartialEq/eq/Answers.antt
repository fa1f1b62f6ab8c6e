use Rattle.std.proofs.Common.{arith}
use Rattle.std.proofs.lemmas.Grind.{common_steps}
use Rattle.study_board.proofs.EqualMen.{men_same, passed_same}
use Rattle.study_board.proofs.position.PositionPartialEq.eq.Goals as goal

pub returns-then-eq-2 : goal.returns-then-eq-2
returns-then-eq-2 c = grind (
  arith,
  common_steps,
  men_same c.self.inside.men.items c.other.inside.men.items,
  passed_same c.self.inside.passed c.other.inside.passed,
)

pub returns-else-eq-2 : goal.returns-else-eq-2
returns-else-eq-2 c = grind (arith, common_steps, men_same c.self.inside.men.items c.other.inside.men.items)

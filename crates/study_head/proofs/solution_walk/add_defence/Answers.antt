use Rattle.study_head.proofs.FactsMade.{front-shallow}
use Rattle.study_head.proofs.solution_walk.add_defence.Goals as goal

pub add_beside-requires-clause-front : goal.add_beside-requires-clause-front
add_beside-requires-clause-front g c = (_, c.in-Some.ensures.cases.0)

pub add_beside-requires-clause-depth : goal.add_beside-requires-clause-depth
add_beside-requires-clause-depth g c =
    front-shallow c.args.step.now.steps.now c.in-Some.front.now _ c.args.step.now.before.depth c.in-Some.ensures.cases.0 c.requires.step.shallow
    c.requires.step.step.before.depth

use Rattle.study_marks.specs.BenchState.{marked_study}
use Rattle.study_facts.specs.Nodes.{parent_path}
use Rattle.study_facts.proofs.Within.{leads-at, asks-wider}
use Rattle.study_head.proofs.solution_walk.SolutionFindingsFindings.add_node.Goals as goal

pub returns-then-is_given_defence-clause-asked : goal.returns-then-is_given_defence-clause-asked
returns-then-is_given_defence-clause-asked g c =
    let s = marked_study c.args.bench.now in
    let made = c.move_of-made.result in
    asks-wider g.V.Values.source s.start.position made.before.position.now
    (leads-at s (parent_path made.steps.now) made.before.position.now c.start-first.ensures.study.playable c.move_of-made.ensures.made.step.before.position)
    c.args.values.now c.add_defence.new.values c.add_defence.result c.add_defence.ensures.asked

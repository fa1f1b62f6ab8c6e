use Rattle.std.proofs.Common.{sym, ◌∙◌}
use Rattle.study_marks.specs.BenchState.{marked_study}
use Rattle.study_facts.proofs.Stands.{child-arrives}
use Rattle.study_facts.proofs.Trails.{at-some, at-front}
use Rattle.study_facts.proofs.walk.reached_by.Goals as goal

pub unreachable-requires : goal.unreachable-requires
unreachable-requires g c =
    let at = c.requires.states in
    child-arrives (marked_study c.args.bench.now) at.front c.as_slice-steps.result.now at.place (c.as_slice-steps.ensures.value ∙ at.path_is) at.there
    (sym c.move_to_node.ensures ∙ c.in-None.is)

pub last_state-requires : goal.last_state-requires
last_state-requires g c =
    let at = c.requires.states in
    at-some (marked_study c.args.bench.now) at.front c.args.trail.now.states.items at.at

pub walk_state_after-requires-clause-before : goal.walk_state_after-requires-clause-before
walk_state_after-requires-clause-before g c =
    let at = c.requires.states in
    at-front (marked_study c.args.bench.now) at.front c.args.trail.now.states.items at.at c.last_state.result.now c.last_state.ensures
    c.as_slice-steps.result.now at.place (c.as_slice-steps.ensures.value ∙ at.path_is)

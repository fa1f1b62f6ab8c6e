use Rattle.std.proofs.Common.{ℕ, List, [], ◌∷◌, ◌++◌, ap, subst, ◌∙◌}
use Rattle.study_board.specs.Position.{Position}
use Rattle.study_marks.specs.BenchState.{marked_study}
use Rattle.study_facts.specs.Line.{line_to}
use Rattle.study_facts.specs.WalkState.{IsStateAt}
use Rattle.study_facts.proofs.NodesShown.{front-is}
use Rattle.study_facts.proofs.Stands.{line-after}
use Rattle.study_facts.proofs.walk.descend.Goals as goal

pub reached_by-reached-requires-clause-states : goal.reached_by-reached-requires-clause-states
reached_by-reached-requires-clause-states g c = record {
  front = c.args.trail.now.steps.items;
  place = c.args.place;
  path_is = c.in_ok-push.ensures.items;
  there = c.requires.there;
  at = c.requires.states;
}

pub add_reached-requires-clause-states : goal.add_reached-requires-clause-states
add_reached-requires-clause-states g c = record {
  front = c.args.trail.now.steps.items;
  place = c.args.place;
  path_is = c.in_ok-push.ensures.items;
  there = c.requires.there;
  at = c.requires.states;
}

pub add_reached-requires-clause-line : goal.add_reached-requires-clause-line
add_reached-requires-clause-line g c =
    c.requires.line ∙ ap (line_to (marked_study c.args.bench.now)) (front-is c.push.new.self.items c.args.trail.now.steps.items c.args.place
    c.in_ok-push.ensures.items)

pub returns-clause-line : goal.returns-clause-line
returns-clause-line g c = (_, c.in_ok-push-2.ensures.items)

pub returns-clause-line_to : goal.returns-clause-line_to
returns-clause-line_to g c =
    let s = marked_study c.args.bench.now in
    let mid = c.args.trail.now.line.items in
    let front = front-is c.push.new.self.items c.args.trail.now.steps.items c.args.place c.in_ok-push.ensures.items in
    let before = c.requires.states.1.0 in
    line-after s c.push.new.self.items c.reached_by-reached.result.by c.reached_by-reached.ensures.by c.args.trail.now.steps.items c.args.place
    c.in_ok-push.ensures.items c.start-first.ensures.study.playable before c.reached_by-reached.result.here mid c.push-2.new.self.items
    (subst (λ (u : List ℕ). IsStateAt s u before) front c.requires.states.1.1) c.reached_by-reached.ensures.here
    (c.requires.line ∙ ap (line_to s) front)
    (c.in_ok-push-2.ensures.items ∙ ap (λ (q : Position). mid ++ q ∷ []) c.copied.ensures)

pub returns-clause-states : goal.returns-clause-states
returns-clause-states g c = (c.reached_by-reached.result.here, c.reached_by-reached.ensures.here, c.in_ok-push-3.ensures.items)

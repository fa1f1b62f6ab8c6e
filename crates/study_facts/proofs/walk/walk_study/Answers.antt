use Rattle.study_marks.specs.BenchState.{marked_study}
use Rattle.study_facts.specs.Asked.{within}
use Rattle.study_facts.proofs.Asking.{all-then, asks-then, same-asks}
use Rattle.study_facts.proofs.EachAdded.{all-added}
use Rattle.study_facts.proofs.Trails.{root-state}
use Rattle.study_facts.proofs.walk.walk_study.Goals as goal

pub walk_below-requires-clause-states : goal.walk_below-requires-clause-states
walk_below-requires-clause-states g c =
    root-state (marked_study c.args.bench.now) c.in_ok-trail.trail.steps.items c.in_ok-trail.trail.states.items c.root_walk_state-root.result
    c.in_ok-trail.ensures.steps c.in_ok-trail.ensures.states c.root_walk_state-root.ensures

pub returns-in_err-walk_below-clause-asked : goal.returns-in_err-walk_below-clause-asked
returns-in_err-walk_below-clause-asked g c =
    asks-then (within (marked_study c.args.bench.now).start.position g.V.Values.source)
    c.args.values.now c.add_root.new.values c.walk_below.new.values c.from_residual-in_err-walk_below.result c.in_ok-add_root.ensures.asked
    (same-asks (within (marked_study c.args.bench.now).start.position g.V.Values.source)
    c.add_root.new.values c.walk_below.new.values c.from_residual-in_err-walk_below.result c.in_err-walk_below.field-0.0
    c.from_residual-in_err-walk_below.ensures.1 c.in_err-walk_below.ensures.asked)

pub returns-clause-asked : goal.returns-clause-asked
returns-clause-asked g c =
    all-then (within (marked_study c.args.bench.now).start.position g.V.Values.source)
    c.args.values.now c.add_root.new.values c.walk_below.new.values c.in_ok-add_root.ensures.asked c.in_ok-walk_below.ensures.asked

pub returns-clause-adds : goal.returns-clause-adds
returns-clause-adds g c h =
    all-added (g.F.Findings.adds (marked_study c.args.bench.now)) (marked_study c.args.bench.now) c.in_ok-trail.trail.steps.items c.args.findings.now
    c.add_root.new.self
    c.walk_below.new.findings c.in_ok-trail.ensures.steps (c.in_ok-add_root.ensures.adds h)
    (c.in_ok-walk_below.ensures.adds (c.in_ok-add_root.ensures.asked.honest h))

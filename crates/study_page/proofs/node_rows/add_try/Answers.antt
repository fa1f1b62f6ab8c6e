use Rattle.std.proofs.Common.{map, arith}
use Rattle.study_moves.specs.Rules.{after}
use Rattle.study_moves.specs.LegalList.{legal_list}
use Rattle.study_tree.proofs.TreeDepth.{within-length}
use Rattle.study_marks.specs.BenchState.{marked_study}
use Rattle.study_facts.proofs.Within.{each-legal, some-fault, some-evaluated}
use Rattle.study_facts.proofs.NotHeld.{no_value-of}
use Rattle.study_facts.specs.Asked.{within}
use Rattle.study_facts.proofs.Asking.{of-fault, of-evaluated, no-memory}
use Rattle.study_page.proofs.node_rows.add_try.Goals as goal

pub refutations-requires : goal.refutations-requires
refutations-requires g c =
    let few = within-length 256 (marked_study c.args.bench.now).tree.below c.args.node.now.here.steps.now c.start-first.ensures.study.shallow
    c.requires.here.there in
    let deep = c.requires.here.node.depth in
    record { depth = omega (arith, few, deep) }

pub put_try_at-requires-clause-shallow : goal.put_try_at-requires-clause-shallow
put_try_at-requires-clause-shallow g c =
    let few = within-length 256 (marked_study c.args.bench.now).tree.below c.args.node.now.here.steps.now c.start-first.ensures.study.shallow
    c.requires.here.there in
    let deep = c.requires.here.node.depth in
    omega (arith, few, deep)

pub returns-in-Err-clause-asked : goal.returns-in-Err-clause-asked
returns-in-Err-clause-asked g c =
    of-fault (within c.args.node.now.here.node.position.now g.V.Values.source) (Unit {0})
    c.args.values.now c.refutations.new.values c.in-Err.fault
    (some-fault g.V.Values.source c.args.node.now.here.node.position.now (g.V.Values.source.held c.args.values.now) c.args.values.now c.refutations.new.values
    (map (after c.args.node.now.here.node.position.now) (legal_list c.args.node.now.here.node.position.now)) c.in-Err.fault
    (each-legal c.args.node.now.here.node.position.now) c.in-Err.ensures.no_value c.in-Err.ensures.first)
    (λ k e. no_value-of (g.V.Values.source.held c.args.values.now)
    (map (after c.args.node.now.here.node.position.now) (legal_list c.args.node.now.here.node.position.now))
    c.in-Err.fault k c.in-Err.ensures.no_value e)
    c.in-Err.ensures.no_damage c.in-Err.ensures.failures c.refutations.ensures.honest c.refutations.ensures.tables

pub returns-in_err-put_try_at-in-Ok-clause-asked : goal.returns-in_err-put_try_at-in-Ok-clause-asked
returns-in_err-put_try_at-in-Ok-clause-asked g c =
    no-memory (within c.args.node.now.here.node.position.now g.V.Values.source)
    c.args.values.now c.refutations.new.values c.from_residual.result c.from_residual.ensures.1
    (of-evaluated (within c.args.node.now.here.node.position.now g.V.Values.source)
    c.args.values.now c.refutations.new.values
    (some-evaluated g.V.Values.source c.args.node.now.here.node.position.now c.args.values.now c.refutations.new.values
    (map (after c.args.node.now.here.node.position.now) (legal_list c.args.node.now.here.node.position.now))
    (each-legal c.args.node.now.here.node.position.now) c.in-Ok.ensures.evaluated)
    c.in-Ok.ensures.failures c.refutations.ensures.honest c.refutations.ensures.tables)

pub returns-in_ok-put_try_at-in-Ok-clause-asked : goal.returns-in_ok-put_try_at-in-Ok-clause-asked
returns-in_ok-put_try_at-in-Ok-clause-asked g c =
    of-evaluated (within c.args.node.now.here.node.position.now g.V.Values.source)
    c.args.values.now c.refutations.new.values
    (some-evaluated g.V.Values.source c.args.node.now.here.node.position.now c.args.values.now c.refutations.new.values
    (map (after c.args.node.now.here.node.position.now) (legal_list c.args.node.now.here.node.position.now))
    (each-legal c.args.node.now.here.node.position.now) c.in-Ok.ensures.evaluated)
    c.in-Ok.ensures.failures c.refutations.ensures.honest c.refutations.ensures.tables

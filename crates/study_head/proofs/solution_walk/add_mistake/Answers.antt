use Rattle.std.proofs.Common.{List, sym, ap, subst, map, arith, ◌∙◌}
use Rattle.study_moves.specs.Rules.{after}
use Rattle.study_moves.specs.LegalList.{legal_list}
use Rattle.study_marks.specs.BenchState.{marked_study}
use Rattle.study_facts.specs.declared.continuation.EvaluatedMove.{EvaluatedMove}
use Rattle.study_facts.specs.Continuations.{AreRefutations}
use Rattle.study_facts.specs.Asked.{within}
use Rattle.study_facts.proofs.Asking.{of-fault, of-evaluated}
use Rattle.study_facts.proofs.NotHeld.{no_value-of}
use Rattle.study_facts.proofs.Within.{each-legal, some-fault, some-evaluated}
use Rattle.study_head.specs.Solution.{with_mistake}
use Rattle.study_head.proofs.FactsMade.{mistake-added}
use Rattle.study_head.proofs.solution_walk.add_mistake.Goals as goal

pub refutations-requires : goal.refutations-requires
refutations-requires g c =
    let deep = c.requires.node.node.depth in
    let few = c.requires.shallow in
    record { depth = omega (arith, few, deep) }

pub returns-in-Err-clause-asked : goal.returns-in-Err-clause-asked
returns-in-Err-clause-asked g c =
    let p = c.args.node.now.node.position.now in
    of-fault (within p g.V.Values.source) (Unit {0}) c.args.values.now c.refutations.new.values c.in-Err.fault
    (some-fault g.V.Values.source p (g.V.Values.source.held c.args.values.now) c.args.values.now c.refutations.new.values
    (map (after p) (legal_list p)) c.in-Err.fault (each-legal p) c.in-Err.ensures.no_value c.in-Err.ensures.first)
    (λ k e. no_value-of (g.V.Values.source.held c.args.values.now) (map (after p) (legal_list p)) c.in-Err.fault k c.in-Err.ensures.no_value e)
    c.in-Err.ensures.no_damage c.in-Err.ensures.failures c.refutations.ensures.honest c.refutations.ensures.tables

pub returns-in-Ok-clause-asked : goal.returns-in-Ok-clause-asked
returns-in-Ok-clause-asked g c =
    let p = c.args.node.now.node.position.now in
    of-evaluated (within p g.V.Values.source) c.args.values.now c.refutations.new.values
    (some-evaluated g.V.Values.source p c.args.values.now c.refutations.new.values (map (after p) (legal_list p)) (each-legal p) c.in-Ok.ensures.evaluated)
    c.in-Ok.ensures.failures c.refutations.ensures.honest c.refutations.ensures.tables

pub returns-in-Ok-clause-added : goal.returns-in-Ok-clause-added
returns-in-Ok-clause-added g c h =
    let s = marked_study c.args.bench.now in
    let node = c.args.node.now in
    mistake-added s node c.requires.node c.as_slice.result.now c.args.facts.now c.note_mistake.new.self
    (subst (λ (l : List EvaluatedMove). AreRefutations node.node.aim.now node.node.depth node.node.position.now l)
    (sym c.as_slice.ensures.value) (c.in-Ok.ensures.game h))
    (c.note_mistake.ensures ∙ ap (with_mistake c.args.facts.now) c.first_reply.ensures)

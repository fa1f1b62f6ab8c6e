use Rattle.std.proofs.Common.{◌≡◌, true, length, List, [], ◌∷◌, sym, ap, subst, arith, ◌∙◌}
use Rattle.study_marks.specs.BenchState.{marked_study}
use Rattle.study_moves.specs.LegalList.{legal_list}
use Rattle.study_facts.specs.declared.continuation.EvaluatedMove.{EvaluatedMove}
use Rattle.study_facts.specs.Continuations.{AreChosen}
use Rattle.study_facts.specs.Asked.{within}
use Rattle.study_review.specs.NodeFacts.{besides}
use Rattle.study_facts.proofs.Asking.{all-then, asks-then, same-asks, no-memory}
use Rattle.study_review.proofs.NodesReported.{also-evaluated, dual-evaluated, dual-timed}
use Rattle.study_review.proofs.fault_lines.add_dual_lines.Goals as goal

pub add_alternatives-requires-clause-few : goal.add_alternatives-requires-clause-few
add_alternatives-requires-clause-few g c = omega (arith, c.in_ok-evaluate_legal_moves.ensures.few, ap length c.as_slice.ensures.value)

pub returns-in_err-time-clause-asked : goal.returns-in_err-time-clause-asked
returns-in_err-time-clause-asked g c =
    asks-then (within c.args.step.now.before.position.now g.V.Values.source)
    c.args.values.now c.evaluate_legal_moves.new.values c.add_alternatives.new.values c.from_residual-in_err-time.result
    c.in_ok-evaluate_legal_moves.ensures.asked
    (same-asks (within c.args.step.now.before.position.now g.V.Values.source)
    c.evaluate_legal_moves.new.values c.add_alternatives.new.values c.from_residual-in_err-time.result c.in_err-time.field-0.0
    c.from_residual-in_err-time.ensures.1
    c.in_err-time.ensures.asked)

pub returns-in_err-add_listed_dual-clause-asked : goal.returns-in_err-add_listed_dual-clause-asked
returns-in_err-add_listed_dual-clause-asked g c =
    no-memory (within c.args.step.now.before.position.now g.V.Values.source)
    c.args.values.now c.add_alternatives.new.values c.from_residual-in_err-add_listed_dual.result c.from_residual-in_err-add_listed_dual.ensures.1
    (all-then (within c.args.step.now.before.position.now g.V.Values.source)
    c.args.values.now c.evaluate_legal_moves.new.values c.add_alternatives.new.values c.in_ok-evaluate_legal_moves.ensures.asked c.in_ok-time.ensures.asked)

pub returns-clause-also : goal.returns-clause-also
returns-clause-also g c h =
    also-evaluated (marked_study c.args.bench.now) c.args.step.now.steps.now c.args.step.now.before.aim.now c.args.step.now.before.depth
    c.args.step.now.line.now
    c.args.step.now.before.position.now c.args.step.now.played c.requires.made.step
    c.as_slice.result.now c.in_ok-time.time c.args.others c.args.draft.now.nodes c.add_alternatives.new.text (sym c.requires.made.mark ∙ c.requires.mark)
    (subst (λ (l : List EvaluatedMove). AreChosen (λ v. true) c.args.step.now.before.position.now (legal_list c.args.step.now.before.position.now) l)
    (sym c.as_slice.ensures.value) (c.in_ok-evaluate_legal_moves.ensures.game h))
    (c.in_ok-time.ensures.text (c.in_ok-evaluate_legal_moves.ensures.asked.honest h))

pub returns-clause-fault : goal.returns-clause-fault
returns-clause-fault g c h =
    let grew = c.in_ok-time.ensures.text (c.in_ok-evaluate_legal_moves.ensures.asked.honest h) in
    dual-evaluated (marked_study c.args.bench.now) c.args.step.now.steps.now c.args.step.now.before.aim.now c.args.step.now.before.depth
    c.args.step.now.line.now
    c.args.step.now.before.position.now c.args.step.now.played c.requires.made.step
    c.as_slice.result.now c.in_ok-time.time c.args.others c.args.step.now.mark.value c.args.step.now.solution grew.0 c.args.draft.now.faults
    c.add_listed_dual.new.text
    (sym c.requires.made.mark ∙ c.requires.mark) c.requires.made.value c.requires.made.solution
    (subst (λ (l : List EvaluatedMove). AreChosen (λ v. true) c.args.step.now.before.position.now (legal_list c.args.step.now.before.position.now) l)
    (sym c.as_slice.ensures.value) (c.in_ok-evaluate_legal_moves.ensures.game h))
    grew.1 c.in_ok-add_listed_dual.ensures

pub returns-clause-asked : goal.returns-clause-asked
returns-clause-asked g c =
    all-then (within c.args.step.now.before.position.now g.V.Values.source)
    c.args.values.now c.evaluate_legal_moves.new.values c.add_alternatives.new.values c.in_ok-evaluate_legal_moves.ensures.asked c.in_ok-time.ensures.asked

pub count_alternatives-requires-clause-few : goal.count_alternatives-requires-clause-few
count_alternatives-requires-clause-few g c = omega (arith, c.in_ok-evaluate_legal_moves.ensures.few, ap length c.as_slice-2.ensures.value)

pub returns-clause-time : goal.returns-clause-time
returns-clause-time g c h =
    let grew = c.in_ok-time.ensures.text (c.in_ok-evaluate_legal_moves.ensures.asked.honest h) in
    let evaluated = c.as_slice.result.now in
    let same : c.as_slice-2.result.now ≡ evaluated = c.as_slice-2.ensures.value ∙ sym c.as_slice.ensures.value in
    let before = c.args.step.now.before in
    dual-timed (marked_study c.args.bench.now) c.args.step.now.steps.now before.aim.now before.depth c.args.step.now.line.now before.position.now
    c.args.step.now.played c.requires.made.step
    evaluated c.in_ok-time.time c.count_alternatives.result c.args.others c.args.step.now.solution c.loses_time_alone-alone.result grew.0
    c.args.draft.now.time_faults c.count_where-draft.result
    (sym c.requires.made.mark ∙ c.requires.mark) c.requires.made.solution
    (c.count_alternatives.ensures.count ∙ ap (λ (l : List EvaluatedMove). length (besides before.aim.now before.depth (c.args.step.now.played ∷ []) l)) same)
    (subst (λ (l : List EvaluatedMove). AreChosen (λ v. true) before.position.now (legal_list before.position.now) l) (sym c.as_slice.ensures.value)
    (c.in_ok-evaluate_legal_moves.ensures.game h))
    grew.1 c.loses_time_alone-alone.ensures c.count_where-draft.ensures

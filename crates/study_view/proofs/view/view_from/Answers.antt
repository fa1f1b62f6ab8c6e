use Rattle.std.proofs.Common.{◌≡◌, List, true, refl, sym, ap, subst, ◌∙◌, length}
use Rattle.study_board.specs.Men.{same_side}
use Rattle.study_board.specs.Position.{Position}
use Rattle.study_moves.specs.LegalList.{legal_list}
use Rattle.study_notation.specs.declared.start.Start.{Start}
use Rattle.study_marks.specs.Goals.{aim_of}
use Rattle.study_marks.specs.BenchState.{marked_study}
use Rattle.study_facts.specs.declared.continuation.EvaluatedMove.{EvaluatedMove}
use Rattle.study_facts.specs.Continuations.{AreChosen}
use Rattle.study_view.specs.Asked.{EachEvaluated, StoppedAt}
use Rattle.study_view.specs.declared.fault.ViewFault.TheVariants.{OutOfMemory, Values}
use Rattle.study_view.specs.View.{asked_at}
use Rattle.study_view.proofs.AllAsked.{refused-after, each-wider, stopped-wider, each-more, walked-more}
use Rattle.study_facts.proofs.Within.{leads-at}
use Rattle.study_view.proofs.StartsAt.{position-of}
use Rattle.study_view.proofs.ViewMade.{asked-is, view-is}
use Rattle.study_view.proofs.view.view_from.Goals as goal

pub returns-in_err-moves-clause-asked : goal.returns-in_err-moves-clause-asked
returns-in_err-moves-clause-asked g c =
    let s = marked_study c.args.bench.now in
    let f = c.in_err-moves.field-0.0 in
    refused-after g.V.Values.source
    s.start.position (asked_at s c.args.steps.now) c.args.values.now c.evaluate_legal_moves.new.values c.from_residual.result (Values f)
    c.from_residual.ensures.1
    (subst
    (λ (asked : List Position). StoppedAt g.V.Values.source
    s.start.position asked c.args.values.now f c.evaluate_legal_moves.new.values) (asked-is s c.args.steps.now c.args.start.now c.requires.start)
    (stopped-wider g.V.Values.source s.start.position c.args.start.now.position
    (leads-at s c.args.steps.now c.args.start.now.position c.start.ensures.study.playable (position-of s c.args.steps.now c.args.start.now c.requires.start))
    _ c.args.values.now f c.evaluate_legal_moves.new.values c.in_err-moves.ensures.asked))

pub returns-in_err-found-clause-asked : goal.returns-in_err-found-clause-asked
returns-in_err-found-clause-asked g c =
    let s = marked_study c.args.bench.now in
    refused-after g.V.Values.source
    s.start.position (asked_at s c.args.steps.now) c.args.values.now c.found_in.new.values c.from_residual-in_err-found.result c.in_err-found.field-0.0
    c.from_residual-in_err-found.ensures.1
    (walked-more g.V.Values.source (Unit {0}) (Unit {0}) s.start.position (asked_at s c.args.steps.now) c.args.values.now c.evaluate_legal_moves.new.values
    c.found_in.new.values
    c.in_err-found.field-0.0
    (subst
    (λ (asked : List Position). EachEvaluated g.V.Values.source
    s.start.position asked c.args.values.now c.evaluate_legal_moves.new.values) (asked-is s c.args.steps.now c.args.start.now c.requires.start)
    (each-wider g.V.Values.source s.start.position c.args.start.now.position
    (leads-at s c.args.steps.now c.args.start.now.position c.start.ensures.study.playable (position-of s c.args.steps.now c.args.start.now c.requires.start))
    _ c.args.values.now c.evaluate_legal_moves.new.values c.in_ok-moves.ensures.asked)) c.in_err-found.ensures.asked)

pub returns-in_err-text-clause-asked : goal.returns-in_err-text-clause-asked
returns-in_err-text-clause-asked g c =
    let s = marked_study c.args.bench.now in
    refused-after g.V.Values.source
    s.start.position (asked_at s c.args.steps.now) c.args.values.now c.found_in.new.values c.from_residual-in_err-text.result OutOfMemory
    c.from_residual-in_err-text.ensures.1
    (each-more g.V.Values.source s.start.position (asked_at s c.args.steps.now) c.args.values.now c.evaluate_legal_moves.new.values c.found_in.new.values
    (subst
    (λ (asked : List Position). EachEvaluated g.V.Values.source
    s.start.position asked c.args.values.now c.evaluate_legal_moves.new.values) (asked-is s c.args.steps.now c.args.start.now c.requires.start)
    (each-wider g.V.Values.source s.start.position c.args.start.now.position
    (leads-at s c.args.steps.now c.args.start.now.position c.start.ensures.study.playable (position-of s c.args.steps.now c.args.start.now c.requires.start))
    _ c.args.values.now c.evaluate_legal_moves.new.values c.in_ok-moves.ensures.asked)) c.in_ok-found.ensures.asked)

pub returns-clause-asked : goal.returns-clause-asked
returns-clause-asked g c =
    let s = marked_study c.args.bench.now in
    each-more g.V.Values.source s.start.position (asked_at s c.args.steps.now) c.args.values.now c.evaluate_legal_moves.new.values c.found_in.new.values
    (subst
    (λ (asked : List Position). EachEvaluated g.V.Values.source
    s.start.position asked c.args.values.now c.evaluate_legal_moves.new.values) (asked-is s c.args.steps.now c.args.start.now c.requires.start)
    (each-wider g.V.Values.source s.start.position c.args.start.now.position
    (leads-at s c.args.steps.now c.args.start.now.position c.start.ensures.study.playable (position-of s c.args.steps.now c.args.start.now c.requires.start))
    _ c.args.values.now c.evaluate_legal_moves.new.values c.in_ok-moves.ensures.asked)) c.in_ok-found.ensures.asked

pub returns-clause-text : goal.returns-clause-text
returns-clause-text g c h =
    let s = marked_study c.args.bench.now in
    let here = c.args.start.now in
    let st = c.stipulation-stipulation.result in
    let aim : c.aim_of-aim.result ≡ aim_of s =
    c.aim_of-aim.ensures
    ∙ ap (λ t. record { goal = st.goal; hero_first = same_side st.hero t }) (c.to_move.ensures ∙ ap (λ (x : Start). x.position.to_move) c.start.ensures.value)
    ∙ ap (λ u. record { goal = u.goal; hero_first = same_side u.hero s.start.position.to_move }) c.stipulation-stipulation.ensures in
    view-is s c.args.steps.now here c.aim_of-aim.result (length c.args.steps.now) c.value_at.result c.as_slice.result.now c.in_ok-found.found.lines.nodes
    c.in_ok-found.found.lines.zugzwangs c.in_ok-found.found.facts c.in_ok-text.text
    c.requires.found c.requires.start aim refl c.value_at.ensures
    (subst (λ (l : List EvaluatedMove). AreChosen (λ v. true) here.position (legal_list here.position) l) (sym c.as_slice.ensures.value)
    (c.in_ok-moves.ensures.game h)) c.in_ok-found.ensures.nodes (c.in_ok-found.ensures.zugzwangs (c.in_ok-moves.ensures.asked.all.honest h))
    (c.in_ok-found.ensures.facts (c.in_ok-moves.ensures.asked.all.honest h))
    c.in_ok-text.ensures

use Rattle.std.proofs.Common.{List, ℕ, [], ◌∷◌, ◌++◌, refl, ap, ◌∙◌, sym, append-nil}
use Rattle.std.proofs.lemmas.Result.{on_ok_weaker}
use Rattle.study_board.specs.Position.{Position}
use Rattle.study_moves.specs.Rules.{after}
use Rattle.study_notation.specs.declared.start.Start.{Start}
use Rattle.study_marks.specs.BenchState.{marked_study}
use Rattle.study_marks.proofs.MovesToNode.{legal-last, position-last}
use Rattle.study_head.specs.Words.{label}
use Rattle.study_page.proofs.KeyMade.{answer_none, answer_some}
use Rattle.study_page.proofs.sheet.add_answer.Goals as goal

pub played-next-requires : goal.played-next-requires
played-next-requires g c =
    let s = marked_study c.args.bench.now in
    let root : List ℕ = [] in
    legal-last s.start.position c.start-first.result.now.position s.tree (0 ∷ root) root 0 c.args.m refl
    c.requires c.start-first.ensures.study.playable (ap (λ x. x.position) c.start-first.ensures.value)

pub add_label-requires : goal.add_label-requires
add_label-requires g c =
    let s = marked_study c.args.bench.now in
    let root : List ℕ = [] in
    let front : List ℕ = 0 ∷ [] in
    legal-last s.start.position c.played-next.result s.tree (0 ∷ 0 ∷ root) front 0 c.in-Some.answer refl
    (sym c.move_to.ensures ∙ c.in-Some.is) c.start-first.ensures.study.playable
    (c.played-next.ensures.value ∙ position-last s.start.position c.start-first.result.now.position s.tree (0 ∷ root) root 0 c.args.m refl
    c.requires c.start-first.ensures.study.playable (ap (λ x. x.position) c.start-first.ensures.value))

pub returns-in-None : goal.returns-in-None
returns-in-None g c =
    sym (append-nil c.args.text.now)
    ∙ ap (λ (t : List ℕ). c.args.text.now ++ t)
    (sym (answer_none (marked_study c.args.bench.now) c.args.m c.requires (sym c.move_to.ensures ∙ c.in-None.is)))

pub returns-in-Some : goal.returns-in-Some
returns-in-Some g c =
    let s = marked_study c.args.bench.now in
    on_ok_weaker c.add_label.result
    (λ h. h ∙ ap (λ (p : Position). c.args.text.now ++ label c.start-first.result.now 1 p c.in-Some.answer) c.played-next.ensures.value
    ∙ ap (λ (x : Start). c.args.text.now ++ label x 1 (after x.position c.args.m) c.in-Some.answer) c.start-first.ensures.value
    ∙ ap (λ (t : List ℕ). c.args.text.now ++ t)
    (answer_some s c.args.m c.in-Some.answer c.requires (sym c.move_to.ensures ∙ c.in-Some.is)))
    c.add_label.ensures

use Rattle.std.proofs.Common.{List, ℕ, [], ◌∷◌, ◌++◌, refl, ap, ◌∙◌, sym, append-nil}
use Rattle.std.proofs.lemmas.Result.{on_ok_weaker}
use Rattle.study_marks.specs.BenchState.{marked_study}
use Rattle.study_marks.proofs.MovesToNode.{legal-last}
use Rattle.study_head.specs.Words.{label}
use Rattle.study_page.proofs.KeyMade.{key_none, key_some}
use Rattle.study_page.proofs.sheet.add_first.Goals as goal

pub add_label-requires : goal.add_label-requires
add_label-requires g c =
    let s = marked_study c.args.bench.now in
    let root : List ℕ = [] in
    legal-last s.start.position c.start-first.result.now.position s.tree (0 ∷ root) root 0 c.in-Some.m refl
    (sym c.move_to.ensures ∙ c.in-Some.is) c.start-first.ensures.study.playable (ap (λ x. x.position) c.start-first.ensures.value)

pub returns-in-None : goal.returns-in-None
returns-in-None g c =
    sym (append-nil c.args.text.now)
    ∙ ap (λ (t : List ℕ). c.args.text.now ++ t) (sym (key_none (marked_study c.args.bench.now) (sym c.move_to.ensures ∙ c.in-None.is)))

pub returns-in-Some : goal.returns-in-Some
returns-in-Some g c =
    let s = marked_study c.args.bench.now in
    on_ok_weaker c.add_label.result
    (λ h. h ∙ ap (λ x. c.args.text.now ++ label x 0 x.position c.in-Some.m) c.start-first.ensures.value
    ∙ ap (λ (t : List ℕ). c.args.text.now ++ t) (key_some s c.in-Some.m (sym c.move_to.ensures ∙ c.in-Some.is)))
    c.add_label.ensures

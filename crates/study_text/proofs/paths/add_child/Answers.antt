use Rattle.std.proofs.Common.{ℕ, List, [], ◌∷◌, ◌++◌, sym, ap, ◌∙◌, append_assoc}
use Rattle.std.specs.Prelude.{decimal}
use Rattle.std.proofs.lemmas.Result.{on_ok_weaker}
use Rattle.study_text.specs.Paths.{more_places}
use Rattle.study_text.proofs.PathText.{child_none, child_some}
use Rattle.study_text.proofs.paths.add_child.Goals as goal

pub returns-in_default : goal.returns-in_default
returns-in_default g c = on_ok_weaker c.add_number.result
    (λ h. h ∙ ap (λ (t : List ℕ). c.args.text.now ++ t) (sym (child_none c.args.steps.now c.args.place c.in_default.ensures.cases)))
    c.add_number.ensures

pub returns : goal.returns
returns g c =
    let old = c.args.text.now in
    let first = decimal c.in-Some.first.now in
    let rest = more_places c.in-Some.rest.now in
    let last = decimal c.args.place in
    on_ok_weaker c.add_number-3.result
    (λ h. h
    ∙ ap (λ (t : List ℕ). t ++ last) c.in_ok-add.ensures ∙ append_assoc c.add_places.new.text (46 ∷ []) last
    ∙ ap (λ (t : List ℕ). t ++ (46 ∷ last)) c.in_ok-add_places.ensures ∙ append_assoc c.add_number-2.new.self rest (46 ∷ last)
    ∙ ap (λ (t : List ℕ). t ++ (rest ++ (46 ∷ last))) c.in_ok-add_number.ensures ∙ append_assoc old first (rest ++ (46 ∷ last))
    ∙ ap (λ (t : List ℕ). old ++ t) (sym (child_some c.args.steps.now c.in-Some.first.now c.in-Some.rest.now c.args.place c.in-Some.ensures.cases.0)))
    c.add_number-3.ensures

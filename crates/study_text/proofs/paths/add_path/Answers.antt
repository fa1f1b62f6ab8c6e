use Rattle.std.proofs.Common.{◌≡◌, ℕ, List, [], ◌∷◌, ◌++◌, length, refl, sym, ap, ◌∙◌, append_assoc}
use Rattle.std.specs.Prelude.{codes, decimal}
use Rattle.std.proofs.lemmas.List.{nil_from_length}
use Rattle.std.proofs.lemmas.Result.{on_ok_weaker}
use Rattle.study_text.specs.Paths.{path_text, more_places}
use Rattle.study_text.proofs.paths.add_path.Goals as goal

text_root : path_text [] ≡ codes "root"
unfolding path_text
text_root = refl

text_none : (ks : List ℕ) → length ks ≡ 0 → path_text ks ≡ codes "root"
text_none ks e = ap path_text (nil_from_length ks e) ∙ text_root

text_cons : (k : ℕ) (rest : List ℕ) → path_text (k ∷ rest) ≡ decimal k ++ more_places rest
unfolding path_text
text_cons k rest = refl

text_some : (ks : List ℕ) (k : ℕ) (rest : List ℕ) → ks ≡ k ∷ rest → path_text ks ≡ decimal k ++ more_places rest
text_some ks k rest e = ap path_text e ∙ text_cons k rest

pub returns-in-None : goal.returns-in-None
returns-in-None g c = on_ok_weaker c.add.result (λ h. h
    ∙ ap (λ (t : List ℕ). c.args.text.now ++ t) (sym (text_none c.args.steps.now c.in-None.ensures.cases))) c.add.ensures

pub returns-in_ok-add_number-in-Some : goal.returns-in_ok-add_number-in-Some
returns-in_ok-add_number-in-Some g c =
    let k = c.in-Some.first.now in
    let rest = c.in-Some.rest.now in
    on_ok_weaker c.add_places.result
    (λ h. h ∙ ap (λ (t : List ℕ). t ++ more_places rest) c.in_ok-add_number-in-Some.ensures ∙ append_assoc c.args.text.now (decimal k) (more_places rest)
    ∙ ap (λ (t : List ℕ). c.args.text.now ++ t) (sym (text_some c.args.steps.now k rest c.in-Some.ensures.cases.0)))
    c.add_places.ensures

-- Paths as text.
use Rattle.std.proofs.Common.{◌≡◌, ℕ, List, [], ◌∷◌, ◌++◌, length, refl, sym, ap, ◌∙◌, append_assoc}
use Rattle.std.specs.Prelude.{decimal}
use Rattle.std.proofs.lemmas.List.{append-nil, nil_from_length}
use Rattle.study_text.specs.Paths.{path_text, more_places}

-- one more place
more-child : (ks : List ℕ) (p : ℕ) → more_places (ks ++ p ∷ []) ≡ more_places ks ++ (46 ∷ decimal p)
more-child [] p = ap (λ (t : List ℕ). 46 ∷ t) (append-nil (decimal p))
more-child (k ∷ ks) p = ap (λ (t : List ℕ). 46 ∷ (decimal k ++ t)) (more-child ks p) ∙ ap (λ (t : List ℕ). 46 ∷ t)
    (sym (append_assoc (decimal k) (more_places ks) (46 ∷ decimal p)))

text_cons : (k : ℕ) (rest : List ℕ) → path_text (k ∷ rest) ≡ decimal k ++ more_places rest
unfolding path_text
text_cons k rest = refl

-- the path of a child of the root
pub child_none : (ks : List ℕ) (p : ℕ) → length ks ≡ 0 → path_text (ks ++ p ∷ []) ≡ decimal p
child_none ks p e = ap (λ (l : List ℕ). path_text (l ++ p ∷ [])) (nil_from_length ks e) ∙ text_cons p [] ∙ append-nil (decimal p)

-- the path of a child of another node
pub child_some : (ks : List ℕ) (k : ℕ) (rest : List ℕ) (p : ℕ) → ks ≡ k ∷ rest → path_text (ks ++ p ∷ []) ≡ decimal k ++ (more_places rest ++ (46 ∷ decimal p))
child_some ks k rest p e = ap (λ (l : List ℕ). path_text (l ++ p ∷ [])) e ∙ text_cons k (rest ++ p ∷ [])
    ∙ ap (λ (t : List ℕ). decimal k ++ t) (more-child rest p)

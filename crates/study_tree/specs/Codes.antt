-- The parts that a `Model` must have beside its view: trees as numbers, and that a node is larger than those below it. No contract uses them.
use Rattle.std.specs.Prelude.{◌≡◌, ℕ, ◌+◌, ◌≤◌, List, [], ◌∷◌, ◌++◌, Option, Some, None, refl}
use Rattle.std.proofs.Common.{arith, ap, ◌∙◌, sym, append_assoc, append-nil}
use Rattle.std.specs.Coded.{Coded, code_by, coded×, coded_ℕ, coded_list, coded_option}
use denote.Param.Weighed.{most}
use Rattle.study_moves.specs.declared.moves.Move.{Move}
use Rattle.study_moves.specs.MoveCode.{move_code}
use Rattle.study_tree.specs.Forest.{Forest, none, more, Twig, forest_of, nodes_in, nodes_from}
use Rattle.study_tree.specs.Tree.{Held, Plain}

module _ {L : Type 0} where
  -- fewer nodes are below each node than in the whole forest
  pub most_le-nodes_in : (ts : List (Twig L)) → most (λ t. nodes_from t + 1) ts ≤ nodes_in (forest_of ts) + 1
  most_le-nodes_in [] = omega arith
  most_le-nodes_in (t ∷ ts) = omega (arith, most_le-nodes_in ts)

  -- A forest is encoded as a list: for each node its move and label, the code of the forest below it and that of the later siblings; `None` at an end.
  abbrev pub tokens_of : Forest L → List (Option (Move × L))
  tokens_of none = None ∷ []
  tokens_of (more m l b r) = Some (m, l) ∷ (tokens_of b ++ tokens_of r)

  abbrev pub forest_joined : Move → L → List (Forest L) → List (Forest L)
  forest_joined m l [] = []
  forest_joined m l (b ∷ []) = []
  forest_joined m l (b ∷ r ∷ fs) = more m l b r ∷ fs

  abbrev pub forests_of : List (Option (Move × L)) → List (Forest L)
  forests_of [] = []
  forests_of (None ∷ ts) = none ∷ forests_of ts
  forests_of (Some p ∷ ts) = forest_joined p.0 p.1 (forests_of ts)

  abbrev pub first_forest : List (Forest L) → Forest L
  first_forest [] = none
  first_forest (f ∷ fs) = f

  pub forests_of-tokens_of : (f : Forest L) (ts : List (Option (Move × L))) → forests_of (tokens_of f ++ ts) ≡ f ∷ forests_of ts
  forests_of-tokens_of none ts = refl
  forests_of-tokens_of (more m l b r) ts =
      ap (λ xs. forest_joined m l (forests_of xs)) (append_assoc (tokens_of b) (tokens_of r) ts)
      ∙ ap (forest_joined m l) (forests_of-tokens_of b (tokens_of r ++ ts)) ∙ ap (λ fs. forest_joined m l (b ∷ fs)) (forests_of-tokens_of r ts)

  pub first_forest-tokens_of : (f : Forest L) → first_forest (forests_of (tokens_of f)) ≡ f
  first_forest-tokens_of f = ap (λ ts. first_forest (forests_of ts)) (sym (append-nil (tokens_of f))) ∙ ap first_forest (forests_of-tokens_of f [])

abbrev pub forest_code : {L : Type 0} → Coded L → Coded (Forest L)
forest_code {L} code =
    code_by (List (Option (Move × L))) (coded_list (coded_option (coded× move_code code))) tokens_of
    (λ ts. first_forest (forests_of ts)) first_forest-tokens_of

abbrev pub twig_code : {L : Type 0} → Coded L → Coded (Twig L)
twig_code {L} code =
    code_by (Move × (L × Forest L)) (coded× move_code (coded× code (forest_code code))) (λ t. (t.played, (t.label, t.below)))
    (λ p. record { played = p.0; label = p.1.0; below = p.1.1 }) (λ _. refl)

abbrev pub held_code : {L : Type 0} → Coded L → Coded (Held L)
held_code {L} code =
    code_by (L × (ℕ × (Forest (L × ℕ) × ℕ))) (coded× code (coded× coded_ℕ (coded× (forest_code (coded× code coded_ℕ)) coded_ℕ)))
    (λ h. (h.label, (h.spare, (h.below, h.relabelled)))) (λ p. record { label = p.0; spare = p.1.0; below = p.1.1.0; relabelled = p.1.1.1 }) (λ _. refl)

abbrev pub plain_code : {L : Type 0} → Coded L → Coded (Plain L)
plain_code {L} code =
    code_by (L × Forest L) (coded× code (forest_code code)) (λ t. (t.label, t.below)) (λ p. record { label = p.0; below = p.1 }) (λ _. refl)

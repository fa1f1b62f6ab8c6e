-- The node at a path, and the last place of a path.
use Rattle.std.proofs.Common.{◌≡◌, ℕ, ◌≤◌, ◌-◌, List, [], ◌∷◌, length, true, Option, Some, None, refl, sym, ap, ◌∙◌, arith, zero, suc}
use Rattle.std.specs.Prelude.{slice_get, is_some, IfSome}
use Rattle.std.proofs.lemmas.Bool.{ne_eqb}
use Rattle.study_moves.specs.declared.moves.Move.{Move}
use Rattle.study_tree.specs.declared.fault.TreeFault.TheVariants.{AlreadyFirst}
use Rattle.study_tree.specs.Forest.{Forest, none, more, Twig, forest_of, nodes_in, nodes_from}
use Rattle.study_tree.specs.Edits.{node_in, children_at, width, without_spares, last_place}
use Rattle.study_tree.specs.Tree.{Plain, Spot, spot_at, twig_spot, has_spot, move_up_refusal}
use Rattle.study_tree.proofs.ShownTrees.{node_in-plain, width-plain, plain_twig, width-le, is_some-node_in}
use Rattle.study_tree.proofs.PathSteps.{width-forest_of}

last_place-get : (k : ℕ) (ks : List ℕ) → slice_get (k ∷ ks) (length ks) ≡ Some (last_place k ks)
last_place-get k [] = refl
last_place-get k (j ∷ js) = last_place-get j js

pub last_place-read : (steps : List ℕ) (k : ℕ) (ks : List ℕ) (x : ℕ) → steps ≡ k ∷ ks → Some x ≡ slice_get steps (length steps - 1) → last_place k ks ≡ x
last_place-read steps k ks x path read =
    let n : length steps - 1 ≡ length ks = omega (arith, ap length path) in
    let e : Some x ≡ Some (last_place k ks) = read ∙ ap (slice_get steps) n ∙ ap (λ xs. slice_get xs (length ks)) path ∙ last_place-get k ks in
    cc

module _ {L : Type 0} where
  pub move_up_refusal-first : (t : Plain L) (steps : List ℕ) (k : ℕ) (ks : List ℕ) → steps ≡ k ∷ ks
      → has_spot t steps ≡ true → last_place k ks ≡ 0 → move_up_refusal t steps ≡ Some AlreadyFirst
  move_up_refusal-first t steps k ks path found first =
      let here = sym (ap (has_spot t) path) ∙ found in ap (move_up_refusal t) path ∙ rw (here, first) refl

  pub move_up_refusal-none : (t : Plain L) (steps : List ℕ) (k : ℕ) (ks : List ℕ) → steps ≡ k ∷ ks
      → has_spot t steps ≡ true → (last_place k ks ≡ 0 → ⊥) → move_up_refusal t steps ≡ None
  move_up_refusal-none t steps k ks path found later =
      let here = sym (ap (has_spot t) path) ∙ found in ap (move_up_refusal t) path ∙ rw (here, ne_eqb (last_place k ks) 0 later) refl

  pub length-le : (ts : List (Twig L)) → length ts ≤ nodes_in (forest_of ts)
  length-le ts = omega (arith, width-forest_of ts, width-le (forest_of ts))

  pub nodes_from-node_in : (f : Forest L) (k : ℕ) (ks : List ℕ) (t : Twig L) → Some t ≡ node_in f k ks → nodes_from t ≤ nodes_in f
  nodes_from-node_in none k ks t e = let no : ⊥ = cc in absurd no
  nodes_from-node_in (more m l b r) zero [] t e = let same : t ≡ record { played = m; label = l; below = b } = cc in
      let count = ap nodes_from same in omega arith
  nodes_from-node_in (more m l b r) zero (j ∷ js) t e = omega (arith, nodes_from-node_in b j js t e)
  nodes_from-node_in (more m l b r) (suc k) ks t e = omega (arith, nodes_from-node_in r k ks t e)

  pub spot-root : (t : Plain L) (steps : List ℕ) → length steps ≡ 0
      → spot_at t steps ≡ Some (record { played = None; label = t.label; children = width t.below })
  spot-root t (k ∷ ks) z = absurd (omega arith)
  spot-root t [] z = refl

  pub spot-none : (us vs : List (Twig (L × ℕ))) (t : Plain L) (steps : List ℕ) (k : ℕ) (ks : List ℕ) → vs ≡ us
      → without_spares (forest_of us) ≡ t.below → steps ≡ k ∷ ks → None ≡ node_in (forest_of vs) k ks → spot_at t steps ≡ None
  spot-none us vs t steps k ks same shown path read =
      ap (spot_at t) path ∙ ap (λ f. twig_spot (node_in f k ks)) (sym shown)
      ∙ ap twig_spot (node_in-plain (forest_of us) k ks)
      ∙ ap (λ xs. twig_spot (plain_twig (node_in (forest_of xs) k ks))) (sym same)
      ∙ ap (λ o. twig_spot (plain_twig o)) (sym read)

  pub spot-some : (us vs : List (Twig (L × ℕ))) (t : Plain L) (steps : List ℕ) (k : ℕ) (ks : List ℕ)
      (u : Twig (L × ℕ)) → vs ≡ us → without_spares (forest_of us) ≡ t.below → steps ≡ k ∷ ks
      → Some u ≡ node_in (forest_of vs) k ks
      → spot_at t steps ≡ Some (record { played = Some u.played; label = u.label.0; children = width u.below })
  spot-some us vs t steps k ks u same shown path read =
      ap (spot_at t) path ∙ ap (λ f. twig_spot (node_in f k ks)) (sym shown)
      ∙ ap twig_spot (node_in-plain (forest_of us) k ks)
      ∙ ap (λ xs. twig_spot (plain_twig (node_in (forest_of xs) k ks))) (sym same)
      ∙ ap (λ o. twig_spot (plain_twig o)) (sym read)
      ∙ ap (λ n. Some (record { played = Some u.played; label = u.label.0; children = n })) (width-plain u.below)

  abbrev pub spot_of : Option Move → L → ℕ → Option (Spot L)
  spot_of o l n = Some (record { played = o; label = l; children = n })

  pub spot-same : (o p : Option Move) (l x : L) (n k : ℕ) → o ≡ p → l ≡ x → n ≡ k → spot_of o l n ≡ spot_of p x k
  spot-same o p l x n k a b c = rw (a, b, c) refl

module _ {L : Type 0} where
  twig_some : (o : Option (Twig L)) → is_some (twig_spot o) ≡ is_some o
  twig_some None = refl
  twig_some (Some t) = refl

  twig_children : (f : Forest L) (k : ℕ) (ks : List ℕ) → IfSome (twig_spot (node_in f k ks)) (λ s. s.children ≡ children_at f (k ∷ ks))
  twig_children none k ks = tt
  twig_children (more m l b r) zero [] = refl
  twig_children (more m l b r) zero (j ∷ js) = twig_children b j js
  twig_children (more m l b r) (suc k) ks = twig_children r k ks

  -- there is a node exactly if a path shows one, with as many children as it shows
  pub places-shown : (t : Plain L) (steps : List ℕ) → (has_spot t steps ≡ is_some (spot_at t steps))
      × IfSome (spot_at t steps) (λ s. s.children ≡ children_at t.below steps)
  places-shown t [] = (refl, refl)
  places-shown t (k ∷ ks) = (sym (twig_some (node_in t.below k ks) ∙ is_some-node_in t.below k ks), twig_children t.below k ks)

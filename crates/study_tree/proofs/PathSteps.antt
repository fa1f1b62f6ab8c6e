-- One step of a path, in a list of nodes: t is the node at place k.
use Rattle.std.proofs.Common.{◌≡◌, ℕ, ◌<◌, ◌+◌, List, [], ◌∷◌, length, get_or, IsTrue, Some, None}
use Rattle.std.proofs.Common.{refl, sym, ap, ◌∙◌, ◌≤◌, arith, zero, suc, set, subst, ◌++◌, ◌-◌}
use Rattle.std.specs.Prelude.{remove, swap}
use Rattle.study_moves.specs.declared.moves.Move.{Move}
use Rattle.study_tree.specs.Forest.{Forest, none, more, Twig, forest_of, nodes_in, nodes_from}
use Rattle.study_tree.specs.Edits.{has_node, node_in, below_edited, with_last, width, children_at, without_spares}
use Rattle.study_tree.specs.Edits.{spare_at, place_edited, labelled_at, dropped_at, raised_at, last_place}

module _ {L : Type 0} where
  pub width-forest_of : (ts : List (Twig L)) → width (forest_of ts) ≡ length ts
  width-forest_of [] = refl
  width-forest_of (t ∷ ts) = omega (arith, width-forest_of ts)

  pub has_node-within : (ts : List (Twig L)) (k : ℕ) (ks : List ℕ) → IsTrue (has_node (forest_of ts) (k ∷ ks)) → k < length ts
  has_node-within [] k ks h = let no : ⊥ = cc in absurd no
  has_node-within (u ∷ ts) zero ks h = omega arith
  has_node-within (u ∷ ts) (suc k) ks h = omega (arith, has_node-within ts k ks h)

  pub children_at-here : (ts : List (Twig L)) (ks : List ℕ) → length ks ≡ 0 → children_at (forest_of ts) ks ≡ length ts
  children_at-here ts (k ∷ ks) z = absurd (omega arith)
  children_at-here ts [] z = width-forest_of ts

  pub has_node-at : (ts : List (Twig L)) (k : ℕ) (ks : List ℕ) (t : Twig L)
      → IsTrue (has_node (forest_of ts) (k ∷ ks)) → t ≡ get_or ts k t → IsTrue (has_node t.below ks)
  has_node-at [] k ks t h e = let no : ⊥ = cc in absurd no
  has_node-at (u ∷ ts) zero ks t h e = rw e h
  has_node-at (u ∷ ts) (suc k) ks t h e = has_node-at ts k ks t h e

  pub children_at-at : (ts : List (Twig L)) (k : ℕ) (ks : List ℕ) (t : Twig L) → k < length ts → t ≡ get_or ts k t
      → children_at (forest_of ts) (k ∷ ks) ≡ children_at t.below ks
  children_at-at [] k ks t p e = absurd (omega arith)
  children_at-at (u ∷ ts) zero ks t p e = ap (λ (x : Twig L). children_at x.below ks) (sym e)
  children_at-at (u ∷ ts) (suc k) ks t p e = children_at-at ts k ks t (omega arith) e

  pub node_in-none : (ts : List (Twig L)) (k : ℕ) (ks : List ℕ) → length ts ≤ k → node_in (forest_of ts) k ks ≡ None
  node_in-none [] k ks p = refl
  node_in-none (u ∷ ts) zero ks p = absurd (omega arith)
  node_in-none (u ∷ ts) (suc k) ks p = node_in-none ts k ks (omega arith)

  pub node_in-here : (ts : List (Twig L)) (k : ℕ) (ks : List ℕ) (t : Twig L) → length ks ≡ 0 → k < length ts
      → t ≡ get_or ts k t → node_in (forest_of ts) k ks ≡ Some t
  node_in-here ts k (j ∷ js) t z p e = absurd (omega arith)
  node_in-here [] k [] t z p e = absurd (omega arith)
  node_in-here (u ∷ ts) zero [] t z p e = ap Some (sym e)
  node_in-here (u ∷ ts) (suc k) [] t z p e = node_in-here ts k [] t z (omega arith) e

  pub node_in-below : (ts : List (Twig L)) (k j : ℕ) (js : List ℕ) (t : Twig L) → k < length ts → t ≡ get_or ts k t
      → node_in (forest_of ts) k (j ∷ js) ≡ node_in t.below j js
  node_in-below [] k j js t p e = absurd (omega arith)
  node_in-below (u ∷ ts) zero j js t p e = ap (λ (x : Twig L). node_in x.below j js) (sym e)
  node_in-below (u ∷ ts) (suc k) j js t p e = node_in-below ts k j js t (omega arith) e

  -- the same if the path and the forest below t are known by equations
  pub node_in-step : (ts us vs : List (Twig L)) (k j : ℕ) (js ks : List ℕ) (t : Twig L) → k < length ts
      → t ≡ get_or ts k t → ks ≡ j ∷ js → vs ≡ us → forest_of us ≡ t.below
      → node_in (forest_of vs) j js ≡ node_in (forest_of ts) k ks
  node_in-step ts us vs k j js ks t p e path same below =
      rw (same, below, path) (sym (node_in-below ts k j js t p e))

  pub spare_at-at : (s : ℕ) (ts : List (Twig (L × ℕ))) (k : ℕ) (ks : List ℕ) (t : Twig (L × ℕ)) → k < length ts
      → t ≡ get_or ts k t → spare_at s (forest_of ts) (k ∷ ks) ≡ spare_at t.label.1 t.below ks
  spare_at-at s [] k ks t p e = absurd (omega arith)
  spare_at-at s (u ∷ ts) zero ks t p e = ap (λ (x : Twig (L × ℕ)). spare_at x.label.1 x.below ks) (sym e)
  spare_at-at s (u ∷ ts) (suc k) ks t p e = spare_at-at s ts k ks t (omega arith) e

  pub spare_at-put : (s : ℕ) (ts : List (Twig (L × ℕ))) (k : ℕ) (ks : List ℕ) (u : Twig (L × ℕ)) → k < length ts
      → spare_at s (forest_of (set ts k u)) (k ∷ ks) ≡ spare_at u.label.1 u.below ks
  spare_at-put s [] k ks u p = absurd (omega arith)
  spare_at-put s (v ∷ ts) zero ks u p = refl
  spare_at-put s (v ∷ ts) (suc k) ks u p = spare_at-put s ts k ks u (omega arith)

  -- a node of the list is changed at most below it
  pub record ChangedBelow (t u : Twig (L × ℕ)) (edit : Forest L → Forest L) : Type 0 where
    pub played : u.played ≡ t.played
    pub label : u.label.0 ≡ t.label.0
    pub below : without_spares u.below ≡ edit (without_spares t.below)

  more-changed : (edit : Forest L → Forest L) (t u : Twig (L × ℕ)) (r : Forest L) → ChangedBelow t u edit
      → more u.played u.label.0 (without_spares u.below) r ≡ more t.played t.label.0 (edit (without_spares t.below)) r
  more-changed edit t u r c = rw (c.played, c.label, c.below)

  pub below_edited-set : (edit : Forest L → Forest L) (ts : List (Twig (L × ℕ))) (k : ℕ) (ks : List ℕ) (t u : Twig (L × ℕ)) → k < length ts → t ≡ get_or ts k t
      → ChangedBelow t u (λ f. below_edited edit f ks) → without_spares (forest_of (set ts k u)) ≡ below_edited edit (without_spares (forest_of ts)) (k ∷ ks)
  below_edited-set edit [] k ks t u p e c = absurd (omega arith)
  below_edited-set edit (v ∷ ts) zero ks t u p e c =
      more-changed (λ f. below_edited edit f ks) t u (without_spares (forest_of ts)) c
      ∙ ap (λ (x : Twig (L × ℕ)). more x.played x.label.0 (below_edited edit (without_spares x.below) ks) (without_spares (forest_of ts))) e
  below_edited-set edit (v ∷ ts) (suc k) ks t u p e c = ap (more v.played v.label.0 (without_spares v.below))
      (below_edited-set edit ts k ks t u (omega arith) e c)

  pub set-same_plain : (ts : List (Twig (L × ℕ))) (k : ℕ) (t u : Twig (L × ℕ)) → k < length ts → t ≡ get_or ts k t
      → ChangedBelow t u (λ f. f) → without_spares (forest_of (set ts k u)) ≡ without_spares (forest_of ts)
  set-same_plain [] k t u p e c = absurd (omega arith)
  set-same_plain (v ∷ ts) zero t u p e c =
      more-changed (λ f. f) t u (without_spares (forest_of ts)) c
      ∙ ap (λ (x : Twig (L × ℕ)). more x.played x.label.0 (without_spares x.below) (without_spares (forest_of ts))) e
  set-same_plain (v ∷ ts) (suc k) t u p e c = ap (more v.played v.label.0 (without_spares v.below)) (set-same_plain ts k t u (omega arith) e c)

module _ {L : Type 0} where
  -- the path continues from ts with place k, at which v stands, and then with rest
  pub record Step (ts : List (Twig L)) (steps : List ℕ) (k : ℕ) (rest : List ℕ) (v : Twig L) : Type 0 where
    pub path : steps ≡ k ∷ rest
    pub within : k < length ts
    pub at : v ≡ get_or ts k v

  pub step_of : (ts : List (Twig L)) (steps : List ℕ) (k : ℕ) (rest : List ℕ) (v t : Twig L)
      → IsTrue (has_node (forest_of ts) steps) → steps ≡ k ∷ rest → v ≡ t → t ≡ get_or ts k t
      → Step ts steps k rest v
  step_of ts steps k rest v t found path view at =
      record {
        path = path;
        within = has_node-within ts k rest
            (subst (λ p. IsTrue (has_node (forest_of ts) p)) path found);
        at = view ∙ at ∙ ap (get_or ts k) (sym view);
      }

  pub has_node-step : {ts : List (Twig L)} {steps : List ℕ} {k : ℕ} {rest : List ℕ} {v : Twig L}
      → Step ts steps k rest v → IsTrue (has_node (forest_of ts) steps) → IsTrue (has_node v.below rest)
  has_node-step {ts} {steps} {k} {rest} {v} s found = has_node-at ts k rest v (subst (λ p. IsTrue (has_node (forest_of ts) p)) s.path found) s.at

  pub children_at-step : {ts : List (Twig L)} {steps : List ℕ} {k : ℕ} {rest : List ℕ} {v : Twig L}
      → Step ts steps k rest v → children_at (forest_of ts) steps ≡ children_at v.below rest
  children_at-step {ts} {steps} {k} {rest} {v} s = ap (children_at (forest_of ts)) s.path ∙ children_at-at ts k rest v s.within s.at

module _ {L : Type 0} {ts : List (Twig (L × ℕ))} {steps : List ℕ} {k : ℕ} {rest : List ℕ} {v : Twig (L × ℕ)} where
  pub spare_at-step : Step ts steps k rest v → (n : ℕ) → spare_at n (forest_of ts) steps ≡ spare_at v.label.1 v.below rest
  spare_at-step s n = ap (spare_at n (forest_of ts)) s.path ∙ spare_at-at n ts k rest v s.within s.at

  -- the room below the node at the path, once the node at k is u
  pub spare_at-set : Step ts steps k rest v → (n : ℕ) (u : Twig (L × ℕ)) → spare_at n (forest_of (set ts k u)) steps ≡ spare_at u.label.1 u.below rest
  spare_at-set s n u = ap (spare_at n (forest_of (set ts k u))) s.path ∙ spare_at-put n ts k rest u s.within

  -- the node at k changed only below it
  pub below_edited-step : Step ts steps k rest v → (edit : Forest L → Forest L) (u : Twig (L × ℕ))
      → u.played ≡ v.played → u.label.0 ≡ v.label.0 → without_spares u.below ≡ below_edited edit (without_spares v.below) rest
      → without_spares (forest_of (set ts k u)) ≡ below_edited edit (without_spares (forest_of ts)) steps
  below_edited-step s edit u same_move same_label below =
      below_edited-set edit ts k rest v u s.within s.at
      (record { played = same_move; label = same_label; below = below })
      ∙ ap (below_edited edit (without_spares (forest_of ts))) (sym s.path)

  pub same_plain-step : Step ts steps k rest v → (u : Twig (L × ℕ)) → u.played ≡ v.played → u.label.0 ≡ v.label.0
      → without_spares u.below ≡ without_spares v.below → without_spares (forest_of (set ts k u)) ≡ without_spares (forest_of ts)
  same_plain-step s u same_move same_label below = set-same_plain ts k v u s.within s.at (record { played = same_move; label = same_label; below = below })

module _ {L : Type 0} where
  pub plain-push : (us : List (Twig (L × ℕ))) (u : Twig (L × ℕ)) (m : Move) (l : L) → u.played ≡ m → u.label.0 ≡ l
      → without_spares u.below ≡ none → without_spares (forest_of (us ++ u ∷ [])) ≡ with_last m l (without_spares (forest_of us))
  plain-push [] u m l same_move same_label below = rw (same_move, same_label, below)
  plain-push (w ∷ us) u m l same_move same_label below = ap (more w.played w.label.0 (without_spares w.below)) (plain-push us u m l same_move same_label below)

  pub below_edited-here : (edit : Forest L → Forest L) (f : Forest L) (ks : List ℕ) → length ks ≡ 0 → below_edited edit f ks ≡ edit f
  below_edited-here edit f (k ∷ ks) z = absurd (omega arith)
  below_edited-here edit f [] z = refl

pub last_place-here : (k : ℕ) (ks : List ℕ) → length ks ≡ 0 → last_place k ks ≡ k
last_place-here k (j ∷ js) z = absurd (omega arith)
last_place-here k [] z = refl

-- The same, for an edit of the node itself: k is the first place of the path.
module _ {L : Type 0} where
  place_edited-set : (g : ℕ → Forest L → Forest L) (ts : List (Twig (L × ℕ))) (k j : ℕ) (js : List ℕ) (t u : Twig (L × ℕ)) → k < length ts → t ≡ get_or ts k t
      → ChangedBelow t u (λ f. place_edited g f j js) → without_spares (forest_of (set ts k u)) ≡ place_edited g (without_spares (forest_of ts)) k (j ∷ js)
  place_edited-set g [] k j js t u p e c = absurd (omega arith)
  place_edited-set g (v ∷ ts) zero j js t u p e c =
      more-changed (λ f. place_edited g f j js) t u (without_spares (forest_of ts)) c
      ∙ ap (λ (x : Twig (L × ℕ)). more x.played x.label.0 (place_edited g (without_spares x.below) j js) (without_spares (forest_of ts))) e
  place_edited-set g (v ∷ ts) (suc k) j js t u p e c = ap (more v.played v.label.0 (without_spares v.below))
      (place_edited-set g ts k j js t u (omega arith) e c)

  place_edited-here : (g : ℕ → Forest L → Forest L) (f : Forest L) (k : ℕ) (ks : List ℕ) → length ks ≡ 0 → place_edited g f k ks ≡ g k f
  place_edited-here g f k (j ∷ js) z = absurd (omega arith)
  place_edited-here g f k [] z = refl

  labelled-set : (ts : List (Twig (L × ℕ))) (k : ℕ) (x : L) (t u : Twig (L × ℕ)) → k < length ts → t ≡ get_or ts k t
      → u.played ≡ t.played → u.label.0 ≡ x → u.below ≡ t.below
      → without_spares (forest_of (set ts k u)) ≡ labelled_at x k (without_spares (forest_of ts))
  labelled-set [] k x t u p e same_move label below = absurd (omega arith)
  labelled-set (v ∷ ts) zero x t u p e same_move label below =
      rw (same_move, label, below) (ap (λ (y : Twig (L × ℕ)). more y.played x (without_spares y.below) (without_spares (forest_of ts))) e)
  labelled-set (v ∷ ts) (suc k) x t u p e same_move label below =
      ap (more v.played v.label.0 (without_spares v.below)) (labelled-set ts k x t u (omega arith) e same_move label below)

  dropped-remove : (ts : List (Twig (L × ℕ))) (k : ℕ) → without_spares (forest_of (remove ts k)) ≡ dropped_at k (without_spares (forest_of ts))
  dropped-remove [] zero = refl
  dropped-remove [] (suc k) = refl
  dropped-remove (v ∷ ts) zero = refl
  dropped-remove (v ∷ ts) (suc k) = ap (more v.played v.label.0 (without_spares v.below)) (dropped-remove ts k)

  raised-sets : (ts : List (Twig (L × ℕ))) (i : ℕ) (d : Twig (L × ℕ)) → suc i < length ts
      → without_spares (forest_of (set (set ts i (get_or ts (suc i) d)) (suc i) (get_or ts i d))) ≡ raised_at (suc i) (without_spares (forest_of ts))
  raised-sets [] i d p = absurd (omega arith)
  raised-sets (v ∷ []) i d p = absurd (omega arith)
  raised-sets (v ∷ w ∷ ts) zero d p = refl
  raised-sets (v ∷ w ∷ ts) (suc i) d p = ap (more v.played v.label.0 (without_spares v.below)) (raised-sets (w ∷ ts) i d (omega arith))

  raised-swap : (ts : List (Twig (L × ℕ))) (i k : ℕ) → k ≡ suc i → k < length ts → without_spares (forest_of (swap ts i k))
      ≡ raised_at k (without_spares (forest_of ts))
  raised-swap [] i k e p = absurd (omega arith)
  raised-swap (v ∷ ts) i k e p = rw e (raised-sets (v ∷ ts) i v (omega arith))

  pub raised-here : (ts : List (Twig (L × ℕ))) (k : ℕ) (ks : List ℕ) → length ks ≡ 0 → 0 < k → k < length ts
      → without_spares (forest_of (swap ts (k - 1) k)) ≡ place_edited raised_at (without_spares (forest_of ts)) k ks
  raised-here ts k ks z up p = raised-swap ts (k - 1) k (omega arith) p ∙ sym (place_edited-here raised_at (without_spares (forest_of ts)) k ks z)

  pub dropped-here : (ts : List (Twig (L × ℕ))) (k : ℕ) (ks : List ℕ) → length ks ≡ 0
      → without_spares (forest_of (remove ts k)) ≡ place_edited dropped_at (without_spares (forest_of ts)) k ks
  dropped-here ts k ks z = dropped-remove ts k ∙ sym (place_edited-here dropped_at (without_spares (forest_of ts)) k ks z)

  -- the remaining nodes and those of the removed one are all nodes there were
  pub nodes_in-remove : (ts : List (Twig L)) (k : ℕ) (t : Twig L) → k < length ts → t ≡ get_or ts k t
      → nodes_in (forest_of (remove ts k)) + nodes_from t ≡ nodes_in (forest_of ts)
  nodes_in-remove [] k t p e = absurd (omega arith)
  nodes_in-remove (v ∷ ts) zero t p e = let same = ap nodes_from e in omega arith
  nodes_in-remove (v ∷ ts) (suc k) t p e = omega (arith, nodes_in-remove ts k t (omega arith) e)

  pub nodes_in-set : (ts : List (Twig L)) (k : ℕ) (t u : Twig L) → k < length ts → t ≡ get_or ts k t
      → nodes_in (forest_of (set ts k u)) + nodes_from t ≡ nodes_in (forest_of ts) + nodes_from u
  nodes_in-set [] k t u p e = absurd (omega arith)
  nodes_in-set (v ∷ ts) zero t u p e = let same = ap nodes_from e in omega arith
  nodes_in-set (v ∷ ts) (suc k) t u p e = omega (arith, nodes_in-set ts k t u (omega arith) e)

module _ {L : Type 0} {ts : List (Twig (L × ℕ))} {k : ℕ} {rest : List ℕ} {v : Twig (L × ℕ)} where
  pub place_edited-step : Step ts (k ∷ rest) k rest v
      → (g : ℕ → Forest L → Forest L) (j : ℕ) (js : List ℕ) (u : Twig (L × ℕ)) → rest ≡ j ∷ js → u.played ≡ v.played
      → u.label.0 ≡ v.label.0
      → without_spares u.below ≡ place_edited g (without_spares v.below) j js → without_spares (forest_of (set ts k u))
      ≡ place_edited g (without_spares (forest_of ts)) k rest
  place_edited-step s g j js u path same_move same_label below =
      place_edited-set g ts k j js v u s.within s.at
      (record { played = same_move; label = same_label; below = below })
      ∙ ap (place_edited g (without_spares (forest_of ts)) k) (sym path)

  pub labelled-here : Step ts (k ∷ rest) k rest v → (x : L) (u : Twig (L × ℕ)) → length rest ≡ 0 → u.played ≡ v.played → u.label.0 ≡ x → u.below ≡ v.below
      → without_spares (forest_of (set ts k u)) ≡ place_edited (labelled_at x) (without_spares (forest_of ts)) k rest
  labelled-here s x u z same_move label below = labelled-set ts k x v u s.within s.at same_move label below
      ∙ sym (place_edited-here (labelled_at x) (without_spares (forest_of ts)) k rest z)

module _ {L : Type 0} where
  pub nodes_from-le : (ts : List (Twig L)) (k : ℕ) (d : Twig L) → k < length ts → nodes_from (get_or ts k d) ≤ nodes_in (forest_of ts)
  nodes_from-le [] k d p = absurd (omega arith)
  nodes_from-le (v ∷ ts) zero d p = omega arith
  nodes_from-le (v ∷ ts) (suc k) d p = omega (arith, nodes_from-le ts k d (omega arith))

-- The child of a node with a move.
use Rattle.std.proofs.Common.{◌≡◌, ℕ, ◌≤◌, ◌<◌, List, [], ◌∷◌, ◌++◌, true, false, Option, Some, None, refl, sym, ap, ◌∙◌, arith, zero, suc}
use Rattle.std.specs.Prelude.{if◌then◌else◌}
use Rattle.study_moves.specs.declared.moves.Move.{Move}
use Rattle.study_tree.specs.Forest.{Forest, none, more}
use Rattle.study_tree.specs.Edits.{node_in, width, children_at}
use Rattle.study_tree.specs.Tree.{Plain, Spot, spot_at, twig_spot}
use Rattle.study_marks.specs.Study.{same_move, place_from, place_at}
use Rattle.study_marks.specs.Bench.{played_by}
use Rattle.study_marks.specs.FaultSums.{below_at, siblings_from}
use Rattle.study_marks.proofs.MovesToNode.{move_at, move_at-spot}

module _ {L : Type 0} where
  pub children-width : (f : Forest L) (ks : List ℕ) → children_at f ks ≡ width (below_at f ks)
  children-width f [] = refl
  children-width none (k ∷ ks) = refl
  children-width (more m l b r) (zero ∷ ks) = children-width b ks
  children-width (more m l b r) (suc k ∷ ks) = children-width r (k ∷ ks)

  pub place_at-below : (f : Forest L) (ks : List ℕ) (m : Move) → place_at f ks m ≡ place_from 0 m (below_at f ks)
  place_at-below f [] m = refl
  place_at-below none (k ∷ ks) m = refl
  place_at-below (more n l b r) (zero ∷ ks) m = place_at-below b ks m
  place_at-below (more n l b r) (suc k ∷ ks) m = place_at-below r (k ∷ ks) m

  pub skipped-end : (k : ℕ) (f : Forest L) → width f ≤ k → siblings_from k f ≡ none
  skipped-end zero none h = refl
  skipped-end zero (more m l b r) h = absurd (omega (arith, h))
  skipped-end (suc k) none h = refl
  skipped-end (suc k) (more m l b r) h = skipped-end k r (let z : width r ≤ k = omega (arith, h) in z)

  -- the node at a place, and those after it
  abbrev pub Here : ℕ → Forest L → Option Move → Type 0
  Here k f r = (n : Move) × (l : L) × (b : Forest L) × (siblings_from k f ≡ more n l b (siblings_from (suc k) f)) × (r ≡ Some n)

  here-side : (k : ℕ) (f : Forest L) → k < width f → Here k f (move_at f (k ∷ []))
  here-side zero none h = absurd (omega (arith, h))
  here-side zero (more m l b r) h = (m, l, b, refl, refl)
  here-side (suc k) none h = absurd (omega (arith, h))
  here-side (suc k) (more m l b r) h = here-side k r (let z : k < width r = omega (arith, h) in z)

  move_at-below : (f : Forest L) (ks : List ℕ) (k : ℕ) → move_at f (ks ++ k ∷ []) ≡ move_at (below_at f ks) (k ∷ [])
  move_at-below f [] k = refl
  move_at-below none (j ∷ js) k = refl
  move_at-below (more m l b r) (zero ∷ []) k = refl
  move_at-below (more m l b r) (zero ∷ i ∷ is) k = move_at-below b (i ∷ is) k
  move_at-below (more m l b r) (suc j ∷ js) k = move_at-below r (j ∷ js) k

  pub here : (t : Plain L) (ks : List ℕ) (k count : ℕ) (r : Option Move) → count ≡ children_at t.below ks
      → k < count → r ≡ played_by (spot_at t (ks ++ k ∷ [])) → Here k (below_at t.below ks) r
  here t ks k count r e h p =
      let wide : count ≡ width (below_at t.below ks) = e ∙ children-width t.below ks in
      let x = here-side k (below_at t.below ks) (let z : k < width (below_at t.below ks) = omega (arith, h, wide) in z) in
      (x.0, x.1, x.2, x.3, p ∙ move_at-spot t (ks ++ k ∷ []) ∙ move_at-below t.below ks k ∙ x.4)

  pub find-none : (t : Plain L) (ks : List ℕ) (k count : ℕ) (m : Move) → count ≡ children_at t.below ks → count ≤ k
      → None ≡ place_from k m (siblings_from k (below_at t.below ks))
  find-none t ks k count m e h =
      let wide : count ≡ width (below_at t.below ks) = e ∙ children-width t.below ks in
      sym (ap (place_from k m) (skipped-end k (below_at t.below ks) (let z : width (below_at t.below ks) ≤ k = omega (arith, h, wide) in z)))

  pub find-here : (k : ℕ) (f : Forest L) (r : Option Move) (m other : Move) → Here k f r → r ≡ Some other
      → same_move m other ≡ true → Some k ≡ place_from k m (siblings_from k f)
  find-here k f r m other x e h =
      let same : x.0 ≡ other = (let s : Some x.0 ≡ Some other = sym x.4 ∙ e in cc) in
      sym (ap (place_from k m) x.3 ∙ ap (λ b. if b then Some k else place_from (suc k) m (siblings_from (suc k) f)) (ap (same_move m) same ∙ h))

  pub find-later : (k next : ℕ) (f : Forest L) (r : Option Move) (m other : Move) (found : Option ℕ) → next ≡ suc k
      → Here k f r → r ≡ Some other → same_move m other ≡ false → found ≡ place_from next m (siblings_from next f)
      → found ≡ place_from k m (siblings_from k f)
  find-later k next f r m other found n x e h later =
      let same : x.0 ≡ other = (let s : Some x.0 ≡ Some other = sym x.4 ∙ e in cc) in
      later ∙ ap (λ j. place_from j m (siblings_from j f)) n
      ∙ sym (ap (place_from k m) x.3 ∙ ap (λ b. if b then Some k else place_from (suc k) m (siblings_from (suc k) f)) (ap (same_move m) same ∙ h))

  -- a spot shows its number of children
  node-children : (f : Forest L) (k : ℕ) (ks : List ℕ) (s : Spot L) → twig_spot (node_in f k ks) ≡ Some s → s.children ≡ children_at f (k ∷ ks)
  node-children none k ks s e = let no : ⊥ = cc in absurd no
  node-children (more m l b r) zero [] s e =
      sym
      (ap (λ (u : Spot L). u.children) (let x : record { played = Some m; label = l; children = width b }
      ≡ s = cc in x))
  node-children (more m l b r) zero (j ∷ js) s e = node-children b j js s e
  node-children (more m l b r) (suc k) ks s e = node-children r k ks s e

  pub spot-children : (t : Plain L) (ks : List ℕ) (s : Spot L) → spot_at t ks ≡ Some s → s.children ≡ children_at t.below ks
  spot-children t [] s e = sym (ap (λ (u : Spot L). u.children) (let x : record { played = None; label = t.label; children = width t.below } ≡ s = cc in x))
  spot-children t (k ∷ ks) s e = node-children t.below k ks s e

-- Lines of nodes in written order.
use Rattle.std.proofs.Common.{◌≡◌, ℕ, ◌+◌, ◌==◌, ◌&&◌, ◌≤◌, ◌<◌, suc, zero, Bool, true, List, [], ◌∷◌}
use Rattle.std.proofs.Common.{◌++◌, Some, refl, sym, ap, subst, ◌∙◌, append_assoc, add-one, arith}
use Rattle.std.specs.Prelude.{IsTrue}
use Rattle.std.proofs.lemmas.List.{append-nil}
use Rattle.study_tree.specs.Forest.{Forest, none, more, Twig, nodes_in}
use Rattle.study_tree.specs.Edits.{node_in, width}
use Rattle.study_tree.specs.Tree.{Plain, has_spot, spot_at, twig_spot}
use Rattle.study_marks.specs.declared.mark.Mark.{Mark}
use Rattle.study_marks.specs.FaultSums.{below_at, siblings_from}
use Rattle.study_marks.proofs.ChildFound.{skipped-end}
use Rattle.study_marks.proofs.PathRenewed.{there-spot}
use Rattle.study_marks.proofs.PathWalks.{spot_last, below_entered, fewer}
use Rattle.study_facts.specs.Made.{Grew}
use Rattle.study_facts.specs.Nodes.{is_leaf}
use Rattle.study_facts.specs.Order.{has_no_grandchild, paths_from, LinesOfEach}
use Rattle.study_facts.proofs.NodesShown.{none-counted}

module _ {L : Type 0} where
  -- a node at a place
  pub node-here : (f : Forest L) (k : ℕ) → k < width f
      → (t : Twig L) × (node_in f k [] ≡ Some t) × (siblings_from k f ≡ more t.played t.label t.below (siblings_from (suc k) f))
  node-here none k h = absurd (omega (arith, h))
  node-here (more m l b r) zero h = (record { played = m; label = l; below = b }, refl, refl)
  node-here (more m l b r) (suc k) h = node-here r k (let z : k < width r = omega (arith, h) in z)

  -- no node from a place on has children, if the node at this place has none, nor those after it
  pub none-here : (f : Forest L) (steps : List ℕ) (k next n : ℕ) (b : Bool) → k < width (below_at f steps)
      → n ≡ width (below_at f (steps ++ k ∷ [])) → next ≡ k + 1
      → b ≡ has_no_grandchild (siblings_from next (below_at f steps)) → ((n == 0) && b) ≡ has_no_grandchild (siblings_from k (below_at f steps))
  none-here f steps k next n b lt e j h =
      let x = node-here (below_at f steps) k lt in
      ap (λ c. c && b) (none-counted x.0.below n (sym (e ∙ ap width (below_entered f steps k x.0 x.1))))
      ∙ ap (λ c. is_leaf x.0.below && c) (h ∙ ap (λ i. has_no_grandchild (siblings_from i (below_at f steps))) (j ∙ add-one k)) ∙ sym (ap has_no_grandchild x.2)

  pub none-below : (f : Forest L) → width f ≡ 0 → true ≡ has_no_grandchild f
  none-below none h = refl
  none-below (more m l b r) h = absurd (omega (arith, h))

  pub there-child : (t : Plain L) (steps path : List ℕ) (k : ℕ) → path ≡ steps ++ k ∷ [] → k < width (below_at t.below steps) → IsTrue (has_spot t path)
  there-child t steps path k e h =
      let x = node-here (below_at t.below steps) k h in
      there-spot t path _ (ap (spot_at t) e ∙ spot_last t steps k ∙ ap twig_spot x.1)

  pub fewer-child : (f : Forest L) (steps path : List ℕ) (k : ℕ) → path ≡ steps ++ k ∷ [] → k < width (below_at f steps)
      → nodes_in (below_at f path) < nodes_in (below_at f steps)
  fewer-child f steps path k e h =
      let x = node-here (below_at f steps) k h in
      let same : below_at f path ≡ x.0.below = ap (below_at f) e ∙ below_entered f steps k x.0 x.1 in
      omega (arith, ap nodes_in same, fewer (below_at f steps) k x.0 x.1)

module _ (P : List ℕ → List ℕ → Type 0) where
  each-append : (xs ys : List (List ℕ)) (t u : List ℕ) → LinesOfEach P xs t → LinesOfEach P ys u → LinesOfEach P (xs ++ ys) (t ++ u)
  each-append [] ys t u h k = subst (λ (w : List ℕ). LinesOfEach P ys (w ++ u)) (sym h) k
  each-append (x ∷ xs) ys t u h k =
      (h.0, h.1 ++ u, h.2, each-append xs ys h.1 u h.3 k, ap (λ (w : List ℕ). w ++ u) h.4 ∙ append_assoc h.0 h.1 u)

  -- since the loop's start lines were written such that they and any lines of the remaining nodes are lines of all
  abbrev pub GoesOn : List ℕ → Forest Mark → ℕ → List ℕ → List ℕ → Type 0
  GoesOn path f k initial text =
      (done : List ℕ) × (text ≡ initial ++ done)
      × ((rest : List ℕ) → LinesOfEach P (paths_from path k (siblings_from k f)) rest → LinesOfEach P (paths_from path 0 f) (done ++ rest))

  pub none-yet : (path : List ℕ) (f : Forest Mark) (text : List ℕ) → GoesOn path f 0 text text
  none-yet path f text = ([], sym (append-nil text), λ rest h. h)

  -- the lines of a child and of the nodes below it are written
  pub child-written : (f : Forest Mark) (steps path : List ℕ) (k : ℕ) (initial old new : List ℕ) → path ≡ steps ++ k ∷ []
      → k < width (below_at f steps) → Grew (LinesOfEach P (path ∷ paths_from path 0 (below_at f path))) old new
      → GoesOn steps (below_at f steps) k initial old → GoesOn steps (below_at f steps) (k + 1) initial new
  child-written f steps path k initial old new e lt grew h =
      let g = below_at f steps in
      let x = node-here g k lt in
      let t = x.0 in
      let child = steps ++ k ∷ [] in
      let same : below_at f path ≡ t.below = ap (below_at f) e ∙ below_entered f steps k t x.1 in
      let one : LinesOfEach P (child ∷ paths_from child 0 t.below) grew.0 =
      subst (λ (b : Forest Mark). LinesOfEach P (child ∷ paths_from child 0 b) grew.0) same
      (subst (λ (p : List ℕ). LinesOfEach P (p ∷ paths_from p 0 (below_at f path)) grew.0) e grew.1) in
      let here : paths_from steps k (siblings_from k g) ≡ (child ∷ paths_from child 0 t.below) ++ paths_from steps (k + 1) (siblings_from (suc k) g) =
      ap (paths_from steps k) x.2 in (
        h.0 ++ grew.0,
        grew.2 ∙ ap (λ (u : List ℕ). u ++ grew.0) h.1 ∙ append_assoc initial h.0 grew.0,
        λ rest left.
            subst (λ (u : List ℕ). LinesOfEach P (paths_from steps 0 g) u) (sym (append_assoc h.0 grew.0 rest))
            (h.2 (grew.0 ++ rest) (subst (λ (ps : List (List ℕ)). LinesOfEach P ps (grew.0 ++ rest)) (sym here)
            (each-append (child ∷ paths_from child 0 t.below) (paths_from steps (k + 1) (siblings_from (suc k) g)) grew.0 rest one
            (subst (λ j. LinesOfEach P (paths_from steps (k + 1) (siblings_from j g)) rest) (add-one k) left)))),
      )

  -- all children are written, after the node's own lines
  pub all-written : (f : Forest Mark) (steps : List ℕ) (k : ℕ) (old mid new : List ℕ) → width (below_at f steps) ≤ k
      → Grew (P steps) old mid → GoesOn steps (below_at f steps) k mid new
      → Grew (LinesOfEach P (steps ∷ paths_from steps 0 (below_at f steps))) old new
  all-written f steps k old mid new few own h =
      let g = below_at f steps in
      let end : LinesOfEach P (paths_from steps k (siblings_from k g)) [] =
      subst (λ (r : Forest Mark). LinesOfEach P (paths_from steps k r) []) (sym (skipped-end k g few)) refl in
      let below : LinesOfEach P (paths_from steps 0 g) h.0 = subst (λ (u : List ℕ). LinesOfEach P (paths_from steps 0 g) u) (append-nil h.0) (h.2 [] end) in (
        own.0 ++ h.0,
        (own.0, h.0, own.1, below, refl),
        h.1 ∙ ap (λ (u : List ℕ). u ++ h.0) own.2 ∙ append_assoc old own.0 h.0,
      )

  -- the lines of a node, and those of the others after them
  pub both-written : (path : List ℕ) (paths : List (List ℕ)) (t0 t1 t2 : List ℕ) → Grew (P path) t0 t1 → Grew (LinesOfEach P paths) t1 t2
      → Grew (LinesOfEach P (path ∷ paths)) t0 t2
  both-written path paths t0 t1 t2 x y =
      (x.0 ++ y.0, (x.0, y.0, x.1, y.1, refl), y.2 ∙ ap (λ (u : List ℕ). u ++ y.0) x.2 ∙ append_assoc t0 x.0 y.0)

  -- all children are written
  pub below-written : (f : Forest Mark) (steps : List ℕ) (k : ℕ) (old new : List ℕ) → width (below_at f steps) ≤ k
      → GoesOn steps (below_at f steps) k old new → Grew (LinesOfEach P (paths_from steps 0 (below_at f steps))) old new
  below-written f steps k old new few h =
      let g = below_at f steps in
      let end : LinesOfEach P (paths_from steps k (siblings_from k g)) [] =
      subst (λ (r : Forest Mark). LinesOfEach P (paths_from steps k r) []) (sym (skipped-end k g few)) refl in
      (h.0, subst (λ (u : List ℕ). LinesOfEach P (paths_from steps 0 g) u) (append-nil h.0) (h.2 [] end), h.1)

-- Walks along paths, and the movetext after a node, child by child.
use Rattle.study_marks.specs.FaultSums.{below_at}
use Rattle.std.proofs.Common.{◌≡◌, ℕ, zero, suc, ◌<◌, ◌≤◌, true, List, [], ◌∷◌, ◌++◌, Option, Some, None, refl, sym, ap, subst, ◌∙◌, arith}
use Rattle.std.specs.Prelude.{IfSome}
use Rattle.study_board.specs.Position.{Position}
use Rattle.study_moves.specs.Rules.{is_legal, after}
use Rattle.study_tree.specs.Forest.{Forest, none, more, Twig, nodes_in}
use Rattle.study_tree.specs.Edits.{node_in, width}
use Rattle.study_tree.specs.Tree.{Plain, Spot, spot_at, twig_spot}
use Rattle.study_marks.specs.Study.{IsPlayable}

if_some : {T : Type 0} (o : Option T) (P Q : T → Type 0) → ((t : T) → P t → Q t) → IfSome o P → IfSome o Q
if_some None P Q f h = tt
if_some (Some t) P Q f h = f t h

module _ {L : Type 0} where
  abbrev pub under : Option (Twig L) → Forest L
  under None = none
  under (Some t) = t.below

  below_node : (f : Forest L) (k : ℕ) (ks : List ℕ) → below_at f (k ∷ ks) ≡ under (node_in f k ks)
  below_node none k ks = refl
  below_node (more m l b r) zero [] = refl
  below_node (more m l b r) zero (j ∷ js) = below_node b j js
  below_node (more m l b r) (suc k) ks = below_node r k ks

  node_last : (f : Forest L) (j : ℕ) (js : List ℕ) (k : ℕ) → node_in f j (js ++ k ∷ []) ≡ node_in (below_at f (j ∷ js)) k []
  node_last none j js k = refl
  node_last (more m l b r) zero [] k = refl
  node_last (more m l b r) zero (i ∷ is) k = node_last b i is k
  node_last (more m l b r) (suc j) js k = node_last r j js k

  below_last : (f : Forest L) (steps : List ℕ) (k : ℕ) → below_at f (steps ++ k ∷ []) ≡ under (node_in (below_at f steps) k [])
  below_last f [] k = below_node f k []
  below_last f (j ∷ js) k = below_node f j (js ++ k ∷ []) ∙ ap under (node_last f j js k)

  -- the node at place k below the path
  pub spot_last : (t : Plain L) (steps : List ℕ) (k : ℕ) → spot_at t (steps ++ k ∷ []) ≡ twig_spot (node_in (below_at t.below steps) k [])
  spot_last t [] k = refl
  spot_last t (j ∷ js) k = ap twig_spot (node_last t.below j js k)

  -- the forest below it
  pub below_entered : (f : Forest L) (steps : List ℕ) (k : ℕ) (t : Twig L) → node_in (below_at f steps) k [] ≡ Some t → below_at f (steps ++ k ∷ []) ≡ t.below
  below_entered f steps k t e = below_last f steps k ∙ ap under e

  abbrev pub width_of : Option (Spot L) → ℕ
  width_of None = 0
  width_of (Some s) = s.children

  width_twig : (o : Option (Twig L)) → width_of (twig_spot o) ≡ width (under o)
  width_twig None = refl
  width_twig (Some t) = refl

  -- the number of children of the node at the path
  pub width_at : (t : Plain L) (steps : List ℕ) → width_of (spot_at t steps) ≡ width (below_at t.below steps)
  width_at t [] = refl
  width_at t (k ∷ ks) = width_twig (node_in t.below k ks) ∙ ap width (sym (below_node t.below k ks))

  pub width_none : (t : Plain L) (steps : List ℕ) → spot_at t steps ≡ None → width (below_at t.below steps) ≡ 0
  width_none t steps e = sym (width_at t steps) ∙ ap width_of e

  pub width_some : (t : Plain L) (steps : List ℕ) (s : Spot L) → spot_at t steps ≡ Some s → width (below_at t.below steps) ≡ s.children
  width_some t steps s e = sym (width_at t steps) ∙ ap width_of e

  fewer_at : (f : Forest L) (k : ℕ) → IfSome (node_in f k []) (λ t. nodes_in t.below < nodes_in f)
  fewer_at none k = tt
  fewer_at (more m l b r) zero = omega arith
  fewer_at (more m l b r) (suc k) = if_some (node_in r k []) _ _ (λ t h. omega (arith, h)) (fewer_at r k)

  -- fewer nodes are below a child than below its parent
  pub fewer : (f : Forest L) (k : ℕ) (t : Twig L) → node_in f k [] ≡ Some t → nodes_in t.below < nodes_in f
  fewer f k t e = subst (λ o. IfSome o (λ t. nodes_in t.below < nodes_in f)) e (fewer_at f k)

  playable_of : (p : Position) (f : Forest L) (k : ℕ) → IsPlayable p f
      → IfSome (node_in f k []) (λ t. (is_legal p t.played ≡ true) × IsPlayable (after p t.played) t.below)
  playable_of p none k h = tt
  playable_of p (more m l b r) zero h = (h.0, h.1)
  playable_of p (more m l b r) (suc k) h = playable_of p r k h.2

  -- a child's move is legal, and so are those below it
  pub playable_at : (p : Position) (f : Forest L) (k : ℕ) (t : Twig L) → IsPlayable p f → node_in f k [] ≡ Some t
      → (is_legal p t.played ≡ true) × IsPlayable (after p t.played) t.below
  playable_at p f k t h e = subst (λ o. IfSome o (λ t. (is_legal p t.played ≡ true) × IsPlayable (after p t.played) t.below)) e (playable_of p f k h)

  -- the siblings from place k on
  abbrev pub skip : ℕ → Forest L → Forest L
  skip k none = none
  skip zero (more m l b r) = more m l b r
  skip (suc k) (more m l b r) = skip k r

  pub skip_all : (k : ℕ) (f : Forest L) → width f ≤ k → skip k f ≡ none
  skip_all k none h = refl
  skip_all zero (more m l b r) h = absurd (omega (arith, h))
  skip_all (suc k) (more m l b r) h = skip_all k r (omega (arith, h))

-- The moves on the path to a node.
use Rattle.std.proofs.Common.{◌≡◌, ℕ, List, [], ◌∷◌, ◌++◌, length, true, Option, Some, None, refl, sym, ap, ◌∙◌, arith, zero, suc, subst, IsTrue}
use Rattle.study_board.specs.Position.{Position}
use Rattle.study_moves.specs.declared.moves.Move.{Move}
use Rattle.study_moves.specs.Rules.{is_legal, after}
use Rattle.study_notation.specs.declared.start.Start.{Start}
use Rattle.study_notation.specs.StartAfter.{start_after}
use Rattle.study_tree.specs.Forest.{Forest, none, more}
use Rattle.study_tree.specs.Edits.{has_node, node_in}
use Rattle.study_tree.specs.Tree.{Plain, spot_at, twig_spot, has_spot}
use Rattle.study_marks.specs.Study.{moves_to, position_after, start_along, IsPlayable}
use Rattle.study_marks.specs.Bench.{played_by}
use Rattle.study_marks.proofs.PathRenewed.{has_spot-front}

module _ {L : Type 0} where
  -- the move of the node at a path
  abbrev pub move_at : Forest L → List ℕ → Option Move
  move_at f [] = None
  move_at none (k ∷ ks) = None
  move_at (more m l b r) (zero ∷ []) = Some m
  move_at (more m l b r) (zero ∷ j ∷ js) = move_at b (j ∷ js)
  move_at (more m l b r) (suc k ∷ ks) = move_at r (k ∷ ks)

  move_at-node : (f : Forest L) (k : ℕ) (ks : List ℕ) → played_by (twig_spot (node_in f k ks)) ≡ move_at f (k ∷ ks)
  move_at-node none k ks = refl
  move_at-node (more m l b r) zero [] = refl
  move_at-node (more m l b r) zero (j ∷ js) = move_at-node b j js
  move_at-node (more m l b r) (suc k) [] = move_at-node r k []
  move_at-node (more m l b r) (suc k) (j ∷ js) = move_at-node r k (j ∷ js)

  pub move_at-spot : (t : Plain L) (ks : List ℕ) → played_by (spot_at t ks) ≡ move_at t.below ks
  move_at-spot t [] = refl
  move_at-spot t (k ∷ ks) = move_at-node t.below k ks

  -- a node has a move
  move-there : (f : Forest L) (k : ℕ) (ks : List ℕ) → IsTrue (has_node f (k ∷ ks)) → (m : Move) × (move_at f (k ∷ ks) ≡ Some m)
  move-there none k ks h = let no : ⊥ = cc in absurd no
  move-there (more m l b r) zero [] h = (m, refl)
  move-there (more m l b r) zero (j ∷ js) h = move-there b j js h
  move-there (more m l b r) (suc k) ks h = move-there r k ks h

  pub some-move : (t : Plain L) (steps front : List ℕ) (k : ℕ) → steps ≡ front ++ k ∷ [] → IsTrue (has_spot t steps) → played_by (spot_at t steps) ≡ None → ⊥
  some-move t [] front k path h e = nothing front path
    where
      nothing : (front : List ℕ) → [] ≡ front ++ k ∷ [] → ⊥
      nothing [] path = cc
      nothing (j ∷ js) path = cc
  some-move t (j ∷ js) front k path h e = let m = move-there t.below j js h in let no : Some m.0 ≡ None = sym m.1 ∙ sym (move_at-spot t (j ∷ js)) ∙ e in cc

  -- it is the last of the moves on the path, and legal there
  last-move : (p : Position) (f : Forest L) (front : List ℕ) (k : ℕ) (m : Move) → move_at f (front ++ k ∷ []) ≡ Some m → IsPlayable p f
      → (moves_to f (front ++ k ∷ []) ≡ moves_to f front ++ m ∷ []) × (is_legal (position_after p (moves_to f front)) m ≡ true)
  last-move p none [] k m e h = let no : ⊥ = cc in absurd no
  last-move p none (j ∷ js) k m e h = let no : ⊥ = cc in absurd no
  last-move p (more n l b r) [] zero m e h = let same : n ≡ m = cc in (ap (λ x. x ∷ []) same, subst (λ x. is_legal p x ≡ true) same h.0)
  last-move p (more n l b r) [] (suc k) m e h = last-move p r [] k m e h.2
  last-move p (more n l b r) (zero ∷ []) k m e h = let x = last-move (after p n) b [] k m e h.1 in (ap (λ ms. n ∷ ms) x.0, x.1)
  last-move p (more n l b r) (zero ∷ i ∷ is) k m e h = let x = last-move (after p n) b (i ∷ is) k m e h.1 in (ap (λ ms. n ∷ ms) x.0, x.1)
  last-move p (more n l b r) (suc j ∷ js) k m e h = last-move p r (j ∷ js) k m e h.2

position_after-last : (p : Position) (ms : List Move) (m : Move) → position_after p (ms ++ m ∷ []) ≡ after (position_after p ms) m
position_after-last p [] m = refl
position_after-last p (n ∷ ms) m = position_after-last (after p n) ms m

start_along-last : (s : Start) (ms : List Move) (m : Move) → start_along s (ms ++ m ∷ []) ≡ start_after (start_along s ms) m
start_along-last s [] m = refl
start_along-last s (n ∷ ms) m = start_along-last (start_after s n) ms m

start_after-position : (s : Start) (m : Move) → (start_after s m).position ≡ after s.position m
unfolding start_after
start_after-position s m = refl

start_along-position : (s : Start) (ms : List Move) → (start_along s ms).position ≡ position_after s.position ms
start_along-position s [] = refl
start_along-position s (m ∷ ms) = start_along-position (start_after s m) ms ∙ ap (λ p. position_after p ms) (start_after-position s m)

module _ {L : Type 0} where
  pub front-found : (t : Plain L) (steps front : List ℕ) (k : ℕ) → steps ≡ front ++ k ∷ [] → IsTrue (has_spot t steps) → IsTrue (has_spot t front)
  front-found t steps front k path h = has_spot-front t front (k ∷ []) (subst (λ p. IsTrue (has_spot t p)) path h)

  pub both : (p : Position) (t : Plain L) (steps front : List ℕ) (k : ℕ) (m : Move) → steps ≡ front ++ k ∷ []
      → played_by (spot_at t steps) ≡ Some m → IsPlayable p t.below
      → (moves_to t.below steps ≡ moves_to t.below front ++ m ∷ []) × (is_legal (position_after p (moves_to t.below front)) m ≡ true)
  both p t steps front k m path e h =
      let x = last-move p t.below front k m (ap (move_at t.below) (sym path) ∙ sym (move_at-spot t steps) ∙ e) h in (ap (moves_to t.below) path ∙ x.0, x.1)

  pub legal-last : (p q : Position) (t : Plain L) (steps front : List ℕ) (k : ℕ) (m : Move)
      → steps ≡ front ++ k ∷ [] → played_by (spot_at t steps) ≡ Some m → IsPlayable p t.below
      → q ≡ position_after p (moves_to t.below front) → is_legal q m ≡ true
  legal-last p q t steps front k m path e h same = subst (λ x. is_legal x m ≡ true) (sym same) (both p t steps front k m path e h).1

  pub position-last : (p q : Position) (t : Plain L) (steps front : List ℕ) (k : ℕ) (m : Move)
      → steps ≡ front ++ k ∷ [] → played_by (spot_at t steps) ≡ Some m → IsPlayable p t.below
      → q ≡ position_after p (moves_to t.below front) → after q m ≡ position_after p (moves_to t.below steps)
  position-last p q t steps front k m path e h same =
      ap (λ x. after x m) same ∙ sym (position_after-last p (moves_to t.below front) m) ∙ ap (position_after p) (sym (both p t steps front k m path e h).0)

  pub start-legal-last : (s u : Start) (t : Plain L) (steps front : List ℕ) (k : ℕ) (m : Move)
      → steps ≡ front ++ k ∷ [] → played_by (spot_at t steps) ≡ Some m → IsPlayable s.position t.below
      → u ≡ start_along s (moves_to t.below front) → is_legal u.position m ≡ true
  start-legal-last s u t steps front k m path e h same =
      legal-last s.position u.position t steps front k m path e h (ap (λ (x : Start). x.position) same ∙ start_along-position s (moves_to t.below front))

  pub start-last : (s u : Start) (t : Plain L) (steps front : List ℕ) (k : ℕ) (m : Move) → steps ≡ front ++ k ∷ []
      → played_by (spot_at t steps) ≡ Some m → IsPlayable s.position t.below
      → u ≡ start_along s (moves_to t.below front) → start_after u m ≡ start_along s (moves_to t.below steps)
  start-last s u t steps front k m path e h same =
      ap (λ (x : Start). start_after x m) same ∙ sym (start_along-last s (moves_to t.below front) m)
      ∙ ap (start_along s) (sym (both s.position t steps front k m path e h).0)

  pub no-steps : (p : Position) (t : Plain L) (steps : List ℕ) → length steps ≡ 0 → p ≡ position_after p (moves_to t.below steps)
  no-steps p t [] z = refl
  no-steps p t (k ∷ ks) z = absurd (omega arith)

  pub no-start-steps : (s : Start) (t : Plain L) (steps : List ℕ) → length steps ≡ 0 → s ≡ start_along s (moves_to t.below steps)
  no-start-steps s t [] z = refl
  no-start-steps s t (k ∷ ks) z = absurd (omega arith)

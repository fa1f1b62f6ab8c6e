-- A tree with other nodes below one of its nodes.
use Rattle.std.proofs.Common.{◌≡◌, ℕ, zero, suc, ◌+◌, Bool, true, false, List, [], ◌∷◌, ◌++◌, Option, Some, None, refl, ap, arith}
use Rattle.std.specs.Prelude.{if◌then◌else◌}
use Rattle.std.proofs.lemmas.Bool.{false≢true}
use Rattle.study_board.specs.Position.{Position}
use Rattle.study_moves.specs.declared.moves.Move.{Move}
use Rattle.study_moves.specs.Rules.{after}
use Rattle.study_tree.specs.Forest.{Forest, none, more, nodes_in}
use Rattle.study_tree.specs.Edits.{has_node, below_edited, with_last, add_last, width, children_at}
use Rattle.study_marks.specs.Study.{moves_to, position_after, same_move, place_from, place_at}

abbrev pub Plain : Type 0
Plain = Forest (Unit {0})

-- other nodes below the node at the path
pub put : Plain → List ℕ → Plain → Plain
put f at x = below_edited (λ _. x) f at

module _ (x : Plain) where
  pub put_has : (f : Plain) (at ks : List ℕ) → has_node f at ≡ true → has_node (put f at x) (at ++ ks) ≡ has_node x ks
  unfolding put
  put_has f [] ks h = refl
  put_has none (k ∷ at) ks h = absurd (false≢true h)
  put_has (more m l b r) (zero ∷ at) ks h = put_has b at ks h
  put_has (more m l b r) (suc k ∷ at) ks h = put_has r (k ∷ at) ks h

  pub put_width : (f : Plain) (at : List ℕ) → has_node f at ≡ true → children_at (put f at x) at ≡ width x
  unfolding put
  put_width f [] h = refl
  put_width none (k ∷ at) h = absurd (false≢true h)
  put_width (more m l b r) (zero ∷ at) h = put_width b at h
  put_width (more m l b r) (suc k ∷ at) h = put_width r (k ∷ at) h

  pub put_place : (f : Plain) (at : List ℕ) (m : Move) → has_node f at ≡ true → place_at (put f at x) at m ≡ place_from 0 m x
  unfolding put
  put_place f [] m h = refl
  put_place none (k ∷ at) m h = absurd (false≢true h)
  put_place (more n l b r) (zero ∷ at) m h = put_place b at m h
  put_place (more n l b r) (suc k ∷ at) m h = put_place r (k ∷ at) m h

  pub put_moves : (f : Plain) (at ks : List ℕ) → has_node f at ≡ true → moves_to (put f at x) (at ++ ks) ≡ moves_to f at ++ moves_to x ks
  unfolding put
  put_moves f [] ks h = refl
  put_moves none (k ∷ at) ks h = absurd (false≢true h)
  put_moves (more m l b r) (zero ∷ at) ks h = ap (λ (ms : List Move). m ∷ ms) (put_moves b at ks h)
  put_moves (more m l b r) (suc k ∷ at) ks h = put_moves r (k ∷ at) ks h

  pub put_here : (f : Plain) (at : List ℕ) → has_node f at ≡ true → has_node (put f at x) at ≡ true
  unfolding put
  put_here f [] h = refl
  put_here none (k ∷ at) h = absurd (false≢true h)
  put_here (more m l b r) (zero ∷ at) h = put_here b at h
  put_here (more m l b r) (suc k ∷ at) h = put_here r (k ∷ at) h

  pub put_way : (f : Plain) (at : List ℕ) → has_node f at ≡ true → moves_to (put f at x) at ≡ moves_to f at
  unfolding put
  put_way f [] h = refl
  put_way none (k ∷ at) h = absurd (false≢true h)
  put_way (more m l b r) (zero ∷ at) h = ap (λ (ms : List Move). m ∷ ms) (put_way b at h)
  put_way (more m l b r) (suc k ∷ at) h = put_way r (k ∷ at) h

  pub put_last : (f : Plain) (at : List ℕ) (m : Move) → has_node f at ≡ true → add_last (put f at x) at m tt ≡ put f at (with_last m tt x)
  unfolding put
  put_last f [] m h = refl
  put_last none (k ∷ at) m h = absurd (false≢true h)
  put_last (more n l b r) (zero ∷ at) m h = ap (λ (t : Plain). more n l t r) (put_last b at m h)
  put_last (more n l b r) (suc k ∷ at) m h = ap (λ (t : Plain). more n l b t) (put_last r (k ∷ at) m h)

  pub put_put : (f : Plain) (at ks : List ℕ) (y : Plain) → has_node f at ≡ true → put (put f at x) (at ++ ks) y ≡ put f at (put x ks y)
  unfolding put
  put_put f [] ks y h = refl
  put_put none (k ∷ at) ks y h = absurd (false≢true h)
  put_put (more n l b r) (zero ∷ at) ks y h = ap (λ (t : Plain). more n l t r) (put_put b at ks y h)
  put_put (more n l b r) (suc k ∷ at) ks y h = ap (λ (t : Plain). more n l b t) (put_put r (k ∷ at) ks y h)

  pub put_nodes : (f : Plain) (at : List ℕ) → has_node f at ≡ true → nodes_in (put f at x) ≡ nodes_in (put f at none) + nodes_in x
  unfolding put
  put_nodes f [] h = omega arith
  put_nodes none (k ∷ at) h = absurd (false≢true h)
  put_nodes (more n l b r) (zero ∷ at) h = let i = put_nodes b at h in omega arith
  put_nodes (more n l b r) (suc k ∷ at) h = let i = put_nodes r (k ∷ at) h in omega arith

pub position_on : (p : Position) (ms ns : List Move) → position_after p (ms ++ ns) ≡ position_after (position_after p ms) ns
position_on p [] ns = refl
position_on p (m ∷ ms) ns = position_on (after p m) ms ns

-- ---- sibling nodes

pub beside : Plain → Plain → Plain
beside none y = y
beside (more m l b r) y = more m l b (beside r y)

pub beside_assoc : (x : Plain) (n : Move) (b y : Plain) → beside (beside x (more n tt b none)) y ≡ beside x (more n tt b y)
unfolding beside
beside_assoc none n b y = refl
beside_assoc (more m l c r) n b y = ap (λ (t : Plain). more m l c t) (beside_assoc r n b y)

pub beside_none : (x : Plain) → beside x none ≡ x
unfolding beside
beside_none none = refl
beside_none (more m l b r) = ap (λ (t : Plain). more m l b t) (beside_none r)

pub beside_first : (m : Move) (b r y : Plain) → beside (more m tt b r) y ≡ more m tt b (beside r y)
unfolding beside
beside_first m b r y = refl

one_up : (n : ℕ) → 1 + n ≡ suc n
one_up n = omega arith

-- the last of them
pub last_put : (x : Plain) (n : Move) (y : Plain) → put (with_last n tt x) (width x ∷ []) y ≡ beside x (more n tt y none)
unfolding put beside
last_put none n y = refl
last_put (more m l b r) n y = rw (one_up (width r)) (ap (λ (t : Plain). more m l b t) (last_put r n y))

pub last_has : (x : Plain) (n : Move) → has_node (with_last n tt x) (width x ∷ []) ≡ true
last_has none n = refl
last_has (more m l b r) n = rw (one_up (width r)) (last_has r n)

pub last_is : (x : Plain) (n : Move) → with_last n tt x ≡ beside x (more n tt none none)
unfolding beside
last_is none n = refl
last_is (more m l b r) n = ap (λ (t : Plain). more m l b t) (last_is r n)

pub last_moves : (x : Plain) (n : Move) → moves_to (with_last n tt x) (width x ∷ []) ≡ n ∷ []
last_moves none n = refl
last_moves (more m l b r) n = rw (one_up (width r)) (last_moves r n)

pub last_nodes : (x : Plain) (n : Move) → nodes_in (with_last n tt x) ≡ 1 + nodes_in x
last_nodes none n = refl
last_nodes (more m l b r) n = let i = last_nodes r n in omega arith

pub beside_nodes : (x y : Plain) → nodes_in (beside x y) ≡ nodes_in x + nodes_in y
unfolding beside
beside_nodes none y = omega arith
beside_nodes (more m l b r) y = let i = beside_nodes r y in omega arith

by_move : (c : Bool) (j : ℕ) (r s : Option ℕ) → (if c then Some j else r) ≡ None → (r ≡ None → s ≡ None) → (if c then Some j else s) ≡ None
by_move true j r s e f = absurd cc
by_move false j r s e f = f e

-- a move that is not among them
pub beside_place : (x : Plain) (j : ℕ) (m n : Move) (b : Plain) → place_from j m x ≡ None → same_move m n ≡ false
    → place_from j m (beside x (more n tt b none)) ≡ None
unfolding beside
beside_place none j m n b e f = rw f refl
beside_place (more o l c r) j m n b e f =
    by_move (same_move m o) j (place_from (suc j) m r) (place_from (suc j) m (beside r (more n tt b none))) e (λ k. beside_place r (suc j) m n b k f)

pub first_put : (m : Move) (r y : Plain) → put (more m tt none r) (0 ∷ []) y ≡ more m tt y r
unfolding put
first_put m r y = refl

pub first_beside : (m : Move) (y : Plain) → beside (more m tt none none) y ≡ more m tt none y
unfolding beside
first_beside m y = refl

pub root_put : (x : Plain) → put none [] x ≡ x
unfolding put
root_put x = refl

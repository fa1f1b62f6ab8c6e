-- The contents of a node.
use Rattle.std.proofs.Common.{◌≡◌, ◌==◌, ℕ, suc, zero, Bool, true, false, not, ◌&&◌, List, [], ◌∷◌, ◌++◌, length, refl, sym, ap, ◌∙◌, subst, arith}
use Rattle.std.proofs.lemmas.List.{append-nil}
use Rattle.std.proofs.lemmas.Bool.{ne_eqb}
use Rattle.study_board.specs.Position.{Position}
use Rattle.study_moves.specs.LegalList.{legal_list}
use Rattle.study_values.specs.declared.value.Value.{Value}
use Rattle.study_tree.specs.Forest.{Forest, none, more}
use Rattle.study_tree.specs.Edits.{node_in, width}
use Rattle.study_tree.specs.Tree.{Plain, spot_at, twig_spot}
use Rattle.study_marks.specs.declared.mark.Mark.{Mark}
use Rattle.study_marks.specs.Bench.{on_move_of}
use Rattle.study_marks.specs.declared.mark_rules.Aim.{Aim}
use Rattle.study_marks.specs.FaultSums.{below_at}
use Rattle.study_marks.specs.Study.{Study}
use Rattle.study_marks.specs.Goals.{aim_of, hero_moves, holds}
use Rattle.study_marks.proofs.PathWalks.{spot_last}
use Rattle.study_facts.specs.Faults.{in_solution}
use Rattle.study_facts.specs.Nodes.{parent_path, has_no_idle_move, is_idle, is_leaf, value_at, is_defended, is_open_end, EmptyUnless}
use Rattle.study_facts.specs.WalkState.{IsNodeAt}
use Rattle.study_facts.specs.Made.{Grew}

front-last : (xs : List ℕ) (k : ℕ) → parent_path (xs ++ k ∷ []) ≡ xs
front-last [] k = refl
front-last (x ∷ []) k = refl
front-last (x ∷ y ∷ ys) k = ap (λ (l : List ℕ). x ∷ l) (front-last (y ∷ ys) k)

pub front-is : (steps front : List ℕ) (k : ℕ) → steps ≡ front ++ k ∷ [] → front ≡ parent_path steps
front-is steps front k e = sym (ap parent_path e ∙ front-last front k)

and-true : (a : Bool) → (a && true) ≡ a
and-true true = refl
and-true false = refl

and-assoc : (a b c : Bool) → (a && (b && c)) ≡ ((a && b) && c)
and-assoc true b c = refl
and-assoc false b c = refl

idle-one : (f : Forest Mark) (k : ℕ) → has_no_idle_move f (k ∷ []) ≡ not (is_idle (on_move_of (twig_spot (node_in f k []))))
idle-one none k = refl
idle-one (more m x b r) zero = and-true (not (is_idle x.on_move))
idle-one (more m x b r) (suc k) = idle-one r k

idle-more : (f : Forest Mark) (ks : List ℕ) (k : ℕ)
    → has_no_idle_move f (ks ++ k ∷ []) ≡ (has_no_idle_move f ks && not (is_idle (on_move_of (twig_spot (node_in (below_at f ks) k [])))))
idle-more f [] k = idle-one f k
idle-more none (j ∷ js) k = refl
idle-more (more m x b r) (zero ∷ js) k =
    ap (λ c. not (is_idle x.on_move) && c) (idle-more b js k)
    ∙ and-assoc (not (is_idle x.on_move)) (has_no_idle_move b js) (not (is_idle (on_move_of (twig_spot (node_in (below_at b js) k [])))))
idle-more (more m x b r) (suc j ∷ js) k = idle-more r (j ∷ js) k

-- no move on the path to a node is idle if none before the last is, and the last is not
pub idle-last : (t : Plain Mark) (steps front : List ℕ) (k : ℕ) → steps ≡ front ++ k ∷ []
    → has_no_idle_move t.below steps ≡ (has_no_idle_move t.below front && not (is_idle (on_move_of (spot_at t steps))))
idle-last t steps front k e =
    ap (has_no_idle_move t.below) e ∙ idle-more t.below front k
    ∙ ap (λ o. has_no_idle_move t.below front && not (is_idle (on_move_of o))) (sym (ap (spot_at t) e ∙ spot_last t front k))

pub not-zero : (n : ℕ) → (n ≡ 0 → ⊥) → (n == 0) ≡ false
not-zero n h = ne_eqb n 0 h

none-narrow : {L : Type 0} (f : Forest L) → (width f == 0) ≡ is_leaf f
none-narrow none = refl
none-narrow (more m l b r) = not-zero (width (more m l b r)) (λ e. absurd (omega (arith, e)))

-- a node with 0 children has no child
pub none-counted : {L : Type 0} (f : Forest L) (n : ℕ) → width f ≡ n → (n == 0) ≡ is_leaf f
none-counted f n e = ap (λ k. k == 0) (sym e) ∙ none-narrow f

module _ (s : Study Mark) (path : List ℕ) (a : Aim) (d : ℕ) (p : Position) (h : IsNodeAt s path a d p) where
  -- the opponent is to move at a node of the solution that holds
  pub defended-here : (v : Value) (solution : Bool) → v ≡ value_at s path → solution ≡ in_solution (aim_of s) 0 path
      → (not (hero_moves a d) && (holds a d v && solution)) ≡ is_defended s path
  defended-here v solution e so =
      ap (λ (x : Aim). not (hero_moves x d) && (holds x d v && solution)) h.aim
      ∙ ap (λ n. not (hero_moves (aim_of s) n) && (holds (aim_of s) n v && solution)) h.depth
      ∙ ap (λ (w : Value). not (hero_moves (aim_of s) (length path)) && (holds (aim_of s) (length path) w && solution)) e
      ∙ ap (λ b. not (hero_moves (aim_of s) (length path)) && (holds (aim_of s) (length path) (value_at s path) && b)) so

  -- the tree ends at a node without children, and the game does not where there is a legal move
  pub open-here : (children n : ℕ) → children ≡ width (below_at s.tree.below path) → n ≡ length (legal_list p)
      → ((children == 0) && not (n == 0)) ≡ is_open_end s path
  open-here children n e k =
      ap (λ b. b && not (n == 0)) (none-counted (below_at s.tree.below path) children (sym e))
      ∙ ap (λ i. is_leaf (below_at s.tree.below path) && not (i == 0)) k
      ∙ ap (λ (q : Position). is_leaf (below_at s.tree.below path) && not (length (legal_list q) == 0)) h.position

-- lines if the test is true, and no lines if it is not
pub not-there : (b : Bool) (Lines : List ℕ → Type 0) (text : List ℕ) → b ≡ false → Grew (EmptyUnless b Lines) text text
not-there b Lines text e =
    ([], subst (λ c. EmptyUnless c Lines []) (sym e) refl, sym (append-nil text))

pub are-there : (b : Bool) (Lines : List ℕ → Type 0) (old new : List ℕ) → b ≡ true → Grew Lines old new → Grew (EmptyUnless b Lines) old new
are-there b Lines old new e h = (h.0, subst (λ c. EmptyUnless c Lines h.0) (sym e) h.1, h.2)

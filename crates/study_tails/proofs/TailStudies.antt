-- The study of a tail is the game's from there on.
use Rattle.std.proofs.Common.{◌≡◌, ℕ, zero, suc, Bool, true, false, List, [], ◌∷◌, ◌++◌, Option, Some, None, Ok, Err, refl, sym, ap, ◌∙◌, subst}
use Rattle.std.specs.Prelude.{if◌then◌else◌}
use Rattle.std.specs.Option.{option_map}
use Rattle.study_notation.specs.declared.start.Start.{Start}
use Rattle.study_notation.specs.StartAfter.{start_after}
use Rattle.study_tree.specs.Forest.{none, more, Twig}
use Rattle.study_tree.specs.Edits.{node_in, has_node}
use Rattle.study_tree.specs.Tree.{Plain, spot_at, twig_spot}
use Rattle.study_marks.specs.declared.stipulation.Goal.{Goal}
use Rattle.study_marks.specs.Study.{moves_to, start_along}
use Rattle.study_marks.specs.Edits.{PlainStudy}
use Rattle.study_wide.specs.Wide.{Wide}
use Rattle.study_wide.specs.Rules.{is_small}
use Rattle.study_wide.proofs.FewMen.{small_widened}
use Rattle.study_wide_text.specs.declared.start.WideStart.{WideStart}
use Rattle.study_wide_text.specs.StartAfter.{wide_start_after, widen_start}
use Rattle.study_wide_text.proofs.FenAgrees.{fen_agrees}
use Rattle.study_tails.specs.declared.tails.LeftOut.TheVariants.{NoTail, NumbersAbove9999}
use Rattle.study_tails.specs.Study.{Moves, WideStudy, Node, node_from, node_at}
use Rattle.study_tails.specs.Tails.{moves_by, goal_after, has_four_digits, narrow_start, study_from, tail_with, tail_to, tail}
use Rattle.study_tails.specs.Laws.{IsSmallNode, IsGameFrom, TailsAreSound}
use Rattle.study_tails.proofs.TailsFound.{tails_small}

-- ---- the node of a tail

pub record IsTailOf (s : WideStudy) (path : List ℕ) (u : PlainStudy) : Type 0 where
  pub node : Node
  pub goal : Goal
  pub found : node_at s path ≡ Some node
  pub small : is_small node.start.position ≡ true
  pub left : goal_after s.stipulation.goal (moves_by s.stipulation.hero s.start.position.board.to_move path) ≡ Some goal
  pub study : u ≡ study_from s node goal

pub tail_of : (s : WideStudy) (path : List ℕ) (u : PlainStudy) → tail s path ≡ Ok u → IsTailOf s path u
unfolding tail
tail_of s path u e = at_node (node_at s path) refl e
  where
    left : Option Goal
    left = goal_after s.stipulation.goal (moves_by s.stipulation.hero s.start.position.board.to_move path)

    written : (n : Node) (goal : Goal) (b : Bool) → node_at s path ≡ Some n → is_small n.start.position ≡ true → left ≡ Some goal
        → (if b then Ok (study_from s n goal) else Err NumbersAbove9999) ≡ Ok u → IsTailOf s path u
    written n goal true found small l e = record { node = n; goal = goal; found = found; small = small; left = l; study = cc }
    written n goal false found small l e = let no : ⊥ = cc in absurd no

    with_goal : (n : Node) (o : Option Goal) → node_at s path ≡ Some n → is_small n.start.position ≡ true → left ≡ o
        → tail_with s n o ≡ Ok u → IsTailOf s path u
    with_goal n None found small l e = let no : ⊥ = cc in absurd no
    with_goal n (Some goal) found small l e = written n goal (has_four_digits n.start) found small l e

    if_small : (n : Node) (b : Bool) → node_at s path ≡ Some n → is_small n.start.position ≡ b
        → (if b then tail_with s n left else Err NoTail) ≡ Ok u → IsTailOf s path u
    if_small n true found small e = with_goal n left found small refl e
    if_small n false found small e = let no : ⊥ = cc in absurd no

    at_node : (o : Option Node) → node_at s path ≡ o → tail_to s path o ≡ Ok u → IsTailOf s path u
    at_node None found e = let no : ⊥ = cc in absurd no
    at_node (Some n) found e = if_small n (is_small n.start.position) found refl e

-- a node with few men has its study, unless its mate is due or its numbers are too large
pub tail_known : (s : WideStudy) (path : List ℕ) → IsSmallNode s path → tail s path ≡ Err NoTail → ⊥
unfolding tail
tail_known s path h e = go (goal_after s.stipulation.goal (moves_by s.stipulation.hero s.start.position.board.to_move path)) (at_node e)
  where
    at_node : tail_to s path (node_at s path) ≡ Err NoTail
        → tail_with s h.0 (goal_after s.stipulation.goal (moves_by s.stipulation.hero s.start.position.board.to_move path)) ≡ Err NoTail
    at_node e = rw (h.1, h.2) at e

    written : (b : Bool) (goal : Goal) → (if b then Ok (study_from s h.0 goal) else Err NumbersAbove9999) ≡ Err NoTail → ⊥
    written true goal e = cc
    written false goal e = cc

    go : (o : Option Goal) → tail_with s h.0 o ≡ Err NoTail → ⊥
    go None e = cc
    go (Some goal) e = written (has_four_digits h.0.start) goal e

-- ---- from a node on

pub node_append : (s : WideStart) (f : Moves) (path q : List ℕ) (n : Node) → node_from s f path ≡ Some n
    → node_from s f (path ++ q) ≡ node_from n.start n.below q
node_append s f [] q n e = let same : record { start = s; below = f } ≡ n = cc in ap (λ (u : Node). node_from u.start u.below q) same
node_append s none (k ∷ ks) q n e = let no : ⊥ = cc in absurd no
node_append s (more m l b r) (zero ∷ ks) q n e = node_append (wide_start_after s m) b ks q n e
node_append s (more m l b r) (suc k ∷ ks) q n e = node_append s r (k ∷ ks) q n e

abbrev first_in : Moves → List ℕ → Option (Twig (Unit {0}))
first_in f [] = None
first_in f (k ∷ ks) = node_in f k ks

first_down : (m : _) (l : Unit {0}) (b r : Moves) (ks : List ℕ) (k : ℕ) (q : List ℕ) → first_in (more m l b r) (zero ∷ (ks ++ k ∷ q)) ≡ first_in b (ks ++ k ∷ q)
first_down m l b r [] k q = refl
first_down m l b r (i ∷ is) k q = refl

twig_append : (s : WideStart) (f : Moves) (path : List ℕ) (k : ℕ) (q : List ℕ) (n : Node) → node_from s f path ≡ Some n
    → first_in f (path ++ k ∷ q) ≡ node_in n.below k q
twig_append s f [] k q n e = let same : record { start = s; below = f } ≡ n = cc in ap (λ (u : Node). node_in u.below k q) same
twig_append s none (j ∷ js) k q n e = let no : ⊥ = cc in absurd no
twig_append s (more m l b r) (zero ∷ js) k q n e = first_down m l b r js k q ∙ twig_append (wide_start_after s m) b js k q n e
twig_append s (more m l b r) (suc j ∷ js) k q n e = twig_append s r (j ∷ js) k q n e

spot_append : (t : Plain (Unit {0})) (path : List ℕ) (k : ℕ) (q : List ℕ) → spot_at t (path ++ k ∷ q) ≡ twig_spot (first_in t.below (path ++ k ∷ q))
spot_append t [] k q = refl
spot_append t (j ∷ js) k q = refl

-- ---- by the rules for four men

pub small_start : (s : WideStart) → is_small s.position ≡ true → s ≡ widen_start (narrow_start s)
small_start s h = ap (λ (g : Wide). record { position = g; clock = s.clock; number = s.number }) (small_widened s.position h)

abbrev plain_start_from : Start → Moves → List ℕ → Option Start
plain_start_from p f q = if has_node f q then Some (start_along p (moves_to f q)) else None

starts_along : (p : Start) (f : Moves) (q : List ℕ)
    → option_map (λ (n : Node). n.start) (node_from (widen_start p) f q) ≡ option_map widen_start (plain_start_from p f q)
starts_along p f [] = refl
starts_along p none (k ∷ ks) = refl
starts_along p (more m l b r) (zero ∷ ks) =
    ap (λ (u : WideStart). option_map (λ (n : Node). n.start) (node_from u b ks)) (fen_agrees.after p m) ∙ starts_along (start_after p m) b ks
starts_along p (more m l b r) (suc k ∷ ks) = starts_along p r (k ∷ ks)

pub game_from : (s : WideStudy) (path : List ℕ) (u : PlainStudy) → tail s path ≡ Ok u → IsGameFrom s path u
game_from s path u e =
    let t = tail_of s path u e in
    let here : IsGameFrom s path (study_from s t.node t.goal) = record {
      starts = λ q.
          ap (option_map (λ (n : Node). n.start)) (node_append s.start s.tree.below path q t.node t.found)
          ∙ ap (λ (w : WideStart). option_map (λ (n : Node). n.start) (node_from w t.node.below q)) (small_start t.node.start t.small)
          ∙ starts_along (narrow_start t.node.start) t.node.below q;
      moves = λ k q. spot_append s.tree path k q ∙ ap twig_spot (twig_append s.start s.tree.below path k q t.node t.found);
      tags = refl;
      hero = refl;
    } in
    subst (λ (v : PlainStudy). IsGameFrom s path v) (sym t.study) here

pub tails_sound : (s : WideStudy) → TailsAreSound s
tails_sound s = record {
  small = tails_small s;
  known = λ path c. tail_known s path (tails_small s path c);
  studies = game_from s;
}

-- The tails of a study are the parts of its game with at most four men, and all of them.
use Rattle.std.specs.Prelude.{◌≡◌, ℕ, true, List, ◌∷◌, ◌++◌, Option, Some, Ok, Err}
use Rattle.std.specs.List.{Contains}
use Rattle.std.specs.Option.{option_map}
use Rattle.study_tree.specs.Tree.{spot_at}
use Rattle.study_marks.specs.Edits.{PlainStudy}
use Rattle.study_marks.specs.Bench.{start_at}
use Rattle.study_wide.specs.Rules.{is_small}
use Rattle.study_wide_text.specs.declared.start.WideStart.{WideStart}
use Rattle.study_wide_text.specs.StartAfter.{widen_start}
use Rattle.study_tails.specs.declared.tails.LeftOut.TheVariants.{NoTail}
use Rattle.study_tails.specs.Study.{WideStudy, Node, node_at}
use Rattle.study_tails.specs.Tails.{tails, tail}

-- a node is at the path, and at most four men and no right to castle are left there
abbrev pub IsSmallNode : WideStudy → List ℕ → Type 0
IsSmallNode s path = (n : Node) × (node_at s path ≡ Some n) × (is_small n.start.position ≡ true)

-- the start after the moves of the game along the path, if it leads to a node
abbrev pub wide_start_at : WideStudy → List ℕ → Option WideStart
wide_start_at s path = option_map (λ n. n.start) (node_at s path)

-- the study is the game's from the path on: at each path q it has a node exactly where the game has one at path ++ q, after the same move and with as many
-- children, and its start there by the rules for four men, with clock and number, is the game's
pub record IsGameFrom (s : WideStudy) (path : List ℕ) (u : PlainStudy) : Type 0 where
  pub starts : (q : List ℕ) → wide_start_at s (path ++ q) ≡ option_map widen_start (start_at u q)
  pub moves : (k : ℕ) (q : List ℕ) → spot_at s.tree (path ++ k ∷ q) ≡ spot_at u.tree (k ∷ q)
  pub tags : u.tags ≡ s.tags
  pub hero : u.stipulation.hero ≡ s.stipulation.hero

-- each tail begins at a node of the game with at most four men and no right, and its study, unless its mate is due or its numbers have more than four digits,
-- is the game's from there on
pub record TailsAreSound (s : WideStudy) : Type 0 where
  pub small : (path : List ℕ) → Contains (tails s) path → IsSmallNode s path
  pub known : (path : List ℕ) → Contains (tails s) path → ¬ (tail s path ≡ Err NoTail)
  pub studies : (path : List ℕ) (u : PlainStudy) → tail s path ≡ Ok u → IsGameFrom s path u

-- the one tail on the way to a node
pub record IsInOneTail (s : WideStudy) (path : List ℕ) : Type 0 where
  pub tail : List ℕ
  pub rest : List ℕ
  pub listed : Contains (tails s) tail
  pub way : path ≡ tail ++ rest
  pub only : (t q : List ℕ) → Contains (tails s) t → path ≡ t ++ q → t ≡ tail

-- each node with at most four men and no right is in exactly one tail
abbrev pub TailsAreComplete : WideStudy → Type 0
TailsAreComplete s = (path : List ℕ) → IsSmallNode s path → IsInOneTail s path

-- A study that begins with any number of men, and the nodes that its paths lead to.
use Rattle.std.specs.Prelude.{◌≡◌, ℕ, zero, suc, true, List, [], ◌∷◌, map, slice_set, Option, Some, None}
use Rattle.std.specs.List.{All}
use Rattle.arrayvec.specs.declared.array_string.ArrayString.{ArrayString}
use Rattle.study_tree.specs.Forest.{Forest, none, more}
use Rattle.study_tree.specs.Tree.{Plain, Held, plain_tree}
use Rattle.study_marks.specs.declared.stipulation.Stipulation.{Stipulation}
use Rattle.study_marks.specs.declared.tag.TagName.{TagName}
use Rattle.study_marks.specs.Study.{tag_index, AreDistinct}
use Rattle.study_marks.specs.BenchState.{IsTag}
use Rattle.study_wide.specs.Wide.{Wide, IsWide}
use Rattle.study_wide.specs.Rules.{is_wide_legal, wide_after}
use Rattle.study_wide_text.specs.declared.start.WideStart.{WideStart}
use Rattle.study_wide_text.specs.StartAfter.{wide_start_after}

-- moves, as siblings with what is below each
abbrev pub Moves : Type 0
Moves = Forest (Unit {0})

-- a study; its start may have more than four men and rights to castle
pub record WideStudy : Type 0 where
  pub start : WideStart
  pub stipulation : Stipulation
  pub tags : List (Option (List ℕ))
  pub tree : Plain (Unit {0})

-- a node: the start after the moves that lead to it, and the moves below it
pub record Node : Type 0 where
  pub start : WideStart
  pub below : Moves

-- the node that a path leads to from a start, below which are these moves
abbrev pub node_from : WideStart → Moves → List ℕ → Option Node
node_from s f [] = Some (record { start = s; below = f })
node_from s none (k ∷ ks) = None
node_from s (more m l b r) (zero ∷ ks) = node_from (wide_start_after s m) b ks
node_from s (more m l b r) (suc k ∷ ks) = node_from s r (k ∷ ks)

-- the node that a path leads to
abbrev pub node_at : WideStudy → List ℕ → Option Node
node_at s path = node_from s.start s.tree.below path

-- each move is legal in its position
abbrev pub IsWidePlayable : Wide → Moves → Type 0
IsWidePlayable g none = Unit {0}
IsWidePlayable g (more m l b r) = (is_wide_legal g m ≡ true) × IsWidePlayable (wide_after g m) b × IsWidePlayable g r

-- what holds of each study: its start is sound, its moves are legal, those of siblings differ, and its tags are texts of tags
pub record IsWideStudy (s : WideStudy) : Type 0 where
  pub sound : IsWide s.start.position
  pub playable : IsWidePlayable s.start.position s.tree.below
  pub distinct : AreDistinct s.tree.below
  pub printed : All IsTag s.tags

-- another stipulation, and another text of a tag
abbrev pub with_wide_stipulation : WideStudy → Stipulation → WideStudy
with_wide_stipulation s stipulation = record s { stipulation = stipulation }

abbrev pub with_wide_tag : WideStudy → TagName → List ℕ → WideStudy
with_wide_tag s name text = record s { tags = slice_set s.tags (tag_index name) (Some text) }

-- the text of a tag, if it is known
abbrev pub text_of : Option (ArrayString 64) → Option (List ℕ)
text_of None = None
text_of (Some t) = Some t.bytes

-- a study, from its parts
abbrev pub study_of : WideStart → Stipulation → List (Option (ArrayString 64)) → Held (Unit {0}) → WideStudy
study_of start stipulation tags held = record { start = start; stipulation = stipulation; tags = map text_of tags; tree = plain_tree held }

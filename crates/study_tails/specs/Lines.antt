-- The lines of a script that make a study, each after the same bytes: none in a block, `#> ` in remarks.
use Rattle.std.specs.Prelude.{ℕ, suc, List, [], ◌∷◌, ◌++◌, codes, decimal, Option, Some, None}
use Rattle.std.specs.List.{flat_map}
use Rattle.study_text.specs.Paths.{path_text}
use Rattle.study_board.specs.declared.men.Side.{Side}
use Rattle.study_board.specs.declared.men.Side.TheVariants.{White, Black}
use Rattle.study_moves.specs.declared.moves.Move.{Move}
use Rattle.study_tree.specs.Forest.{none, more}
use Rattle.study_marks.specs.declared.stipulation.Goal.{Goal}
use Rattle.study_marks.specs.declared.stipulation.Goal.TheVariants.{Win, Draw, MateIn}
use Rattle.study_marks.specs.declared.stipulation.Stipulation.{Stipulation}
use Rattle.study_marks.specs.declared.tag.TagName.{TagName}
use Rattle.study_marks.specs.declared.tag.TagName.TheVariants as tag
use Rattle.study_marks.specs.Study.{tag_name, tag_of}
use Rattle.study_wide.specs.Wide.{Wide}
use Rattle.study_wide.specs.Rules.{wide_after}
use Rattle.study_wide_text.specs.declared.start.WideStart.{WideStart}
use Rattle.study_wide_text.specs.Fen.{wide_fen_text}
use Rattle.study_wide_text.specs.SanSpelling.{wide_move_text}
use Rattle.study_tails.specs.Study.{Moves, WideStudy}

-- `position FEN`
unfoldable pub position_line : List ℕ → WideStart → List ℕ
position_line before s = before ++ (codes "position " ++ (wide_fen_text s ++ codes "\n"))

abbrev pub side_words : Side → List ℕ
side_words White = codes "white "
side_words Black = codes "black "

abbrev pub goal_words : Goal → List ℕ
goal_words Win = codes "win\n"
goal_words Draw = codes "draw\n"
goal_words (MateIn count) = codes "mate " ++ (decimal count ++ codes "\n")

-- `stipulate SIDE win`, `draw` or `mate N`
unfoldable pub stipulation_line : List ℕ → Stipulation → List ℕ
stipulation_line before s = before ++ (codes "stipulate " ++ (side_words s.hero ++ goal_words s.goal))

-- `tag NAME TEXT`, if the text is known
abbrev pub tag_line : List ℕ → TagName → Option (List ℕ) → List ℕ
tag_line before name None = []
tag_line before name (Some text) = before ++ (codes "tag " ++ (tag_name name ++ (codes " " ++ (text ++ codes "\n"))))

abbrev pub six_names : List TagName
six_names = tag.Event ∷ tag.Site ∷ tag.Date ∷ tag.Round ∷ tag.White ∷ tag.Black ∷ []

unfoldable pub line_of_tag : List ℕ → List (Option (List ℕ)) → TagName → List ℕ
line_of_tag before tags name = tag_line before name (tag_of tags name)

abbrev pub tag_lines : List ℕ → List (Option (List ℕ)) → List ℕ
tag_lines before tags = flat_map (line_of_tag before tags) six_names

-- `insert PATH SAN`, for a move in the position of the node at the path
unfoldable pub insert_line : List ℕ → Wide → List ℕ → Move → List ℕ
insert_line before g at m = before ++ (codes "insert " ++ (path_text at ++ (codes " " ++ (wide_move_text g m ++ codes "\n"))))

-- in written order, those of siblings below the node, the first of which has the place k, each with what is below it
abbrev pub insert_lines : List ℕ → Wide → List ℕ → ℕ → Moves → List ℕ
insert_lines before g at k none = []
insert_lines before g at k (more m l b r) =
    insert_line before g at m ++ (insert_lines before (wide_after g m) (at ++ k ∷ []) 0 b ++ insert_lines before g at (suc k) r)

-- start and stipulation
unfoldable pub head_lines : List ℕ → WideStart → Stipulation → List (Option (List ℕ)) → List ℕ
head_lines before start stipulation tags = position_line before start ++ (stipulation_line before stipulation ++ tag_lines before tags)

-- the whole study
unfoldable pub study_lines : List ℕ → WideStudy → List ℕ
study_lines before s = head_lines before s.start s.stipulation s.tags ++ insert_lines before s.start.position [] 0 s.tree.below

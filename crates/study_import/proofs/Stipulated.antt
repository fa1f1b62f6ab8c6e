-- The line of a stipulation is that of a study with more men.
use Rattle.std.proofs.Common.{◌≡◌, [], refl}
use Rattle.study_board.specs.declared.men.Side.{Side}
use Rattle.study_board.specs.declared.men.Side.TheVariants.{White, Black}
use Rattle.study_marks.specs.declared.stipulation.Goal.{Goal}
use Rattle.study_marks.specs.declared.stipulation.Goal.TheVariants.{Win, Draw, MateIn}
use Rattle.study_marks.specs.declared.stipulation.Stipulation.{Stipulation}
use Rattle.study_tails.specs.Lines.{side_words, goal_words, stipulation_line as wide_stipulation_line}
use Rattle.study_import.specs.Blocks.{side_text, goal_text, stipulation_line}

side_same : (side : Side) → side_words side ≡ side_text side
side_same White = refl
side_same Black = refl

goal_same : (goal : Goal) → goal_words goal ≡ goal_text goal
goal_same Win = refl
goal_same Draw = refl
goal_same (MateIn count) = refl

pub stipulation_same : (s : Stipulation) → wide_stipulation_line [] s ≡ stipulation_line s
unfolding wide_stipulation_line stipulation_line
stipulation_same s = rw (side_same s.hero, goal_same s.goal) refl

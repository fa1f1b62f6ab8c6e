-- Mutual zugzwangs at the nodes of a study.
use Rattle.std.specs.Prelude.{◌≡◌, ◌==◌, ℕ, ◌+◌, List, [], ◌++◌, Option, Some, None, codes, if◌then◌else◌}
use Rattle.study_board.specs.declared.men.Side.{Side}
use Rattle.study_board.specs.declared.men.Side.TheVariants.{White, Black}
use Rattle.study_board.specs.Men.{same_side, other_side}
use Rattle.study_board.specs.Position.{Position}
use Rattle.study_marks.specs.declared.mark.Mark.{Mark}
use Rattle.study_marks.specs.Study.{Study, position_at}
use Rattle.study_zugzwang.specs.Zugzwang.{IsZugzwang, Scores, handed_on}
use Rattle.study_facts.specs.declared.zugzwang.Zugzwang.{Zugzwang}
use Rattle.study_facts.specs.declared.zugzwang.Zugzwang.TheVariants.{Full, Half}
use Rattle.study_facts.specs.Words.{front_words}

-- the same men with this side to move
abbrev pub turned_to : Side → Position → Position
turned_to side p = if same_side p.to_move side then p else handed_on p

-- no mutual zugzwang; one for a full point, if each side loses when it is to move; or one for half a point of a side, which draws when it is
-- to move, and wins when the other side is
abbrev pub IsZugzwangOf : Position → Option Zugzwang → Type 0
IsZugzwangOf p None = ¬ (IsZugzwang p)
IsZugzwangOf p (Some Full) = IsZugzwang p × Scores p 0 × Scores (handed_on p) 0
IsZugzwangOf p (Some (Half side)) = IsZugzwang p × Scores (turned_to side p) 1 × Scores (turned_to (other_side side) p) 0

-- by the half points that each side scores when it is to move, this one and the other
abbrev pub kind_of : Side → ℕ → ℕ → Option Zugzwang
kind_of side i j =
    if i + j == 0 then Some Full
    else (if i + j == 1 then Some (Half (if i == 1 then side else other_side side)) else None)

abbrev pub zugzwang_words : Zugzwang → List ℕ
zugzwang_words Full = codes "full"
zugzwang_words (Half White) = codes "half white"
zugzwang_words (Half Black) = codes "half black"

-- `zugzwang 0.0.1 half white`
abbrev pub zugzwang_line : List ℕ → Option Zugzwang → List ℕ
zugzwang_line path None = []
zugzwang_line path (Some z) = front_words (codes "zugzwang ") path ++ (zugzwang_words z ++ codes "\n")

-- a line if the position of the node is a mutual zugzwang
abbrev pub ZugzwangLines : Study Mark → List ℕ → List ℕ → Type 0
ZugzwangLines s path text = (z : Option Zugzwang) × IsZugzwangOf (position_at s path) z × (text ≡ zugzwang_line path z)

-- The tails of a study: the parts of its tree that begin at the first position of at most four men without a right to castle.
use Rattle.std.specs.Prelude.{ℕ, ◌+◌, ◌-◌, suc, Bool, false, not, ◌&&◌, ◌||◌, ◌==◌, nat_le, nat_lt, List, [], ◌∷◌, ◌++◌, map}
use Rattle.std.specs.Prelude.{Option, Some, None, Result, Ok, Err, if◌then◌else◌}
use Rattle.study_board.specs.declared.men.Side.{Side}
use Rattle.study_board.specs.Men.{same_side, other_side}
use Rattle.study_notation.specs.declared.start.Start.{Start}
use Rattle.study_tree.specs.Forest.{none, more}
use Rattle.study_marks.specs.declared.stipulation.Goal.{Goal}
use Rattle.study_marks.specs.declared.stipulation.Goal.TheVariants.{Win, Draw, MateIn}
use Rattle.study_marks.specs.Edits.{PlainStudy}
use Rattle.study_wide.specs.Wide.{Wide}
use Rattle.study_wide.specs.Rules.{wide_after, is_small}
use Rattle.study_wide_text.specs.declared.start.WideStart.{WideStart}
use Rattle.study_tails.specs.declared.tails.LeftOut.{LeftOut}
use Rattle.study_tails.specs.declared.tails.LeftOut.TheVariants.{NoTail, MateIsDue, NumbersAbove9999}
use Rattle.study_tails.specs.Study.{Moves, WideStudy, Node, node_at}

-- ---- where they begin

-- the paths of the tails below siblings, whose moves are made in g; the first of the siblings has the place k
abbrev pub tails_among : Wide → ℕ → Moves → List (List ℕ)
tails_among g k none = []
tails_among g k (more m l b r) =
    map (λ p. k ∷ p) (if is_small (wide_after g m) then [] ∷ [] else tails_among (wide_after g m) 0 b) ++ tails_among g (suc k) r

-- the paths of the tails below a node, itself included
abbrev pub tails_from : Wide → Moves → List (List ℕ)
tails_from g f = if is_small g then [] ∷ [] else tails_among g 0 f

-- the paths of the tails, in written order
abbrev pub tails : WideStudy → List (List ℕ)
tails s = tails_from s.start.position s.tree.below

-- ---- the way to them

-- the number of the hero's moves on a path that begins with this side to move
abbrev pub moves_by : Side → Side → List ℕ → ℕ
moves_by hero side [] = 0
moves_by hero side (k ∷ ks) = (if same_side side hero then 1 else 0) + moves_by hero (other_side side) ks

-- some move of the hero on the path is no first child: he does not play the solution
abbrev pub has_try : Side → Side → List ℕ → Bool
has_try hero side [] = false
has_try hero side (k ∷ ks) = (same_side side hero && not (k == 0)) || has_try hero (other_side side) ks

abbrev pub is_beside : WideStudy → List ℕ → Bool
is_beside s path = has_try s.stipulation.hero s.start.position.board.to_move path

-- ---- their studies

-- what is left of a goal after so many moves of the hero; a mate in k may be due
abbrev pub goal_after : Goal → ℕ → Option Goal
goal_after Win n = Some Win
goal_after Draw n = Some Draw
goal_after (MateIn k) n = if nat_lt n k then Some (MateIn (k - n)) else None

-- clock and number have at most four digits, as a FEN has them
abbrev pub has_four_digits : WideStart → Bool
has_four_digits s = nat_le s.clock 9999 && nat_le s.number 9999

-- the start where at most four men and no right are left
abbrev pub narrow_start : WideStart → Start
narrow_start s = record { position = s.position.board; clock = s.clock; number = s.number }

-- the study that begins at a node, with this goal
abbrev pub study_from : WideStudy → Node → Goal → PlainStudy
study_from s n goal = record {
  start = narrow_start n.start;
  stipulation = record { hero = s.stipulation.hero; goal = goal };
  tags = s.tags;
  tree = record { label = tt; below = n.below };
}

abbrev pub tail_with : WideStudy → Node → Option Goal → Result PlainStudy LeftOut
tail_with s n None = Err MateIsDue
tail_with s n (Some goal) = if has_four_digits n.start then Ok (study_from s n goal) else Err NumbersAbove9999

abbrev pub tail_to : WideStudy → List ℕ → Option Node → Result PlainStudy LeftOut
tail_to s path None = Err NoTail
tail_to s path (Some n) =
    if is_small n.start.position
    then tail_with s n (goal_after s.stipulation.goal (moves_by s.stipulation.hero s.start.position.board.to_move path)) else Err NoTail

-- the study that begins at the node of the path: its start is the game's after those moves, its tree what is below the node, and its stipulation what is left
-- of the game's; or why there is none
unfoldable pub tail : WideStudy → List ℕ → Result PlainStudy LeftOut
tail s path = tail_to s path (node_at s path)

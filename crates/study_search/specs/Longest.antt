-- The longest mate of a side in a class.
use Rattle.std.specs.Prelude.{◌≡◌, true, ℕ, ◌≤◌, nat_lt, Option, Some, None, MatchOption, if◌then◌else◌}
use Rattle.study_board.specs.declared.men.Side.{Side}
use Rattle.study_board.specs.Men.{same_side}
use Rattle.study_board.specs.Position.{Position}
use Rattle.study_moves.specs.Game.{IsWon}
use Rattle.study_material.specs.declared.class.Class.{Class}
use Rattle.study_values.specs.declared.value.Value.{Value}
use Rattle.study_values.specs.declared.value.Value.TheVariants.{Win, Loss, Draw}
use Rattle.study_index.specs.Computed.{position_numbered}

abbrev pub option_max : Option ℕ → Option ℕ → Option ℕ
option_max None b = b
option_max (Some x) None = Some x
option_max (Some x) (Some y) = if nat_lt x y then Some y else Some x

-- the number of plies in which the side to move mates, by the value
abbrev pub mate_by : Value → Option ℕ
mate_by (Win n) = Some n
mate_by (Loss n) = None
mate_by Draw = None

-- the side is to move, and mates in k plies
abbrev pub MatesIn : Side → ℕ → Position → Type 0
MatesIn side k p = (same_side p.to_move side ≡ true) × IsWon p k

abbrev pub MatesAt : Class → Side → ℕ → ℕ → Type 0
MatesAt c side n k = (p : Position) × (position_numbered c n ≡ Some p) × MatesIn side k p

-- some position has this mate, and none a longer one; or no position has a mate
abbrev pub IsLongest : Class → Side → Option ℕ → Type 0
IsLongest c side longest = MatchOption longest
    ((n k : ℕ) → ¬ (MatesAt c side n k))
    (λ most. ((n : ℕ) × MatesAt c side n most) × ((n k : ℕ) → MatesAt c side n k → k ≤ most))

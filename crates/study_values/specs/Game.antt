-- The game's value of a position.
use Rattle.study_board.specs.Position.{Position}
use Rattle.study_moves.specs.Game.{IsWon, IsLost, IsDrawn}
use Rattle.study_values.specs.declared.value.Value.{Value}
use Rattle.study_values.specs.declared.value.Value.TheVariants.{Win, Loss, Draw}

-- the game's value: the side to move mates, or is mated, in exactly n plies, or neither side forces mate
abbrev pub IsValueOf : Position → Value → Type 0
IsValueOf p (Win n) = IsWon p n
IsValueOf p (Loss n) = IsLost p n
IsValueOf p Draw = IsDrawn p

-- What is followed while the moves of a game are read: studies of some kind, and the rules by which texts for moves change them.
use Rattle.std.specs.Prelude.{◌≡◌, ℕ, Bool, List, Option, Result, Ok, Err}
use Rattle.study_board.specs.declared.men.Side.{Side}
use Rattle.study_moves.specs.declared.moves.Move.{Move}
use Rattle.study_games.specs.declared.spelling.Claim.{Claim}
use Rattle.study_reading.specs.declared.moves.MoveFault.{MoveFault}
use Rattle.study_reading.specs.declared.moves.MoveFault.TheVariants.{OutOfMemory}
use Rattle.study_reading.specs.declared.moves.Step.{Step}

-- the study after a move, and the child to which the move leads
pub record After (S : Type 0) : Type 0 where
  pub study : S
  pub step : Step

-- begins: the side that begins. played: the text for a move at the node of a path. inserted: the line of a script that inserts a move at a node; empty if
-- none is new. is_false: the node exists, and what the signs behind a move claim is false of its position
pub record Rules (S : Type 0) : Type 0 where
  pub begins : S → Side
  pub played : S → List ℕ → List ℕ → Result (After S) MoveFault
  pub inserted : S → List ℕ → Option Move → List ℕ
  pub is_false : S → List ℕ → Claim → Bool

-- the child, and the study after the move, unless there was no memory, which ends the run
abbrev pub Goes : {S : Type 0} → Result Step MoveFault → Result (After S) MoveFault → S → Type 0
Goes (Ok step) expected new = expected ≡ Ok (record { study = new; step = step })
Goes (Err OutOfMemory) expected new = Unit {0}
Goes (Err fault) expected new = expected ≡ Err fault

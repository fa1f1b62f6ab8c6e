-- The legal moves of a position by their results.
use Rattle.std.specs.Prelude.{ℕ, ◌+◌, List, [], ◌∷◌, ◌++◌}
use Rattle.study_values.specs.declared.value.Value.{Value}
use Rattle.study_values.specs.declared.value.Value.TheVariants.{Win, Loss, Draw}

-- the distances of the moves after which the opponent is mated, in the order of the moves, and the number of drawing moves
pub record MoveOutcomes : Type 0 where
  pub mates : List ℕ
  pub draws : ℕ

-- one more move, before the others: the value is for the opponent
abbrev pub with_value : Value → MoveOutcomes → MoveOutcomes
with_value (Win n) t = t
with_value (Loss n) t = record { mates = n ∷ t.mates; draws = t.draws }
with_value Draw t = record { mates = t.mates; draws = 1 + t.draws }

abbrev pub tally_of : List Value → MoveOutcomes
tally_of [] = record { mates = []; draws = 0 }
tally_of (v ∷ vs) = with_value v (tally_of vs)

-- one more move, after the others
abbrev pub with_last_value : MoveOutcomes → Value → MoveOutcomes
with_last_value t (Win n) = t
with_last_value t (Loss n) = record { mates = t.mates ++ n ∷ []; draws = t.draws }
with_last_value t Draw = record { mates = t.mates; draws = t.draws + 1 }

-- the moves of two lists, one after the other
abbrev pub tallies_joined : MoveOutcomes → MoveOutcomes → MoveOutcomes
tallies_joined t u = record { mates = t.mates ++ u.mates; draws = t.draws + u.draws }

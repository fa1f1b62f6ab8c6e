-- Not part of any public contract: the nearest loss, the farthest win and whether there is a draw among the values after a position's moves.
use Rattle.std.specs.Prelude.{ℕ, ◌+◌, min, max, Bool, true, false, if◌then◌else◌, Option, Some, None}
use Rattle.study_values.specs.declared.value.Value.{Value}
use Rattle.study_values.specs.declared.value.Value.TheVariants.{Win, Loss, Draw}

-- the nearest loss, after one more value
abbrev pub lost_with : Option ℕ → Value → Option ℕ
lost_with None (Loss n) = Some n
lost_with (Some m) (Loss n) = Some (min m n)
lost_with lost (Win n) = lost
lost_with lost Draw = lost

-- the farthest win, after one more value
abbrev pub won_with : Option ℕ → Value → Option ℕ
won_with None (Win n) = Some n
won_with (Some m) (Win n) = Some (max m n)
won_with won (Loss n) = won
won_with won Draw = won

-- whether there is a draw, after one more value
abbrev pub drawn_with : Bool → Value → Bool
drawn_with drawn (Win n) = drawn
drawn_with drawn (Loss n) = drawn
drawn_with drawn Draw = true

-- the value of a position from values without a loss
abbrev pub given_unlost : Bool → Bool → Option ℕ → Value
given_unlost mate true won = Draw
given_unlost mate false (Some n) = Loss (n + 1)
given_unlost mate false None = if mate then Loss 0 else Draw

-- the value of a position from the values after its moves
abbrev pub given_by : Bool → Option ℕ → Option ℕ → Bool → Value
given_by mate (Some n) won drawn = Win (n + 1)
given_by mate None won drawn = given_unlost mate drawn won

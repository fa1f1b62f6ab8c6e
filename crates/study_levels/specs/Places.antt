-- Not part of any public contract: the location of a position's value, in a cell of the class or outside it.
use Rattle.std.specs.Prelude.{◌≡◌, ℕ, ◌<◌, Bool, true, false}
use Rattle.study_values.specs.Cells.{distance_of}
use Rattle.study_values.specs.declared.value.Value.{Value}
use Rattle.study_levels.specs.declared.game.Location.{Location}
use Rattle.study_levels.specs.declared.game.Location.TheVariants.{Cell, Outside}

-- the location of the value of p
abbrev pub IsPlace : {P : Type 0} → (P → Bool) → (P → ℕ) → (P → Value) → ℕ → P → Location → Type 0
IsPlace home index outside size p (Cell n) = (home p ≡ true) × (index p ≡ n) × (n < size)
IsPlace home index outside size p (Outside v) = (home p ≡ false) × (outside p ≡ v) × (distance_of v < 255)

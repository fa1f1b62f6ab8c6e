-- Not part of any public contract: the positions before some of a row of numbers.
use Rattle.std.specs.Prelude.{◌≡◌, ℕ, ◌+◌, ◌*◌, ◌<◌, true, Some}
use Rattle.study_board.specs.Position.{Position}
use Rattle.study_board.specs.Sets.{has}
use Rattle.study_material.specs.declared.class.Class.{Class}
use Rattle.study_index.specs.Computed.{position_numbered}
use Rattle.study_retro.specs.Predecessors.{IsBefore}

-- the numbers of a row whose squares are in the set have positions: a row is 64 numbers, one for each square
abbrev pub AreNumbered : Class → ℕ → ℕ → Type 0
AreNumbered class row set = (y : ℕ) → y < 64 → has set y ≡ true → (q : Position) × (position_numbered class (64 * row + y) ≡ Some q)

-- the position of n is before one of them
abbrev pub IsBeforeRow : Class → ℕ → ℕ → ℕ → Type 0
IsBeforeRow class row set n = (y : ℕ) × (y < 64) × (has set y ≡ true) × IsBefore class (64 * row + y) n

-- Not part of any public contract: rows of 64 cells, and the level that looks at each. A cell is one more than the plies of its mate.
use Rattle.std.specs.Prelude.{◌≡◌, ℕ, ◌+◌, ◌*◌, ◌/◌, ◌^◌, ◌<◌, ◌≤◌, All, List, length, slice_index}

-- The mate of the cell at i is to come: of as many plies as the level or more, and in the rows that were looked at of more.
abbrev pub IsToCome : ℕ → ℕ → List ℕ → ℕ → Type 0
IsToCome level looked cells i = (level < slice_index cells i) × (i < 64 * looked → level + 1 < slice_index cells i)

-- No mate to come is shorter than what is due in its row.
abbrev pub AreDue : ℕ → ℕ → List ℕ → List ℕ → Type 0
AreDue level looked cells due = (i : ℕ) → IsToCome level looked cells i → slice_index due (i / 64) < slice_index cells i

-- There is a byte for each row, and no mate to come is shorter than its row's.
pub record AreInRows (level looked : ℕ) (cells due : List ℕ) : Type 0 where
  pub small : length cells < 2 ^ 32
  pub rows : length cells ≤ 64 * length due
  pub bytes : (i : ℕ) → slice_index cells i ≤ 255
  pub pending : AreDue level looked cells due

-- The cells are 0, and there is a byte for each row.
pub record IsRoom (cells rows : List ℕ) : Type 0 where
  pub small : length cells < 2 ^ 32
  pub covered : length cells ≤ 64 * length rows
  pub zero : All (λ c. c ≡ 0) cells

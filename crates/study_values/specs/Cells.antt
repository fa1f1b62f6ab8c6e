-- The values that cells of a table encode, and the distance of a value from the mate.
use Rattle.std.specs.Prelude.{ℕ, ◌-◌, ◌%◌, ◌==◌, Bool, if◌then◌else◌, List, slice_index}
use Rattle.study_values.specs.declared.value.Value.{Value}
use Rattle.study_values.specs.declared.value.Value.TheVariants.{Win, Loss, Draw}

-- the value that a cell encodes
abbrev pub value_of : ℕ → Value
value_of c = if c == 0 then Draw else if c % 2 == 1 then Loss (c - 1) else Win (c - 1)

-- the plies to the mate; 0 for a draw
abbrev pub distance_of : Value → ℕ
distance_of (Win n) = n
distance_of (Loss n) = n
distance_of Draw = 0

-- the label of a position: from its cell if it is in the class, otherwise from the value known outside
abbrev pub label_of : {P : Type 0} → (P → Bool) → (P → ℕ) → (P → Value) → List ℕ → P → Value
label_of home index outside cells p = if home p then value_of (slice_index cells (index p)) else outside p

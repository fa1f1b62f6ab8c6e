-- The number of pages in the file of a class.
use Rattle.std.specs.Prelude.{ℕ, ◌+◌, ◌/◌}
use Rattle.study_material.specs.declared.class.Class.{Class}
use Rattle.study_values.specs.Number.{cells_of}

-- the number of pages of a class
unfoldable pub pages_of : Class → ℕ
pages_of c = (cells_of c + 4095) / 4096

-- Cells of cached pages.
use Rattle.std.specs.Prelude.{ℕ, ◌==◌, ◌/◌, ◌%◌, Bool, ◌&&◌, List, slice_get, Option, Some, None}
use Rattle.std.specs.Map.{lookup}
use Rattle.study_material.specs.declared.class.Class.{Class}
use Rattle.study_material.specs.Class.{class_number}
use Rattle.study_prober.specs.declared.page_cache.PageKey.{PageKey}

-- two classes are the same
abbrev pub same_class : Class → Class → Bool
same_class c d = class_number c == class_number d

-- two keys are the same
abbrev pub same_key : PageKey → PageKey → Bool
same_key a b = same_class a.class b.class && (a.number == b.number)

-- the page of a class that has the cell of a number
abbrev pub key_at : Class → ℕ → PageKey
key_at c n = record { class = c; number = n / 4096 }

-- the cell of a page, if there is one
abbrev pub cell_at : {V : Type 0} → (V → List ℕ) → ℕ → Option V → Option ℕ
cell_at cells at None = None
cell_at cells at (Some v) = slice_get (cells v) at

-- the cell of a number in the cached pages, if its page is cached
abbrev pub kept_cell : {V : Type 0} → (V → List ℕ) → List (PageKey × V) → Class → ℕ → Option ℕ
kept_cell cells kept c n = cell_at cells (n % 4096) (lookup (same_key (key_at c n)) kept)

-- The text of a table file, byte by byte.
use Rattle.std.specs.Prelude.{◌≡◌, ℕ, Bool, true, not, ◌||◌, ◌==◌, zero, suc, ◌+◌, ◌-◌, List, [], ◌++◌, length, take, drop, replicate, codes}
use Rattle.byteorder.specs.Endian.{little_bytes}
use Rattle.sha2.specs.Sha256.{sha256}
use Rattle.study_material.specs.declared.class.Class.{Class}
use Rattle.study_material.specs.Class.{name_of, lists_of}
use Rattle.study_values.specs.Number.{has_both_pawns, cells_of}
use Rattle.study_table.specs.Table.{Table}
use Rattle.study_values.specs.Size.{pages_of}

-- the name of a class in 8 bytes
unfoldable pub class_field : Class → List ℕ
class_field c = name_of c ++ replicate (8 - length (name_of c)) 0

-- the version that is written, and whether a version can be read
abbrev pub written_version : ℕ
written_version = 2

abbrev pub is_version : ℕ → Bool
is_version v = (v == 1) || (v == 2)

-- whether files of a readable version can be of the class: version 1 has no class with a pawn on both sides
abbrev pub is_known_version : ℕ → Class → Bool
is_known_version v c = not (v == 1) || not (has_both_pawns (lists_of c))

abbrev pub IsVersionOf : Class → ℕ → Type 0
IsVersionOf c v = (is_version v ≡ true) × (is_known_version v c ≡ true)

-- the 32 bytes of a header's fields: the mark, the version, the cells of a page, the cells of the class, its name, 8 zero bytes
unfoldable pub fields_text : Class → ℕ → List ℕ
fields_text c v =
    codes "STUDYDTM" ++ little_bytes 2 v ++ little_bytes 2 4096 ++ little_bytes 4 (cells_of c) ++ class_field c ++ replicate 8 0

-- a header: its fields and their digest
unfoldable pub header_text : Class → ℕ → List ℕ
header_text c v = fields_text c v ++ sha256 (fields_text c v)

-- the cells of a page, with zero bytes after the last cell
unfoldable pub page_cells_of : List ℕ → List ℕ
page_cells_of cells = take 4096 cells ++ replicate (4096 - length cells) 0

-- the digest of a page: over the fields, the number of the page and its cells
unfoldable pub page_digest : List ℕ → ℕ → List ℕ → List ℕ
page_digest fields n cells = sha256 (fields ++ little_bytes 4 n ++ cells)

-- a page: its cells and their digest
unfoldable pub page_text : List ℕ → ℕ → List ℕ → List ℕ
page_text fields n cells = cells ++ page_digest fields n cells

-- so many pages from page n on, for the cells from there on
abbrev pub pages_text : List ℕ → ℕ → ℕ → List ℕ → List ℕ
pages_text fields n zero cells = []
pages_text fields n (suc k) cells = page_text fields n (page_cells_of cells) ++ pages_text fields (n + 1) k (drop 4096 cells)

-- the text of a table in a version: a header, then all pages
unfoldable pub table_text : Table → ℕ → List ℕ
table_text t v = header_text t.class v ++ pages_text (fields_text t.class v) 0 (pages_of t.class) t.cells

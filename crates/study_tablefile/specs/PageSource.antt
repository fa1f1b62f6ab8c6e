-- Pages of a table's file, one by one, and their sources.
use Rattle.std.specs.Prelude.{◌≡◌, ℕ, ◌+◌, ◌-◌, ◌*◌, ◌<◌, ◌≤◌, min, Bool, true, ◌&&◌, List}
use Rattle.std.specs.Prelude.{length, take, drop, replicate, Option, is_some, Result, Ok, Err}
use Rattle.std.specs.Str.{bytes_eq}
use Rattle.study_table.specs.Table.{Table}
use Rattle.study_values.specs.declared.fault.SourceFault.{SourceFault}
use Rattle.study_values.specs.declared.fault.SourceFault.TheVariants.{Device, Short}
use Rattle.study_tablefile.specs.Format.{fields_text, page_cells_of, page_digest, page_text}

-- the places of a page after the last cell
abbrev pub places_behind : ℕ → ℕ → List ℕ → List ℕ
places_behind cells n page = drop (min (cells - n * 4096) 4096) (take 4096 page)

-- a page with the digest of its cells, and zero bytes after the last cell
abbrev pub is_whole_page : List ℕ → ℕ → ℕ → List ℕ → Bool
is_whole_page fields cells n page =
    bytes_eq (take 32 (drop 4096 page)) (page_digest fields n (take 4096 page))
    && bytes_eq (places_behind cells n page) (replicate (length (places_behind cells n page)) 0)

-- page n of the file of a table in a version
abbrev pub page_of : Table → ℕ → ℕ → List ℕ
page_of t v n = page_text (fields_text t.class v) n (page_cells_of (drop (4096 * n) t.cells))

-- a request to a source of pages: the header of a file, or a page
pub data Question : Type 0 where
  of_header : Question
  of_page : (n : ℕ) → Question

-- the place of the first requested byte, and the number of requested bytes
abbrev pub begins_at : Question → ℕ
begins_at of_header = 0
begins_at (of_page n) = 64 + 4128 * n

abbrev pub asks_for : Question → ℕ
asks_for of_header = 64
asks_for (of_page n) = 4128

-- the possible answers of a source over a text in memory: these bytes of the text, `Short` if it has too few, and `Device` if it is to fail once
abbrev pub IsAnswerOf : List ℕ → Option ℕ → Question → Result (List ℕ) SourceFault → Type 0
IsAnswerOf text fails q (Ok bytes) = (begins_at q + asks_for q ≤ length text) × (bytes ≡ take (asks_for q) (drop (begins_at q) text))
IsAnswerOf text fails q (Err Short) = length text < begins_at q + asks_for q
IsAnswerOf text fails q (Err Device) = is_some fails ≡ true

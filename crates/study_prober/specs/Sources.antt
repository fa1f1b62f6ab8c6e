-- Sources of pages, and the cells of their tables' pages.
use Rattle.std.specs.Prelude.{◌≡◌, ◌⊎◌, ℕ, ◌*◌, ◌/◌, ◌%◌, List, slice_index, take, drop, Contains, Bool, true, false, Result, Ok, Err, if◌then◌else◌}
use Rattle.study_material.specs.declared.class.Class.{Class}
use Rattle.study_values.specs.Number.{cells_of}
use Rattle.study_table.specs.Table.{Table, IsComplete}
use Rattle.study_table.specs.Sound.{IsRight}
use Rattle.study_values.specs.Cells.{value_of}
use Rattle.study_values.specs.declared.value.Value.{Value}
use Rattle.study_tablefile.specs.declared.page_source.Header.{Header}
use Rattle.study_tablefile.specs.Format.{IsVersionOf, fields_text, page_cells_of}
use Rattle.study_values.specs.declared.fault.SourceFault.{SourceFault}
use Rattle.study_text.specs.Counts.{next_count}
use Rattle.study_tablefile.specs.PageSource.{is_whole_page, Question, of_page}
use Rattle.study_prober.specs.declared.open_table.OpenTable.{OpenTable}
use Rattle.study_prober.specs.declared.page_cache.PageKey.{PageKey}
use Rattle.study_values.specs.Values.{ProbeAnswer}
use Rattle.study_values.specs.declared.values.ProbeFault.{ProbeFault}
use Rattle.study_values.specs.declared.values.ProbeFault.TheVariants.{NoTable, TableRead, PageDamaged}

-- the header of a class
pub record IsHeaderOf (h : Header) (c : Class) : Type 0 where
  pub class : h.class ≡ c
  pub version : IsVersionOf c h.version
  pub cells : h.cells ≡ cells_of c
  pub fields : h.fields ≡ fields_text c h.version

-- the cells of page n of a table's file, in any version
abbrev pub cells_on_page : Table → ℕ → List ℕ
cells_on_page t n = page_cells_of (drop (4096 * n) t.cells)

-- the possible answers of a source to a request, and the tables, in which versions of their files, for which it is honest
abbrev pub GivesOf : Type 0 → Type 1
GivesOf S = S → Question → Result (List ℕ) SourceFault → Type 0

abbrev pub HonestOf : Type 0 → Type 1
HonestOf S = S → Table → ℕ → Type 0

-- the cells of a page that the source may return as page n, and that passes the check with the source's header
pub record IsGivenPage {S : Type 0} (gives : GivesOf S) (h : OpenTable S) (n : ℕ) (cells : List ℕ) : Type 0 where
  pub page : List ℕ
  pub given : gives h.source (of_page n) (Ok page)
  pub whole : is_whole_page h.header.fields h.header.cells n page ≡ true
  pub is : cells ≡ take 4096 page

-- the source may return a page n that does not pass the check
pub record HasBadPage {S : Type 0} (gives : GivesOf S) (h : OpenTable S) (n : ℕ) : Type 0 where
  pub page : List ℕ
  pub given : gives h.source (of_page n) (Ok page)
  pub not_whole : is_whole_page h.header.fields h.header.cells n page ≡ false

-- the value is at the place of a number, in such a page
abbrev pub IsReadFrom : {S : Type 0} → GivesOf S → OpenTable S → ℕ → Value → Type 0
IsReadFrom gives h n v = (cells : List ℕ) × IsGivenPage gives h (n / 4096) cells × (v ≡ value_of (slice_index cells (n % 4096)))

-- a possible answer for the cell of a number, through the source of a class: its value; a fault that the source may return when the page is requested; or
-- that the page is damaged, if it may return one that does not pass the check
abbrev pub IsAnswerFrom : {S : Type 0} → GivesOf S → Class → OpenTable S → ℕ → ProbeAnswer → Type 0
IsAnswerFrom gives c h n (Ok v) = IsReadFrom gives h n v
IsAnswerFrom gives c h n (Err (NoTable d)) = ⊥
IsAnswerFrom gives c h n (Err (TableRead f)) = gives h.source (of_page (n / 4096)) (Err f)
IsAnswerFrom gives c h n (Err (PageDamaged d page)) = (d ≡ c) × (page ≡ n / 4096) × HasBadPage gives h page

-- two states of one source with the same possible answers
pub record GiveAlike {S : Type 0} (gives : GivesOf S) (old new : S) : Type 0 where
  pub on : (q : Question) (a : Result (List ℕ) SourceFault) → gives old q a → gives new q a
  pub back : (q : Question) (a : Result (List ℕ) SourceFault) → gives new q a → gives old q a

-- the cached pages of a table's class are the table's
pub record AreOf {V : Type 0} (cells : V → List ℕ) (kept : List (PageKey × V)) (t : Table) : Type 0 where
  pub is : (e : PageKey × V) → Contains kept e → e.0.class ≡ t.class → cells e.1 ≡ cells_on_page t e.0.number

-- the source returns the file of a right table of the class, in this version
pub record GivesRight {S : Type 0} (honest : HonestOf S) (source : S) (version : ℕ) (c : Class) : Type 0 where
  pub table : Table
  pub of_class : table.class ≡ c
  pub complete : IsComplete table
  pub right : IsRight table
  pub is_honest : honest source table version

-- two states of one source that are honest for the same tables in the same versions
pub record AreHonestAlike {S : Type 0} (honest : HonestOf S) (old new : S) : Type 0 where
  pub stays : (t : Table) (v : ℕ) → honest old t v → honest new t v
  pub back : (t : Table) (v : ℕ) → honest new t v → honest old t v

-- the answer is that a source returned no page
abbrev pub is_read_fault : {T : Type 0} → Result T ProbeFault → Bool
is_read_fault (Ok v) = false
is_read_fault (Err (NoTable c)) = false
is_read_fault (Err (TableRead f)) = true
is_read_fault (Err (PageDamaged c n)) = false

-- the number of failures of a source after such an answer
abbrev pub failed_after : {T : Type 0} → ℕ → Result T ProbeFault → ℕ
failed_after count answer = if is_read_fault answer then next_count count else count

-- each cached page was cached before, or is a new one
abbrev pub PutsOnly : {V : Type 0} → (PageKey → V → Type 0) → List (PageKey × V) → List (PageKey × V) → Type 0
PutsOnly {V} IsNew old new = (e : PageKey × V) → Contains new e → Contains old e ⊎ IsNew e.0 e.1

-- each cached page was cached before
abbrev pub PutsNone : {V : Type 0} → List (PageKey × V) → List (PageKey × V) → Type 0
PutsNone {V} old new = (e : PageKey × V) → Contains new e → Contains old e

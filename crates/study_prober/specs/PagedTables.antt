-- Paged tables as contracts see them.
use Rattle.std.specs.Prelude.{◌≡◌, ◌≢◌, ℕ, ◌/◌, ◌<◌, List, [], ◌∷◌, length, slice_index_or, replicate}
use Rattle.std.specs.Prelude.{Contains, true, ⊤, Option, Some, None, is_some, IfSome, Ok, Err}
use Rattle.study_board.specs.Position.{Position}
use Rattle.study_material.specs.declared.class.Class.{Class}
use Rattle.study_material.specs.Class.{IsOf}
use Rattle.study_values.specs.Index.{index_of}
use Rattle.study_values.specs.Cells.{value_of}
use Rattle.study_material.specs.Class.{class_number}
use Rattle.study_table.specs.Table.{Table}
use Rattle.study_values.specs.declared.fault.SourceFault.{SourceFault}
use Rattle.study_values.specs.Size.{pages_of}
use Rattle.study_tablefile.specs.PageSource.{of_page}
use Rattle.study_prober.specs.declared.page_cache.PageKey.{PageKey}
use Rattle.study_prober.specs.declared.open_table.OpenTable.{OpenTable}
use Rattle.study_prober.specs.Sources.{GivesOf, HonestOf, IsHeaderOf, IsGivenPage, IsAnswerFrom, AreOf, GivesRight, AreHonestAlike}
use Rattle.study_prober.specs.PageCache.{key_at}
use Rattle.study_values.specs.Values.{ProbeAnswer, ValueSource}
use Rattle.study_values.specs.declared.values.ProbeFault.TheVariants.{NoTable}

-- the sources, each at the place of its class, the cached pages, the last used first, and their largest number
pub record Paged (S : Type 0) : Type 0 where
  pub sources : List (Option (OpenTable S))
  pub kept : List (PageKey × List ℕ)
  pub room : ℕ
  pub asked : ℕ
  pub failed : ℕ

-- the source of a class, if there is one
abbrev pub held_of : {S : Type 0} → List (Option (OpenTable S)) → Class → Option (OpenTable S)
held_of sources c = slice_index_or sources (class_number c) None

-- a place for each class, once there is a source
abbrev pub places_for_classes : {S : Type 0} → List (Option (OpenTable S)) → List (Option (OpenTable S))
places_for_classes [] = replicate 36 None
places_for_classes (o ∷ os) = o ∷ os

-- each source has the header of its class, each cached page belongs to a source, and for every table for which a source is honest in the version of its
-- header, its cached pages are the table's
pub record IsKept {S V : Type 0} (honest : HonestOf S) (cells : V → List ℕ) (sources : List (Option (OpenTable S))) (kept : List (PageKey × V)) : Type 0 where
  pub some : length sources ≢ 0 → length sources ≡ 36
  pub header : (c : Class) (h : OpenTable S) → held_of sources c ≡ Some h → IsHeaderOf h.header c
  pub held : (e : PageKey × V) → Contains kept e → is_some (held_of sources e.0.class) ≡ true
  pub right : (c : Class) (h : OpenTable S) (t : Table) → held_of sources c ≡ Some h → honest h.source t h.header.version → t.class ≡ c → AreOf cells kept t

-- each cached page is one that its source may return, and has passed its check
pub record AreGiven {S V : Type 0} (gives : GivesOf S) (cells : V → List ℕ) (sources : List (Option (OpenTable S))) (kept : List (PageKey × V)) : Type 0 where
  pub given : (e : PageKey × V) (h : OpenTable S) → Contains kept e → held_of sources e.0.class ≡ Some h → IsGivenPage gives h e.0.number (cells e.1)

-- each source returns the file of a right table of its class
pub record SourcesAreRight {S : Type 0} (honest : HonestOf S) (sources : List (Option (OpenTable S))) : Type 0 where
  pub right : (c : Class) (h : OpenTable S) → held_of sources c ≡ Some h → GivesRight honest h.source h.header.version c

-- the source of a class before and after a call: the same source
abbrev pub IsSameSource : {S : Type 0} → HonestOf S → Option (OpenTable S) → Option (OpenTable S) → Type 0
IsSameSource honest None None = ⊤
IsSameSource honest None (Some new) = ⊥
IsSameSource honest (Some old) None = ⊥
IsSameSource honest (Some old) (Some new) = (new.header ≡ old.header) × AreHonestAlike honest old.source new.source

-- a possible answer of the source of a position's class, if there is one, for the cell of a number
abbrev pub IsHeldAnswer : {S : Type 0} → GivesOf S → Option (OpenTable S) → Class → ℕ → ProbeAnswer → Type 0
IsHeldAnswer gives None c n answer = answer ≡ Err (NoTable c)
IsHeldAnswer gives (Some h) c n answer = IsAnswerFrom gives c h n answer

-- the source of a class, if there is one, may return this fault when a page of the class is requested
abbrev pub MayFail : {S : Type 0} → GivesOf S → Option (OpenTable S) → Class → SourceFault → Type 0
MayFail gives None c f = ⊥
MayFail gives (Some h) c f = (n : ℕ) × (n < pages_of c) × gives h.source (of_page n) (Err f)

-- a possible answer of these sources for a position
abbrev pub IsPagedAnswer : {S : Type 0} → GivesOf S → List (Option (OpenTable S)) → Position → ProbeAnswer → Type 0
IsPagedAnswer gives sources p answer = (c : Class) → IsOf c p → IsHeldAnswer gives (held_of sources c) c (index_of p) answer

-- tables read by pages as a source of values
abbrev pub paged_source : {S : Type 0} → HonestOf S → GivesOf S → ValueSource (Paged S)
paged_source honest gives = record {
  is_honest = λ w. SourcesAreRight honest w.sources;
  held = λ w c. is_some (held_of w.sources c);
  gives = λ w p answer. IsPagedAnswer gives w.sources p answer;
  may_fail = λ w c f. MayFail gives (held_of w.sources c) c f;
  asked_of = λ w. w.asked;
  failed_of = λ w. w.failed;
}

-- a page that is cached by a probe of the cell of a number: the page with the cell, as the source may return it
abbrev pub IsPageFor : {S : Type 0} → GivesOf S → Class → OpenTable S → ℕ → PageKey → List ℕ → Type 0
IsPageFor gives c h n key cells = (key ≡ key_at c n) × IsGivenPage gives h (n / 4096) cells

-- a cached cell is read without its source
abbrev pub IsReadAgain : {X : Type 0} → Option ℕ → ProbeAnswer → X → X → Type 0
IsReadAgain cell answer old new = IfSome cell (λ x. (answer ≡ Ok (value_of x)) × (new ≡ old))

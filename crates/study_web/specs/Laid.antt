-- Finished files that come with a later request.
use Rattle.std.specs.Prelude.{◌≡◌, ◌≢◌, ℕ, ◌+◌, ◌≤◌, Bool, List, [], ◌∷◌, ◌++◌, length, Option, Some, None, Ok}
use Rattle.std.specs.List.{AllByRecursion}
use Rattle.study_material.specs.declared.class.Class.{Class}
use Rattle.study_material.specs.Class.{class_number}
use Rattle.study_table.specs.Table.{Table}
use Rattle.study_table.specs.Sound.{IsRight}
use Rattle.study_tablefile.specs.Reading.{table_read}
use Rattle.study_web.specs.declared.file_spans.FileSpan.{FileSpan}
use Rattle.study_web.specs.Making.{IsRightFileOf}
use Rattle.study_web.specs.Spans.{file_in, IsHonestIn}

-- the span of the file of a class that follows these bytes
abbrev pub span_after : List ℕ → Class → List ℕ → FileSpan
span_after before c file = record { class = class_number c; start = length before; length = length file }

-- no span is for this class
abbrev pub HasNoneOf : Class → List FileSpan → Type 0
HasNoneOf c spans = AllByRecursion (λ s. s.class ≢ class_number c) spans

-- each span lies within the bytes
abbrev pub AreWithin : List FileSpan → List ℕ → Type 0
AreWithin spans bytes = AllByRecursion (λ s. s.start + s.length ≤ length bytes) spans

-- the file reads as this right table of the class, and is honest whole and by pages
abbrev pub OpensAsTable : Class → Table → Option (List ℕ) → Type 0
OpensAsTable c t None = ⊥
OpensAsTable c t (Some file) = (t.class ≡ c) × IsRight t × (table_read file ≡ Ok t) × ((by_pages : Bool) → IsHonestIn by_pages (Some file))

-- a finished file opens as its table, wherever it lies among the bytes of the request, by the first span for its class
abbrev pub MadeFilesOpen : Type 0
MadeFilesOpen =
    (c : Class) (file : List ℕ) (made : IsRightFileOf c file) (ahead behind : List FileSpan) (before after : List ℕ) → HasNoneOf c ahead
    → OpensAsTable c made.table (file_in (ahead ++ span_after before c file ∷ behind) (before ++ (file ++ after)) c)

-- right files stay right if a finished file is laid after them, and that file is right too
abbrev pub MadeFilesJoinOthers : Type 0
MadeFilesJoinOthers =
    (by_pages : Bool) (c : Class) (file : List ℕ) (spans : List FileSpan) (bytes : List ℕ) → IsRightFileOf c file → AreWithin spans bytes
    → ((d : Class) → IsHonestIn by_pages (file_in spans bytes d))
    → (d : Class) → IsHonestIn by_pages (file_in (spans ++ span_after bytes c file ∷ []) (bytes ++ file) d)

-- The files of a request: a directory of spans into one text of bytes.
use Rattle.std.specs.Prelude.{◌==◌, nat_le, ℕ, ◌+◌, Bool, true, false, ◌&&◌, List, [], ◌∷◌, ◌++◌, length, take, drop, if◌then◌else◌}
use Rattle.std.specs.List.{list_any}
use Rattle.std.specs.Prelude.{Option, Some, None, Result, Ok, Err}
use Rattle.study_material.specs.declared.class.Class.{Class}
use Rattle.study_material.specs.Class.{class_number}
use Rattle.study_values.specs.declared.fault.SourceFault.{SourceFault}
use Rattle.study_script.specs.declared.store.StoreFault.{StoreFault}
use Rattle.study_script.specs.declared.store.StoreFault.TheVariants.{NoFile}
use Rattle.study_script.specs.Memory.{IsRightText, text_faults}
use Rattle.study_script.specs.Stores.{IsRightFile}
use Rattle.study_web.specs.declared.file_spans.FileSpan.{FileSpan}

-- a span for this class that lies within the bytes
abbrev pub is_file_of : Class → List ℕ → FileSpan → Bool
is_file_of c bytes s = (s.class == class_number c) && nat_le (s.start + s.length) (length bytes)

-- the file of a class: the bytes of the first such span
abbrev pub file_in : List FileSpan → List ℕ → Class → Option (List ℕ)
file_in [] bytes c = None
file_in (s ∷ more) bytes c = if is_file_of c bytes s then Some (take s.length (drop s.start bytes)) else file_in more bytes c

-- ---- the files of some classes

abbrev pub is_for_one : List Class → FileSpan → Bool
is_for_one classes s = list_any (λ c. s.class == class_number c) classes

abbrev pub span_for : List Class → FileSpan → List FileSpan
span_for classes s = if is_for_one classes s then s ∷ [] else []

-- the spans of these classes
abbrev pub spans_for : List Class → List FileSpan → List FileSpan
spans_for classes [] = []
spans_for classes (s ∷ more) = span_for classes s ++ spans_for classes more

-- ---- reading files

-- the bytes of a whole file, and of its header
abbrev pub bytes_given : Option (List ℕ) → Result (List ℕ) StoreFault
bytes_given None = Err NoFile
bytes_given (Some file) = Ok file

abbrev pub header_given : Option (List ℕ) → Result (List ℕ) StoreFault
header_given None = Err NoFile
header_given (Some file) = Ok (take 64 file)

-- the faults with which its pages may not be read: only if the file is too short for its class
abbrev pub file_faults : Option (List ℕ) → Class → SourceFault → Bool
file_faults None c f = false
file_faults (Some file) c f = text_faults false file c f

-- read by pages it is the text of a right table; read whole it is a right table, if it is a table
abbrev pub IsHonestIn : Bool → Option (List ℕ) → Type 0
IsHonestIn by_pages None = Unit {0}
IsHonestIn true (Some file) = IsRightText file
IsHonestIn false (Some file) = IsRightFile (Some file)

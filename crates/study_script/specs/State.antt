-- The state of a session, and the environment of one line (allocator, device, store).
use Rattle.std.specs.Prelude.{◌≡◌, ℕ, ◌<◌, ◌==◌, Bool, true, not, List, find, Option, Some, None, Result, Ok, Err, if◌then◌else◌}
use Rattle.std.specs.List.{list_any}
use Rattle.study_material.specs.declared.class.Class.{Class}
use Rattle.study_material.specs.Needs.{needs_of}
use Rattle.study_material.specs.Class.{class_number}
use Rattle.study_values.specs.declared.fault.SourceFault.{SourceFault}
use Rattle.study_values.specs.Size.{pages_of}
use Rattle.study_tablefile.specs.PageSource.{Question, of_header, of_page}
use Rattle.study_values.specs.declared.values.ProbeFault.{ProbeFault}
use Rattle.study_command.specs.Documents.{Document}
use Rattle.study_script.specs.declared.store.StoreFault.{StoreFault}

-- What is known of a store for each class: the bytes of its file, read from front to back, or the fault of opening it; and the header that its source of
-- pages returns, or the fault of opening it. For a store in memory all is known except for a file that was opened to be written, for a real one nothing. For
-- the sources of pages: the faults for which reading may fail.
pub record StoreKnowledge : Type 0 where
  pub files : Class → Option (Result (List ℕ) StoreFault)
  pub headers : Class → Option (Result (List ℕ) StoreFault)
  pub faults : Class → SourceFault → Bool

-- nothing is known of a class whose file may have been written
abbrev pub unknown_after_write : {T : Type 0} → Class → (Class → Option T) → Class → Option T
unknown_after_write c known d = if class_number d == class_number c then None else known d

-- the source of such a class may fail in any way
abbrev pub forgotten_faults : Class → (Class → SourceFault → Bool) → Class → SourceFault → Bool
forgotten_faults c faults d f = if class_number d == class_number c then true else faults d f

abbrev pub without_class : StoreKnowledge → Class → StoreKnowledge
without_class shelf c = record {
  files = unknown_after_write c shelf.files;
  headers = unknown_after_write c shelf.headers;
  faults = forgotten_faults c shelf.faults;
}

-- a request to a source of a class: its header, or one of its pages
abbrev pub IsQuestionOf : Class → Question → Type 0
IsQuestionOf c of_header = Unit {0}
IsQuestionOf c (of_page n) = n < pages_of c

-- the document, the classes whose tables are loaded, whether tables are read by pages, and what is known of the store
pub record State : Type 0 where
  pub document : Document
  pub classes : List Class
  pub paged : Bool
  pub shelf : StoreKnowledge

-- a store with a known answer gives that answer
abbrev pub IsGiven : {T : Type 0} → Option (Result T StoreFault) → Result T StoreFault → Type 0
IsGiven None given = Unit {0}
IsGiven (Some known) given = given ≡ known

-- a store opens a file unless it is known to refuse it
abbrev pub IsOpened : {T : Type 0} → Option (Result T StoreFault) → Type 0
IsOpened None = Unit {0}
IsOpened (Some (Ok gives)) = Unit {0}
IsOpened (Some (Err fault)) = ⊥

-- a header that is returned is the known one; a device may fail at each call, for a possible fault of its source
abbrev pub IsGivenAs : Option (Result (List ℕ) StoreFault) → (SourceFault → Bool) → Result (List ℕ) SourceFault → Type 0
IsGivenAs known faults (Ok bytes) = IsGiven known (Ok bytes)
IsGivenAs known faults (Err fault) = IsOpened known × (faults fault ≡ true)

-- the file of the class is written: its contents are unknown from then on
abbrev pub written_anew : State → Class → State
written_anew s c = record s { shelf = without_class s.shelf c }

abbrev pub is_among : List Class → Class → Bool
is_among cs c = list_any (λ d. class_number d == class_number c) cs

-- the first class that the class needs and that is not in the list
abbrev pub first_lacking : List Class → Class → Option Class
first_lacking cs c = find (λ d. not (is_among cs d)) (needs_of c)

-- the environment of a line: the events that the line does not determine
pub data Environment : Type 0 where
  quiet : Environment
  -- an allocation is refused: for the path of the line, or for its command
  no_path no_room : Environment
  -- an allocation is refused after the header of a file, which begins with these bytes, or has them as its header
  no_room_for : (bytes : List ℕ) → Environment
  -- a page of a table is not read, or is damaged
  unread : (fault : ProbeFault) → Environment
  -- the store cannot open the file
  unopened : (fault : StoreFault) → Environment
  -- the device of an open file fails
  cut_off : Environment
  -- the bytes of a file that is read from front to back
  file : (bytes : List ℕ) → Environment
  -- the answer of a source of pages to the request for its header
  header : (reported : Result (List ℕ) SourceFault) → Environment

-- A store of spans; its content is known except for the files that were written.
use Rattle.std.specs.Prelude.{◌≡◌, ◌⊎◌, ℕ, Bool, true, false, List, slice_index_or, if◌then◌else◌, Option, Some, None}
use Rattle.study_material.specs.declared.class.Class.{Class}
use Rattle.study_material.specs.Class.{class_number}
use Rattle.study_values.specs.declared.fault.SourceFault.{SourceFault}
use Rattle.study_script.specs.declared.store.StoreFault.{StoreFault}
use Rattle.study_script.specs.declared.store.StoreFault.TheVariants.{NoFile}
use Rattle.study_script.specs.State.{StoreKnowledge}
use Rattle.study_web.specs.declared.file_spans.FileSpan.{FileSpan}
use Rattle.study_web.specs.Spans.{file_in, bytes_given, header_given, file_faults, IsHonestIn}

-- whether the class's file was opened for writing
abbrev pub is_written : List Bool → Class → Bool
is_written written c = slice_index_or written (class_number c) false

abbrev pub known_file : {T : Type 0} → (Option (List ℕ) → T) → List FileSpan → List ℕ → List Bool → Class → Option T
known_file reported spans bytes written c = if is_written written c then None else Some (reported (file_in spans bytes c))

abbrev pub faults_known : List FileSpan → List ℕ → List Bool → Class → SourceFault → Bool
faults_known spans bytes written c f = if is_written written c then true else file_faults (file_in spans bytes c) c f

-- a file that was not written reads as it came with the request
abbrev pub IsFileGiven : List FileSpan → List ℕ → List Bool → Class → List ℕ → Type 0
IsFileGiven spans bytes written c file = (is_written written c ≡ false) × (file_in spans bytes c ≡ Some file)

-- why a file cannot be read: it was written, or there is none
abbrev pub IsWithheld : List FileSpan → List ℕ → List Bool → Class → StoreFault → Type 0
IsWithheld spans bytes written c fault =
    (is_written written c ≡ true) ⊎ ((is_written written c ≡ false) × (file_in spans bytes c ≡ None) × (fault ≡ NoFile))

-- a shelf with exactly these files
pub record IsShelf (spans : List FileSpan) (bytes : List ℕ) (shelf : StoreKnowledge) : Type 0 where
  pub files : (c : Class) → shelf.files c ≡ Some (bytes_given (file_in spans bytes c))
  pub headers : (c : Class) → shelf.headers c ≡ Some (header_given (file_in spans bytes c))
  pub faults : (c : Class) (f : SourceFault) → shelf.faults c f ≡ file_faults (file_in spans bytes c) c f

-- the files of the trusted classes are right, by pages or whole
abbrev pub AreRightFiles : (Class → Bool) → Bool → List FileSpan → List ℕ → Type 0
AreRightFiles trusted by_pages spans bytes = (c : Class) → trusted c ≡ true → IsHonestIn by_pages (file_in spans bytes c)

-- The tables of all files of a store, read by pages.
use Rattle.std.specs.Prelude.{◌≡◌, ◌⊎◌, ℕ, Bool, true, false, is_some, List, Option, Some, None, Result, Ok, Err}
use Rattle.study_board.specs.Position.{Position}
use Rattle.study_material.specs.declared.class.Class.{Class}
use Rattle.study_material.specs.Needs.{IsNeeded, NeedsClass}
use Rattle.study_values.specs.declared.fault.SourceFault.{SourceFault}
use Rattle.study_prober.specs.declared.fault.PagedFault.{PagedFault}
use Rattle.study_values.specs.declared.values.ProbeFault.{ProbeFault}
use Rattle.study_values.specs.declared.values.ProbeFault.TheVariants as probe
use Rattle.study_prober.specs.declared.fault.PagedFault.TheVariants as paged
use Rattle.study_prober.specs.HeaderAnswers.{paged_fault}
use Rattle.study_script.specs.declared.store.StoreFault.{StoreFault}
use Rattle.study_script.specs.declared.store.StoreFault.TheVariants as store
use Rattle.study_script.specs.StoreRefusals.{refusal_of_paged}
use Rattle.study_script.specs.State.{is_among, IsGiven, IsGivenAs}
use Rattle.study_reply.specs.declared.refusal.Refusal.{Refusal}
use Rattle.study_reply.specs.declared.refusal.Refusal.TheVariants.{OutOfMemory, Device}
use Rattle.study_reply.specs.Names.{of_probe}
use Rattle.study_web.specs.declared.request_fault.RequestFault.{RequestFault}
use Rattle.study_web.specs.declared.request_fault.RequestFault.TheVariants as denial
use Rattle.study_web.specs.declared.file_spans.FileSpan.{FileSpan}
use Rattle.study_web.specs.Spans.{file_in, header_given, file_faults, IsHonestIn}

-- a table is loaded for each class whose header can be read, and for no class whose file cannot be opened
abbrev pub IsHeldAs : Option (Result (List ℕ) StoreFault) → Bool → Type 0
IsHeldAs None held = Unit {0}
IsHeldAs (Some (Ok header)) held = held ≡ true
IsHeldAs (Some (Err fault)) held = held ≡ false

-- the classes whose files come with the request
abbrev pub AreHandedIn : List FileSpan → List ℕ → List Class → Type 0
AreHandedIn spans bytes classes = (c : Class) → is_among classes c ≡ is_some (file_in spans bytes c)

-- each file of the request is the text of a right table
abbrev pub AreAllRight : List FileSpan → List ℕ → Type 0
AreAllRight spans bytes = (c : Class) → IsHonestIn true (file_in spans bytes c)

-- the refusal for a source of pages with this fault
abbrev pub denial_of : Class → PagedFault → RequestFault
denial_of c paged.OutOfMemory = denial.Refused OutOfMemory
denial_of c fault = denial.OfFile c (refusal_of_paged fault)

-- Why the file of a class is not a table: it cannot be opened, or its header cannot be read, or is faulty, or is that of another class; given the header
-- and the faults with which reading it may fail.
abbrev pub IsBadFile : Option (Result (List ℕ) StoreFault) → (SourceFault → Bool) → Class → Refusal → Type 0
IsBadFile known faults c refusal =
    (IsGiven known (Err store.Device) × (refusal ≡ Device))
    ⊎ ((reported : Result (List ℕ) SourceFault) × IsGivenAs known faults reported
    × (fault : PagedFault) × (paged_fault false c reported ≡ Some fault) × (refusal ≡ refusal_of_paged fault))

-- the headers and the faults of the classes' files
module _ (headers : Class → Option (Result (List ℕ) StoreFault)) (faults : Class → SourceFault → Bool) where
  -- why the tables are not opened: a file is not a table, or there is no memory
  abbrev pub IsOfTables : RequestFault → Type 0
  IsOfTables (denial.Refused refusal) = refusal ≡ OutOfMemory
  IsOfTables (denial.OfFile c refusal) = IsBadFile (headers c) (faults c) c refusal
  IsOfTables denial.NoMan = ⊥
  IsOfTables (denial.Unread fault) = ⊥

  -- Why a value cannot be read where only these classes are needed: there is no file for such a class, or it cannot be read, or a page is damaged, which
  -- never happens with right files.
  abbrev pub IsUnreadValue : Type 0 → (Class → Type 0) → ProbeFault → Type 0
  IsUnreadValue Right Needs (probe.NoTable c) = IsHeldAs (headers c) false × Needs c
  IsUnreadValue Right Needs (probe.TableRead f) = (c : Class) × Needs c × (faults c f ≡ true)
  IsUnreadValue Right Needs (probe.PageDamaged c n) = Right → ⊥

  -- why the tables give no answer: they are not opened, or a value cannot be read
  abbrev pub IsOfTablesFor : Type 0 → (Class → Type 0) → RequestFault → Type 0
  IsOfTablesFor Right Needs d =
      IsOfTables d ⊎ ((fault : ProbeFault) × IsUnreadValue Right Needs fault × (d ≡ denial.Refused (of_probe fault)))

  -- the same for the positions that one is followed by
  abbrev pub IsOfValues : Type 0 → Position → RequestFault → Type 0
  IsOfValues Right p d = IsOfTablesFor Right (NeedsClass p) d

  -- and for the positions of a class
  abbrev pub IsOfSearch : Type 0 → Class → RequestFault → Type 0
  IsOfSearch Right c d = IsOfTablesFor Right (IsNeeded c) d

-- the same for the files of the request
abbrev pub IsOfFiles : List FileSpan → List ℕ → RequestFault → Type 0
IsOfFiles spans bytes = IsOfTables (λ c. Some (header_given (file_in spans bytes c))) (λ c. file_faults (file_in spans bytes c) c)

abbrev pub IsOfFileValues : List FileSpan → List ℕ → Position → RequestFault → Type 0
IsOfFileValues spans bytes =
    IsOfValues (λ c. Some (header_given (file_in spans bytes c))) (λ c. file_faults (file_in spans bytes c) c) (AreAllRight spans bytes)

abbrev pub IsOfFileSearch : List FileSpan → List ℕ → Class → RequestFault → Type 0
IsOfFileSearch spans bytes =
    IsOfSearch (λ c. Some (header_given (file_in spans bytes c))) (λ c. file_faults (file_in spans bytes c) c) (AreAllRight spans bytes)

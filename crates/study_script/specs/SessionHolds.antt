-- The code's document and tables, seen as the state of a script.
use Rattle.std.specs.Prelude.{◌≡◌, ℕ, Bool, true, false, is_some, List, Option, Result}
use Rattle.study_script.specs.declared.store.StoreFault.{StoreFault}
use Rattle.std.specs.Io.KnownBytes.{Appends}
use Rattle.study_board.specs.Position.{Position}
use Rattle.study_values.specs.declared.fault.SourceFault.{SourceFault}
use Rattle.study_text.specs.Taken.{TakesPrefix}
use Rattle.study_material.specs.declared.class.Class.{Class}
use Rattle.study_table.specs.Table.{Table, table_of}
use Rattle.study_values.specs.Values.{ProbeAnswer, ValueSource}
use Rattle.study_prober.specs.WholeTables.{TablesAreRight, IsCellAnswer}
use Rattle.study_prober.specs.Sources.{GivesOf, HonestOf}
use Rattle.study_prober.specs.PagedTables.{SourcesAreRight, IsPagedAnswer, MayFail, held_of}
use Rattle.study_marks.specs.declared.refusal.Refusal.{Refusal as EditRefusal}
use Rattle.study_marks.specs.declared.refusal.Refusal.TheVariants as edit
use Rattle.study_marks.specs.Study.{plain_study}
use Rattle.study_marks.specs.BenchState.{BenchState, marked_study, IsKeptRight}
use Rattle.study_script.specs.declared.document.Document.{Document as HeldDocument}
use Rattle.study_script.specs.declared.document.Document.TheVariants as held
use Rattle.study_script.specs.declared.tables.Tables.{Tables}
use Rattle.study_script.specs.declared.tables.Tables.TheVariants.{Whole, Paged}
use Rattle.study_command.specs.Documents.{Document, empty, start, study}
use Rattle.study_script.specs.State.{State, is_among, Environment}
use Rattle.study_values.specs.declared.values.ProbeFault.TheVariants as probe
use Rattle.study_script.specs.Replies.{Reply, MayFailAmong}

-- a study without its marks, as a document
abbrev pub bench_seen : BenchState → Document
bench_seen b = study (plain_study (marked_study b))

module _ {A : Type 0} where
  -- the study without its marks
  abbrev pub document_seen : HeldDocument A → Document
  document_seen held.Empty = empty
  document_seen (held.Start s) = start s
  document_seen (held.Study b) = bench_seen b

  -- the marks are those of annotating from scratch
  abbrev pub IsMarked : HeldDocument A → Type 0
  IsMarked held.Empty = Unit {0}
  IsMarked (held.Start s) = Unit {0}
  IsMarked (held.Study b) = IsKeptRight b

module _ {P A : Type 0} where
  -- each value that is returned is the game's
  abbrev pub tables_honest : HonestOf P → Tables P A → Type 0
  tables_honest honest (Whole w) = TablesAreRight w.tables
  tables_honest honest (Paged w) = SourcesAreRight honest w.sources

  -- a table of the class is loaded
  abbrev pub tables_held : Tables P A → Class → Bool
  tables_held (Whole w) c = is_some (table_of w.tables c)
  tables_held (Paged w) c = is_some (held_of w.sources c)

  -- the possible answers for a position
  abbrev pub tables_give : GivesOf P → Tables P A → Position → ProbeAnswer → Type 0
  tables_give gives (Whole w) p answer = IsCellAnswer w.tables p answer
  tables_give gives (Paged w) p answer = IsPagedAnswer gives w.sources p answer

  -- reading a table of the class may fail for this fault
  abbrev pub tables_may_fail : GivesOf P → Tables P A → Class → SourceFault → Type 0
  tables_may_fail gives (Whole w) c f = ⊥
  tables_may_fail gives (Paged w) c f = MayFail gives (held_of w.sources c) c f

  abbrev pub tables_asked : Tables P A → ℕ
  tables_asked (Whole w) = w.asked
  tables_asked (Paged w) = w.asked

  abbrev pub tables_failed : Tables P A → ℕ
  tables_failed (Whole w) = 0
  tables_failed (Paged w) = w.failed

  -- the tables as a source of values
  abbrev pub tables_source : HonestOf P → GivesOf P → ValueSource (Tables P A)
  tables_source honest gives = record {
    is_honest = tables_honest honest;
    held = tables_held;
    gives = tables_give gives;
    may_fail = tables_may_fail gives;
    asked_of = tables_asked;
    failed_of = tables_failed;
  }

  abbrev pub are_paged : Tables P A → Bool
  are_paged (Whole w) = false
  are_paged (Paged w) = true

  -- the document and the tables are those of the state, with right marks and honest values; the state knows for which faults reading a table may fail
  pub record Holds (honest : P → Table → ℕ → Type 0) (gives : GivesOf P) (b : HeldDocument A) (t : Tables P A) (s : State) : Type 0 where
    pub document : document_seen b ≡ s.document
    pub marks : IsMarked b
    pub values : tables_honest honest t
    pub classes : (c : Class) → tables_held t c ≡ is_among s.classes c
    pub paged : are_paged t ≡ s.paged
    pub faults : (c : Class) (f : SourceFault) → tables_may_fail gives t c f → s.shelf.faults c f ≡ true

-- `Holds` for one part of the state; and for it after a command that leaves the other parts unchanged
module _ {A : Type 0} where
  pub record HoldsDocument (b : HeldDocument A) (s : State) : Type 0 where
    pub document : document_seen b ≡ s.document
    pub marks : IsMarked b

  pub record HoldsFrom (old : State) (b : HeldDocument A) (s : State) : Type 0 where
    pub holds : HoldsDocument b s
    pub classes : s.classes ≡ old.classes
    pub paged : s.paged ≡ old.paged
    pub shelf : s.shelf ≡ old.shelf

-- `Holds` for the study
pub record HoldsBench (b : BenchState) (s : State) : Type 0 where
  pub document : study (plain_study (marked_study b)) ≡ s.document
  pub marks : IsKeptRight b

pub record HoldsBenchFrom (old : State) (b : BenchState) (s : State) : Type 0 where
  pub holds : HoldsBench b s
  pub classes : s.classes ≡ old.classes
  pub paged : s.paged ≡ old.paged
  pub shelf : s.shelf ≡ old.shelf

module _ {P A : Type 0} where
  pub record HoldsTables (honest : P → Table → ℕ → Type 0) (gives : GivesOf P) (t : Tables P A) (s : State) : Type 0 where
    pub values : tables_honest honest t
    pub classes : (c : Class) → tables_held t c ≡ is_among s.classes c
    pub paged : are_paged t ≡ s.paged
    pub faults : (c : Class) (f : SourceFault) → tables_may_fail gives t c f → s.shelf.faults c f ≡ true

  pub record TablesFrom (honest : P → Table → ℕ → Type 0) (gives : GivesOf P) (old : State) (t : Tables P A) (s : State) : Type 0 where
    pub holds : HoldsTables honest gives t s
    pub document : s.document ≡ old.document

-- the store's answers are those that the state knows
pub record KnowsStore (files headers : Class → Option (Result (List ℕ) StoreFault)) (faults : Class → SourceFault → Bool) (s : State) : Type 0 where
  pub files_known : (c : Class) → files c ≡ s.shelf.files c
  pub headers_known : (c : Class) → headers c ≡ s.shelf.headers c
  pub faults_known : (c : Class) (f : SourceFault) → faults c f ≡ s.shelf.faults c f

-- whole tables have no fault of a device
abbrev pub HasNoDeviceFault : {A : Type 0} → Bool → EditRefusal A → Type 0
HasNoDeviceFault paged (edit.TableRead fault) = paged ≡ true
HasNoDeviceFault paged edit.NoSuchNode = Unit {0}
HasNoDeviceFault paged edit.RootNotAllowed = Unit {0}
HasNoDeviceFault paged edit.AlreadyFirst = Unit {0}
HasNoDeviceFault paged edit.IllegalMove = Unit {0}
HasNoDeviceFault paged (edit.AlreadyThere k) = Unit {0}
HasNoDeviceFault paged edit.TooDeep = Unit {0}
HasNoDeviceFault paged edit.TreeFull = Unit {0}
HasNoDeviceFault paged (edit.ShiftBroken steps) = Unit {0}
HasNoDeviceFault paged edit.TagText = Unit {0}
HasNoDeviceFault paged edit.OutOfMemory = Unit {0}
HasNoDeviceFault paged (edit.NoTable c) = Unit {0}

-- a table that could not be read is one of the class of one of these positions, and may fail so
abbrev pub IsFailingTable : {A : Type 0} → (Class → SourceFault → Type 0) → List Position → EditRefusal A → Type 0
IsFailingTable may asked (edit.TableRead (probe.TableRead f)) = MayFailAmong may asked f
IsFailingTable may asked (edit.TableRead (probe.NoTable c)) = Unit {0}
IsFailingTable may asked (edit.TableRead (probe.PageDamaged c n)) = Unit {0}
IsFailingTable may asked edit.NoSuchNode = Unit {0}
IsFailingTable may asked edit.RootNotAllowed = Unit {0}
IsFailingTable may asked edit.AlreadyFirst = Unit {0}
IsFailingTable may asked edit.IllegalMove = Unit {0}
IsFailingTable may asked (edit.AlreadyThere k) = Unit {0}
IsFailingTable may asked edit.TooDeep = Unit {0}
IsFailingTable may asked edit.TreeFull = Unit {0}
IsFailingTable may asked (edit.ShiftBroken steps) = Unit {0}
IsFailingTable may asked edit.TagText = Unit {0}
IsFailingTable may asked edit.OutOfMemory = Unit {0}
IsFailingTable may asked (edit.NoTable c) = Unit {0}

-- ---- the text of a writer

-- a reply with the property is written whole, and the code is then in the state after it
abbrev pub Answered : (Environment → Reply → Type 0) → (State → Type 0) → Option (List ℕ) → Option (List ℕ) → Bool → Type 0
Answered IsIt HoldsIt old new was_refused =
    (o : Environment) × (reply : Reply) × IsIt o reply × Appends old new reply.text × HoldsIt reply.state × (was_refused ≡ reply.refused)

-- a reply with the property is written in part
abbrev pub BrokenOff : (Environment → Reply → Type 0) → Option (List ℕ) → Option (List ℕ) → Type 0
BrokenOff IsIt old new = (o : Environment) × (reply : Reply) × IsIt o reply × TakesPrefix old new reply.text

-- no table is loaded, and values are honest
pub record Begun {P A : Type 0} (honest : P → Table → ℕ → Type 0) (t : Tables P A) : Type 0 where
  pub none : (c : Class) → tables_held t c ≡ false
  pub values : tables_honest honest t

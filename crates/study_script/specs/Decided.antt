-- The outcome of the commands of a class, before the reply is written.
use Rattle.std.specs.Prelude.{◌≡◌, ◌⊎◌, ℕ, true, false, is_some, is_err, List, Option, Result, Ok, Err}
use Rattle.study_material.specs.declared.class.Class.{Class}
use Rattle.study_table.specs.Table.{Table, table_of}
use Rattle.study_prober.specs.WholeTables.{Whole, TablesAreRight}
use Rattle.study_values.specs.declared.fault.SourceFault.{SourceFault}
use Rattle.study_prober.specs.Sources.{GivesOf}
use Rattle.study_prober.specs.PagedTables.{Paged, MayFail, held_of, SourcesAreRight}
use Rattle.study_reply.specs.declared.table_reply.TableReply.{TableReply}
use Rattle.study_reply.specs.declared.refusal.Refusal.{Refusal}
use Rattle.study_reply.specs.Names.{words_of}
use Rattle.study_reply.specs.TableReply.{decided_text}
use Rattle.study_script.specs.StoreRefusals.{refusal_of_store}
use Rattle.study_values.specs.declared.fault.FileFault.{FileFault}
use Rattle.study_tablefile.specs.Reading.{table_read, HasHeader}
use Rattle.study_script.specs.declared.store.StoreFault.{StoreFault}
use Rattle.study_reply.specs.declared.refusal.Refusal.TheVariants.{Device, OutOfMemory, File}
use Rattle.study_script.specs.State.{State, Environment, is_among, IsGiven, IsOpened}
use Rattle.study_script.specs.Replies.{Reply}

-- the reply with this state after it
abbrev pub decided_reply : State → Result TableReply Refusal → Reply
decided_reply s reported = record { text = decided_text reported; state = s; refused = is_err reported }

-- the reply to this outcome has the property, in some environment, and the code is then in the state after it
abbrev pub Decided : (Environment → Reply → Type 0) → (State → Type 0) → Result TableReply Refusal → Type 0
Decided IsIt HoldsIt reported = (o : Environment) × (t : State) × IsIt o (decided_reply t reported) × HoldsIt t

-- these whole tables are those of the state, and they are right
pub record HoldsWhole (w : Whole) (s : State) : Type 0 where
  pub values : TablesAreRight w.tables
  pub classes : (c : Class) → is_some (table_of w.tables c) ≡ is_among s.classes c
  pub whole : false ≡ s.paged

-- `HoldsWhole` after a command that changes neither the document nor the knowledge of the store
pub record WholeFrom (old : State) (w : Whole) (s : State) : Type 0 where
  pub holds : HoldsWhole w s
  pub document : s.document ≡ old.document
  pub shelf : s.shelf ≡ old.shelf

-- the sources are those of the state, and each returns a right table
pub record HoldsPaged {P : Type 0} (honest : P → Table → ℕ → Type 0) (gives : GivesOf P) (w : Paged P) (s : State) : Type 0 where
  pub values : SourcesAreRight honest w.sources
  pub classes : (c : Class) → is_some (held_of w.sources c) ≡ is_among s.classes c
  pub by_pages : true ≡ s.paged
  pub faults : (c : Class) (f : SourceFault) → MayFail gives (held_of w.sources c) c f → s.shelf.faults c f ≡ true

-- why the file of a class is not read as a table, by what is known of it: it is not opened, its device fails, there is no memory
-- after its header, or its bytes have a fault
abbrev pub IsFileRefusal : Option (Result (List ℕ) StoreFault) → Refusal → Type 0
IsFileRefusal known refusal =
    ((fault : StoreFault) × IsGiven known (Err fault) × (words_of refusal ≡ words_of (refusal_of_store fault)))
    ⊎ (IsOpened known × (words_of refusal ≡ words_of Device))
    ⊎ ((bytes : List ℕ) × IsGiven known (Ok bytes) × HasHeader bytes × (words_of refusal ≡ words_of OutOfMemory))
    ⊎ ((bytes : List ℕ) × (fault : FileFault) × IsGiven known (Ok bytes) × (table_read bytes ≡ Err fault) × (words_of refusal ≡ words_of (File fault)))

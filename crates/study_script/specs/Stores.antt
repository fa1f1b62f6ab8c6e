-- Stores of tables: the files that are right, and what a script knows of its store.
use Rattle.std.specs.Prelude.{◌≡◌, ℕ, Bool, true, List, Option, Some, None, Result, Ok, Err, IfSome}
use Rattle.study_material.specs.declared.class.Class.{Class}
use Rattle.study_script.specs.declared.store.StoreFault.{StoreFault}
use Rattle.study_values.specs.declared.fault.SourceFault.{SourceFault}
use Rattle.study_table.specs.Table.{Table, IsComplete}
use Rattle.study_table.specs.Sound.{IsRight}
use Rattle.study_tablefile.specs.Format.{IsVersionOf}
use Rattle.study_tablefile.specs.Reading.{table_read}
use Rattle.study_script.specs.State.{State, StoreKnowledge}
use Rattle.study_script.specs.SessionHolds.{KnowsStore}
use Rattle.study_command.specs.declared.command.TableCommand.{TableCommand}
use Rattle.study_command.specs.declared.command.TableCommand.TheVariants.{Load}
use Rattle.std.specs.List.{AllByRecursion}
use Rattle.study_command.specs.Lines.{script_lines}
use Rattle.study_command.specs.Parser.{Asked, table_command, Asks, command_of}
use Rattle.study_script.specs.Replies.{class_parsed}

-- the bytes of a reader are known, and if they are read as a table, it is right
abbrev pub IsRightFile : Option (List ℕ) → Type 0
IsRightFile None = ⊥
IsRightFile (Some bytes) = (t : Table) → table_read bytes ≡ Ok t → IsRight t

-- a source returns the file of a right table, of any class and in a version that its files can have
pub record IsRightSource {S : Type 0} (honest : S → Table → ℕ → Type 0) (source : S) : Type 0 where
  pub table : Table
  pub version : ℕ
  pub known : IsVersionOf table.class version
  pub complete : IsComplete table
  pub right : IsRight table
  pub is_honest : honest source table version

-- the bytes of a reader are the known ones of its store
abbrev pub GivesBytes : Option (Result (List ℕ) StoreFault) → Option (List ℕ) → Type 0
GivesBytes None reported = Unit {0}
GivesBytes (Some known) None = ⊥
GivesBytes (Some known) (Some bytes) = Ok bytes ≡ known

module _ {S : Type 0} where
  -- the store is honest in the way in which its tables are read, by pages or whole, and its answers are the known ones
  pub record StoreSeen (honest : S → Bool → Type 0) (files headers : S → Class → Option (Result (List ℕ) StoreFault))
      (faults : S → Class → SourceFault → Bool) (store : S) (s : State) : Type 0 where
    pub is_honest : honest store s.paged
    pub known : KnowsStore (files store) (headers store) (faults store) s

  -- the knowledge of a store
  abbrev pub shelf_of : (S → Class → Option (Result (List ℕ) StoreFault)) → (S → Class → Option (Result (List ℕ) StoreFault))
      → (S → Class → SourceFault → Bool) → S → StoreKnowledge
  shelf_of files headers faults store = record { files = files store; headers = headers store; faults = faults store }

-- ---- trust: which classes' files are right

-- the files of the trusted classes are right, by pages or whole
abbrev pub HonestOn : {S : Type 0} → (Class → Bool) → (S → Bool → Class → Type 0) → S → Bool → Type 0
HonestOn trusted honest store by_pages = (c : Class) → trusted c ≡ true → honest store by_pages c

-- a command that loads a table loads that of a trusted class; no other command needs trust
abbrev pub IsTrustedClass : (Class → Bool) → TableCommand → List ℕ → Type 0
IsTrustedClass trusted Load name = IfSome (class_parsed name) (λ c. trusted c ≡ true)
IsTrustedClass trusted _ name = Unit {0}

abbrev pub IsTrustedAsked : (Class → Bool) → Asked → Type 0
IsTrustedAsked trusted (table_command word name) = IsTrustedClass trusted word name
IsTrustedAsked trusted _ = Unit {0}

abbrev pub IsTrustedAsk : (Class → Bool) → Asks → Type 0
IsTrustedAsk trusted (Ok None) = Unit {0}
IsTrustedAsk trusted (Ok (Some asked)) = IsTrustedAsked trusted asked
IsTrustedAsk trusted (Err fault) = Unit {0}

-- a line that loads a table loads that of a trusted class
abbrev pub IsTrusted : (Class → Bool) → List ℕ → Type 0
IsTrusted trusted line = IsTrustedAsk trusted (command_of line)

-- each line of a script that loads a table loads that of a trusted class
abbrev pub AreTrusted : (Class → Bool) → List ℕ → Type 0
AreTrusted trusted script = AllByRecursion (IsTrusted trusted) (script_lines script)

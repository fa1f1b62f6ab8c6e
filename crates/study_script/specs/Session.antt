-- The state of a session from line to line.
use Rattle.std.specs.Prelude.{ℕ, Bool, List, Option, Result}
use Rattle.study_material.specs.declared.class.Class.{Class}
use Rattle.study_table.specs.Table.{Table}
use Rattle.study_values.specs.declared.fault.SourceFault.{SourceFault}
use Rattle.study_prober.specs.Sources.{GivesOf}
use Rattle.study_script.specs.declared.store.StoreFault.{StoreFault}
use Rattle.study_script.specs.declared.document.Document.{Document as HeldDocument}
use Rattle.study_script.specs.declared.tables.Tables.{Tables}
use Rattle.study_script.specs.State.{State}
use Rattle.study_script.specs.SessionHolds.{Holds}
use Rattle.study_script.specs.Stores.{StoreSeen}

-- the answers of each store for each class, as far as they are known
abbrev pub Known : Type 0 → Type 0
Known S = S → Class → Option (Result (List ℕ) StoreFault)

module _ {S P A : Type 0} (source_honest : P → Table → ℕ → Type 0) (source_gives : GivesOf P) (store_honest : S → Bool → Type 0)
    (files headers : Known S) (faults : S → Class → SourceFault → Bool) where
  -- the document and the tables are those of the state, with right marks and honest values, and the state knows the store
  pub record SessionHolds (b : HeldDocument A) (t : Tables P A) (store : S) (s : State) : Type 0 where
    pub held : Holds source_honest source_gives b t s
    pub seen : StoreSeen store_honest files headers faults store s

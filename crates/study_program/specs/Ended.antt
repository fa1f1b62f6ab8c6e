-- The outcome of the program.
use Rattle.std.specs.Prelude.{◌≡◌, ℕ, ◌⊎◌, Bool, true, false, List, Option, None, Result, Err, IfSome}
use Rattle.study_script.specs.declared.running.Summary.{Summary}
use Rattle.study_script.specs.declared.running.RunFault.{RunFault}
use Rattle.study_script.specs.declared.running.RunFault.TheVariants.{WriteDevice}
use Rattle.study_script.specs.State.{StoreKnowledge}
use Rattle.study_script.specs.Stores.{AreTrusted}
use Rattle.study_script.specs.Outcome.{Outcome, Shape, initial_state}
use Rattle.study_script.specs.Written.{Fits}
use Rattle.study_program.specs.Status.{status_reported, IsReported}

-- nothing is known of the files of a folder, and their sources may fail in any way
abbrev pub nothing_known : StoreKnowledge
nothing_known = record { files = λ c. None; headers = λ c. None; faults = λ c f. true }

-- The result of a run over a folder, given whether tables are read by pages and whether studies are kept apart, what the reader had and has, and what the
-- writer had and has. Counts, names and stops are known for every script, and which lines were refused by what is written for them; the replies themselves
-- for a script that loads no table.
abbrev pub HasRun : Bool → Bool → Option (List ℕ) → Option (List ℕ) → Option (List ℕ) → Option (List ℕ) → Result Summary RunFault → Type 0
HasRun by_pages separate script left old new answer = IfSome script (λ bytes. Shape bytes left answer
    × Fits bytes left old new answer
    × (AreTrusted (λ c. false) bytes → Outcome separate (initial_state nothing_known by_pages) bytes left old new answer))

-- The exit status of a run, and what standard error had and has; or it ends as one whose writer failed, if the last replies stay in a buffer. No clause
-- excludes that it ends with 3 and has read nothing, for want of memory: tests do.
abbrev pub EndsBy : (Result Summary RunFault → Type 0) → ℕ → Option (List ℕ) → Option (List ℕ) → Type 0
EndsBy Ran status old new = (ran answer : Result Summary RunFault) × Ran ran × ((answer ≡ ran) ⊎ (answer ≡ Err WriteDevice))
    × (status ≡ status_reported answer) × IsReported answer old new

-- The result of a run, and its exit status.
use Rattle.std.specs.Prelude.{◌≡◌, ℕ, Bool, false, ◌⊎◌, List, Option, Result, Ok, Err}
use Rattle.study_import.specs.declared.importer.Choice.{Choice}
use Rattle.study_import.specs.declared.importer.Imported.{Imported}
use Rattle.study_import_program.specs.declared.streaming.ImportFault.{ImportFault}
use Rattle.study_import_program.specs.declared.streaming.ImportFault.TheVariants.{WriteDevice}
use Rattle.study_import_program.specs.Status.{status_reported, IsReported}
use Rattle.study_import_program.specs.Streams.{IsWhole, IsFront}

-- the whole script is written, or a prefix of it and a fault is reported
abbrev pub HasRun : Choice → Option (List ℕ) → Option (List ℕ) → Option (List ℕ) → Result Imported ImportFault → Type 0
HasRun c left old new (Ok imported) = IsWhole c left old new imported
HasRun c left old new (Err fault) = IsFront c left old new

-- a run with such a result, or one that could not flush what it wrote, ends by this status; standard error has only the message if no progress is reported
abbrev pub EndsBy : (Result Imported ImportFault → Type 0) → ℕ → Bool → Option (List ℕ) → Option (List ℕ) → Type 0
EndsBy Ran status progress old new = (ran answer : Result Imported ImportFault) × Ran ran × ((answer ≡ ran) ⊎ (answer ≡ Err WriteDevice))
    × (status ≡ status_reported answer) × (progress ≡ false → IsReported answer old new)

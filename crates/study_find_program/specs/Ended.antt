-- The outcome of the program.
use Rattle.std.specs.Prelude.{◌≡◌, ◌⊎◌, ℕ, Bool, false, List, Option, Result, Ok, Err, codes}
use Rattle.std.specs.Io.KnownBytes.{Keeps}
use Rattle.study_material.specs.Class.{class_list}
use Rattle.study_listing.specs.declared.fault.Stop.{Stop}
use Rattle.study_listing.specs.declared.fault.Stop.TheVariants.{WriteDevice}
use Rattle.study_listing.specs.declared.request.Request.{Request}
use Rattle.study_program.specs.Errors.{IsWrittenOrCut, AreFaultsOf}
use Rattle.study_find_program.specs.declared.options.Options.{Options}
use Rattle.study_find_program.specs.declared.options.Output.{Output}
use Rattle.study_find_program.specs.Listed.{HasAnswered}
use Rattle.study_find_program.specs.Stopped.{IsStopped}
use Rattle.study_find_program.specs.Status.{status_of, stop_text}

-- The list is written whole; or it stopped, with a part of it written, or its writer failed at the last.
abbrev pub IsWholeOrStopped : Request → Output → Option (List ℕ) → Option (List ℕ) → Result (Unit {0}) Stop → Type 0
IsWholeOrStopped request out old new (Ok done) = HasAnswered request out old new
IsWholeOrStopped request out old new (Err stop) = IsStopped request out old new stop ⊎ (stop ≡ WriteDevice)

-- and that is the content of the writer after its buffer is written
abbrev pub ListEnds : Request → Output → Option (List ℕ) → Option (List ℕ) → Result (Unit {0}) Stop → Type 0
ListEnds request out old new answered = (written : Option (List ℕ)) × IsWholeOrStopped request out old written answered × Keeps written new

-- a list that stopped is reported, and nothing of another
abbrev pub IsStopReported : Result (Unit {0}) Stop → Option (List ℕ) → Option (List ℕ) → Type 0
IsStopReported (Ok done) old new = new ≡ old
IsStopReported (Err stop) old new = IsWrittenOrCut old new (stop_text stop)

-- the exit status says whether the list stopped, and standard error why, and nothing else, unless progress is reported, too
abbrev pub IsEndReported : Bool → ℕ → Option (List ℕ) → Option (List ℕ) → Type 0
IsEndReported progress status old new =
    (answered : Result (Unit {0}) Stop) × (status ≡ status_of answered) × (progress ≡ false → IsStopReported answered old new)

-- Over right values: with 0 the list is whole, with 3 it stopped for the reason that is reported.
abbrev pub EndsOver : Options → ℕ → Option (List ℕ) → Option (List ℕ) → Option (List ℕ) → Option (List ℕ) → Type 0
EndsOver options status old new before after =
    (answered : Result (Unit {0}) Stop) × (status ≡ status_of answered) × ListEnds options.request options.output old new answered
    × (options.progress ≡ false → IsStopReported answered before after)

-- Over a folder: standard error has the faults of its files, in the order of the class list, then why the list stopped.
abbrev pub EndsBy : Bool → ℕ → Option (List ℕ) → Option (List ℕ) → Type 0
EndsBy progress status old new =
    (answered : Result (Unit {0}) Stop) × (status ≡ status_of answered)
    × (progress ≡ false → (mid : Option (List ℕ)) × AreFaultsOf (codes "studymine") class_list old mid × IsStopReported answered mid new)

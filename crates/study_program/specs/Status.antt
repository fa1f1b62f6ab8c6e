-- The exit status of the program, and the message when a run stops.
use Rattle.std.specs.Prelude.{ℕ, ◌==◌, ◌⊎◌, List, [], ◌∷◌, ◌++◌, Option, Result, Ok, Err, if◌then◌else◌}
use Rattle.std.specs.Prelude.{codes, decimal}
use Rattle.std.specs.Io.KnownBytes.{Appends, Keeps}
use Rattle.study_text.specs.Taken.{TakesPrefix}
use Rattle.study_script.specs.declared.running.Summary.{Summary}
use Rattle.study_script.specs.declared.running.RunFault.{RunFault}
use Rattle.study_script.specs.declared.running.RunFault.TheVariants.{ReadDevice, WriteDevice, LineTooLong, TooManyLines, OutOfMemory}

-- 0 if no line was refused, 1 if some line was, 3 if the run stopped at a fault
abbrev pub status_reported : Result Summary RunFault → ℕ
status_reported (Ok summary) = if summary.refused == 0 then 0 else 1
status_reported (Err fault) = 3

-- `studybench: LineTooLong 3`
abbrev pub stop_text : RunFault → List ℕ
stop_text ReadDevice = codes "studybench: ReadDevice\n"
stop_text WriteDevice = codes "studybench: WriteDevice\n"
stop_text (LineTooLong line) = codes "studybench: LineTooLong " ++ (decimal line ++ 10 ∷ [])
stop_text TooManyLines = codes "studybench: TooManyLines\n"
stop_text OutOfMemory = codes "studybench: OutOfMemory\n"

-- a run that stopped is reported, or a prefix of the report if standard error fails; for another run nothing is written
abbrev pub IsReported : Result Summary RunFault → Option (List ℕ) → Option (List ℕ) → Type 0
IsReported (Ok summary) old new = Keeps old new
IsReported (Err fault) old new = Appends old new (stop_text fault) ⊎ TakesPrefix old new (stop_text fault)

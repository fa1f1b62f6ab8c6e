-- The exit status of the program, and the message when a run stops.
use Rattle.std.specs.Prelude.{ℕ, nat_lt, ◌&&◌, ◌==◌, ◌⊎◌, List, Option, Result, Ok, Err, if◌then◌else◌, codes}
use Rattle.std.specs.Io.KnownBytes.{Appends, Keeps}
use Rattle.study_text.specs.Taken.{TakesPrefix}
use Rattle.study_import.specs.declared.importer.Imported.{Imported}
use Rattle.study_import_program.specs.declared.streaming.ImportFault.{ImportFault}
use Rattle.study_import_program.specs.declared.streaming.ImportFault.TheVariants.{ReadDevice, WriteDevice, OutOfMemory}

-- 0 if some game was written, and each of these has a study; 1 if some is not, or no game was chosen; 3 if the run stopped at a fault
abbrev pub status_reported : Result Imported ImportFault → ℕ
status_reported (Ok imported) = if nat_lt 0 imported.reported && imported.reported == imported.with_study then 0 else 1
status_reported (Err fault) = 3

-- `studyimport: ReadDevice`
abbrev pub stop_text : ImportFault → List ℕ
stop_text ReadDevice = codes "studyimport: ReadDevice\n"
stop_text WriteDevice = codes "studyimport: WriteDevice\n"
stop_text OutOfMemory = codes "studyimport: OutOfMemory\n"

-- a run that stopped is reported, or a prefix of the report if standard error fails; for another run nothing is written
abbrev pub IsReported : Result Imported ImportFault → Option (List ℕ) → Option (List ℕ) → Type 0
IsReported (Ok imported) old new = Keeps old new
IsReported (Err fault) old new = Appends old new (stop_text fault) ⊎ TakesPrefix old new (stop_text fault)

-- What the program writes to standard error.
use Rattle.std.specs.Prelude.{◌≡◌, ℕ, Bool, false, List, [], ◌∷◌, ◌++◌, Option, Result, Ok, Err, codes, decimal}
use Rattle.study_material.specs.Class.{class_list}
use Rattle.study_program.specs.Errors.{IsWrittenOrCut, AreFaultsOf}
use Rattle.study_script.specs.declared.running.Summary.{Summary}
use Rattle.study_script.specs.declared.running.RunFault.{RunFault}
use Rattle.study_script.specs.declared.running.RunFault.TheVariants.{ReadDevice, WriteDevice, LineTooLong, TooManyLines, OutOfMemory}

-- `studyreport: LineTooLong 3`
abbrev pub stop_text : RunFault → List ℕ
stop_text ReadDevice = codes "studyreport: ReadDevice\n"
stop_text WriteDevice = codes "studyreport: WriteDevice\n"
stop_text (LineTooLong line) = codes "studyreport: LineTooLong " ++ (decimal line ++ 10 ∷ [])
stop_text TooManyLines = codes "studyreport: TooManyLines\n"
stop_text OutOfMemory = codes "studyreport: OutOfMemory\n"

-- the script is one of version 1.7
unfoldable pub old_remarks_text : List ℕ
old_remarks_text = codes "studyreport: comments that begin with '# ' are read as remarks of version 1.7\n"

-- a run that stopped is reported, and nothing of another
abbrev pub IsStopReported : Result Summary RunFault → Option (List ℕ) → Option (List ℕ) → Type 0
IsStopReported (Ok summary) old new = new ≡ old
IsStopReported (Err fault) old new = IsWrittenOrCut old new (stop_text fault)

-- Standard error has the faults of the folder's files, in the order of the class list, then the stop of the run, and nothing else, unless progress is
-- reported, too.
abbrev pub AreErrors : Bool → Result Summary RunFault → Option (List ℕ) → Option (List ℕ) → Type 0
AreErrors progress answer old new =
    progress ≡ false → (mid : Option (List ℕ)) × AreFaultsOf (codes "studyreport") class_list old mid × IsStopReported answer mid new

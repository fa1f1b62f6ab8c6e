-- The list of a script's studies as comma-separated values.
use Rattle.std.specs.Prelude.{◌≡◌, ◌⊎◌, ℕ, List, [], ◌++◌, Option, Some, Result, Err, if◌then◌else◌, codes, decimal}
use Rattle.std.specs.Io.KnownBytes.{Appends}
use Rattle.study_text.specs.Taken.{TakesPrefix}
use Rattle.study_script.specs.declared.running.Summary.{Summary}
use Rattle.study_script.specs.declared.running.RunFault.{RunFault}
use Rattle.study_script.specs.declared.running.RunFault.TheVariants.{WriteDevice}
use Rattle.study_command.specs.Documents.{empty}
use Rattle.study_script.specs.State.{State}
use Rattle.study_report.specs.Outcome.{Outcome, Shape}
use Rattle.study_report.specs.Parts.{Fits}
use Rattle.study_report.specs.Remarks.{subject, statement, is_left_out}
use Rattle.study_page.specs.Csv.{quoted_text, head_record, refused_record, IsRecordOf, IsSomeRecordOf}
use Rattle.study_print.specs.Refusals.{refusal_name}

-- a refused line, by the script's reply to it
abbrev pub refusal_record : ℕ → List ℕ → List ℕ → List ℕ
refusal_record number line reply = refused_record number line (refusal_name reply)

-- a game that was left out: its number, its place among the games in place of a title, and the reason in place of a verdict
unfoldable pub left_out_record : ℕ → List ℕ → List ℕ
left_out_record number line =
    decimal number ++ (codes "," ++ (quoted_text (subject line) ++ (codes ",,,," ++ (quoted_text (statement line) ++ codes ",\r\n"))))

-- another remark has no record
abbrev pub remark_record : ℕ → List ℕ → List ℕ
remark_record number line = if is_left_out line then left_out_record number line else []

-- the writer fails in the head, before the first line is read
abbrev pub IsHeadCut : List ℕ → Option (List ℕ) → Option (List ℕ) → Option (List ℕ) → Result Summary RunFault → Type 0
IsHeadCut script left old new answer = (answer ≡ Err WriteDevice) × (left ≡ Some script) × TakesPrefix old new head_record

-- A list, given the state at the beginning, the bytes of a script, what the reader has left of them, what the writer had and has, and the result:
-- the head, and in script order the record of each study of an accepted `pgn` line, of each refused line and of each game that was left out.
abbrev pub IsList : State → List ℕ → Option (List ℕ) → Option (List ℕ) → Option (List ℕ) → Result Summary RunFault → Type 0
IsList first script left old new answer =
    IsHeadCut script left old new answer
    ⊎ ((begun : Option (List ℕ)) × Appends old begun head_record × Outcome IsRecordOf refusal_record remark_record first script left begun new answer)

-- the same without the content of the records, whatever the state
abbrev pub ListShape : List ℕ → Option (List ℕ) → Result Summary RunFault → Type 0
ListShape script left answer = ((answer ≡ Err WriteDevice) × (left ≡ Some script)) ⊎ Shape script left answer

-- What is written of a list, whatever the state and its tables: the head and the records of the studies that the accepted lines make, each with some verdict,
-- with as many refusals as are counted.
abbrev pub ListFits : List ℕ → Option (List ℕ) → Option (List ℕ) → Option (List ℕ) → Result Summary RunFault → Type 0
ListFits script left old new answer =
    ((answer ≡ Err WriteDevice) × TakesPrefix old new head_record)
    ⊎ ((begun : Option (List ℕ)) × Appends old begun head_record × Fits IsSomeRecordOf refusal_record remark_record empty script left begun new answer)

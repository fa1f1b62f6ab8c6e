-- A sheet of diagrams.
use Rattle.std.specs.Prelude.{◌≡◌, ◌⊎◌, ℕ, List, Option, Some, Result, Err}
use Rattle.std.specs.Io.KnownBytes.{Appends}
use Rattle.study_text.specs.Taken.{TakesPrefix}
use Rattle.study_script.specs.declared.running.Summary.{Summary}
use Rattle.study_script.specs.declared.running.RunFault.{RunFault}
use Rattle.study_script.specs.declared.running.RunFault.TheVariants.{WriteDevice}
use Rattle.study_script.specs.State.{State}
use Rattle.study_command.specs.Documents.{empty}
use Rattle.study_report.specs.Lines.{no_remark}
use Rattle.study_report.specs.Outcome.{Outcome}
use Rattle.study_report.specs.Parts.{Fits}
use Rattle.study_html.specs.Frame.{sheet_opening, page_closing}
use Rattle.study_page.specs.Sheet.{IsPlaceOf}
use Rattle.study_print.specs.Pages.{refusal_text, IsEnded}

-- A sheet, given the state at the beginning, the bytes of a script, what the reader has left of them, what the writer had and has, and the result: the
-- opening; in script order the place of each study of an accepted `pgn` line, and each refused line; and the closing.
abbrev pub IsSheet : State → List ℕ → Option (List ℕ) → Option (List ℕ) → Option (List ℕ) → Result Summary RunFault → Type 0
IsSheet first script left old new answer =
    ((answer ≡ Err WriteDevice) × (left ≡ Some script) × TakesPrefix old new sheet_opening)
    ⊎ ((begun ended : Option (List ℕ)) × (ran : Result Summary RunFault) × Appends old begun sheet_opening
    × Outcome IsPlaceOf refusal_text no_remark first script left begun ended ran × IsEnded page_closing ended new ran answer)

-- What is written of a sheet, whatever the state and its tables: the opening, the places of the studies that the accepted lines make, and the refusals of
-- the lines, with as many refusals as are counted, and the closing.
abbrev pub SheetFits : List ℕ → Option (List ℕ) → Option (List ℕ) → Option (List ℕ) → Result Summary RunFault → Type 0
SheetFits script left old new answer =
    ((answer ≡ Err WriteDevice) × TakesPrefix old new sheet_opening)
    ⊎ ((begun ended : Option (List ℕ)) × (ran : Result Summary RunFault) × Appends old begun sheet_opening
    × Fits IsPlaceOf refusal_text no_remark empty script left begun ended ran × IsEnded page_closing ended new ran answer)

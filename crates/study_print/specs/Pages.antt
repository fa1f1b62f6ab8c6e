-- The printed pages of a report.
use Rattle.std.specs.Prelude.{◌≡◌, ◌⊎◌, ℕ, Bool, true, false, List, [], ◌++◌, Option, Some, Result, Ok, Err}
use Rattle.std.specs.Io.KnownBytes.{Appends}
use Rattle.study_text.specs.Taken.{TakesPrefix}
use Rattle.study_script.specs.declared.running.Summary.{Summary}
use Rattle.study_script.specs.declared.running.RunFault.{RunFault}
use Rattle.study_script.specs.declared.running.RunFault.TheVariants.{ReadDevice, WriteDevice, LineTooLong, TooManyLines, OutOfMemory}
use Rattle.study_command.specs.Documents.{empty}
use Rattle.study_script.specs.State.{State}
use Rattle.study_report.specs.Outcome.{Outcome, AreListed, AreListedBefore, Shape}
use Rattle.study_report.specs.Parts.{Fits}
use Rattle.study_reply.specs.Reasons.{reason_of}
use Rattle.study_html.specs.Frame.{page_opening, page_closing}
use Rattle.study_html.specs.Markup.{IsWellNested}
use Rattle.study_marks.specs.Edits.{PlainStudy}
use Rattle.study_entry.specs.declared.entry.EntryInfo.{EntryInfo}
use Rattle.study_page.specs.Page.{IsPageOf, IsEntry}
use Rattle.study_page.specs.Lists.{refusal_part, summary_part}
use Rattle.study_print.specs.declared.pages.EntryCount.{EntryCount}
use Rattle.study_print.specs.declared.pages.EntryCount.TheVariants.{Nothing, One, Several}
use Rattle.study_print.specs.Entries.{AreEntries}
use Rattle.study_print.specs.Refusals.{refusal_name}
use Rattle.study_print.specs.Remarks.{remark_text}

-- whatever the values are, a page is one element, with the number of its entry
abbrev pub IsEntryAs : PlainStudy → EntryInfo → List ℕ → Type 0
IsEntryAs plain info text = IsEntry info.number text

-- a refused line: its number, its text, and the script's reply to it, with the reason in words
abbrev pub refusal_text : ℕ → List ℕ → List ℕ → List ℕ
refusal_text number line reply = refusal_part number line (refusal_name reply) (reason_of (refusal_name reply))

-- the list of all entries, if there are two or more
abbrev pub summary_text : EntryCount → List ℕ → List ℕ
summary_text Nothing rows = []
summary_text One rows = []
summary_text Several rows = summary_part rows

-- what comes after the last page
abbrev pub end_text : EntryCount → List ℕ → List ℕ
end_text count rows = summary_text count rows ++ page_closing

-- whether the writer failed
abbrev pub writer_failed : Result Summary RunFault → Bool
writer_failed (Err WriteDevice) = true
writer_failed ran = false

-- the part after the last page is written, or the writer fails in it, or there is no memory for it
abbrev pub IsClosed : List ℕ → Option (List ℕ) → Option (List ℕ) → Result Summary RunFault → Result Summary RunFault → Type 0
IsClosed text old new ran answer =
    ((answer ≡ ran) × Appends old new text)
    ⊎ (((answer ≡ Err WriteDevice) × TakesPrefix old new text) ⊎ ((answer ≡ Err OutOfMemory) × (new ≡ old)))

-- the same after a run, unless its writer failed
abbrev pub IsEndedIf : Bool → List ℕ → Option (List ℕ) → Option (List ℕ) → Result Summary RunFault → Result Summary RunFault → Type 0
IsEndedIf true text old new ran answer = (answer ≡ ran) × (new ≡ old)
IsEndedIf false text old new ran answer = IsClosed text old new ran answer

abbrev pub IsEnded : List ℕ → Option (List ℕ) → Option (List ℕ) → Result Summary RunFault → Result Summary RunFault → Type 0
IsEnded text old new ran answer = IsEndedIf (writer_failed ran) text old new ran answer

-- The entries of a run are exactly its printed studies and the games that were left out; if it stops at a fault, those before the stop.
abbrev pub AreItsEntries : State → List ℕ → Option (List ℕ) → Option (List ℕ) → Result Summary RunFault → EntryCount → List ℕ → Type 0
AreItsEntries first script old new (Ok summary) count rows = AreListed IsPageOf refusal_text remark_text first script old new (AreEntries count rows)
AreItsEntries first script old new (Err fault) count rows = AreListedBefore IsPageOf refusal_text remark_text first script old new (AreEntries count rows) fault

-- A file of pages, given the state at the beginning, the bytes of a script, what the reader has left of them, what the writer had and has, and the result:
-- the opening; in script order the page of each study of an accepted `pgn` line, each refused line and each remark; the list of the entries; and the closing.
abbrev pub IsFile : State → List ℕ → Option (List ℕ) → Option (List ℕ) → Option (List ℕ) → Result Summary RunFault → Type 0
IsFile first script left old new answer =
    ((answer ≡ Err WriteDevice) × (left ≡ Some script) × TakesPrefix old new page_opening)
    ⊎ ((begun ended : Option (List ℕ)) × (ran : Result Summary RunFault) × (count : EntryCount) × (rows : List ℕ) × Appends old begun page_opening
    × Outcome IsPageOf refusal_text remark_text first script left begun ended ran × AreItsEntries first script begun ended ran count rows
    × IsEnded (end_text count rows) ended new ran answer)

-- the result after a run, if writing the part after the last page may fail too
abbrev pub IsAnswerTo : Result Summary RunFault → Result Summary RunFault → Type 0
IsAnswerTo ran answer = (answer ≡ ran) ⊎ ((answer ≡ Err WriteDevice) ⊎ (answer ≡ Err OutOfMemory))

-- the same without the content of the pages, whatever the state
abbrev pub FileShape : List ℕ → Option (List ℕ) → Result Summary RunFault → Type 0
FileShape script left answer =
    ((answer ≡ Err WriteDevice) × (left ≡ Some script)) ⊎ ((ran : Result Summary RunFault) × Shape script left ran × IsAnswerTo ran answer)

-- What is written of a file, whatever the state and its tables: the opening, the entries, the refusals and the remarks of the lines, with as many refusals
-- as are counted, and the part after the last page.
abbrev pub FileFits : List ℕ → Option (List ℕ) → Option (List ℕ) → Option (List ℕ) → Result Summary RunFault → Type 0
FileFits script left old new answer =
    ((answer ≡ Err WriteDevice) × TakesPrefix old new page_opening)
    ⊎ ((begun ended : Option (List ℕ)) × (ran : Result Summary RunFault) × (count : EntryCount) × (rows : List ℕ) × Appends old begun page_opening
    × Fits IsEntryAs refusal_text remark_text empty script left begun ended ran × IsEnded (end_text count rows) ended new ran answer)

-- a whole file: between the opening and the closing all is well nested, and text from outside is in it only as words
abbrev pub IsWholeFile : Option (List ℕ) → Option (List ℕ) → Type 0
IsWholeFile old new = (text : List ℕ) × IsWellNested text × Appends old new (page_opening ++ (text ++ page_closing))

-- A file is whole, whatever is held and whatever its tables say, unless its writer failed or there was no memory: a run that stops at a fault of its
-- script closes the file, too.
abbrev pub IsWholeUnlessCut : Option (List ℕ) → Option (List ℕ) → Result Summary RunFault → Type 0
IsWholeUnlessCut old new (Ok summary) = IsWholeFile old new
IsWholeUnlessCut old new (Err ReadDevice) = IsWholeFile old new
IsWholeUnlessCut old new (Err (LineTooLong n)) = IsWholeFile old new
IsWholeUnlessCut old new (Err TooManyLines) = IsWholeFile old new
IsWholeUnlessCut old new (Err WriteDevice) = Unit {0}
IsWholeUnlessCut old new (Err OutOfMemory) = Unit {0}

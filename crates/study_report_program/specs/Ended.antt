-- The outcome of the program.
use Rattle.std.specs.Prelude.{◌≡◌, ℕ, ◌⊎◌, Bool, List, Option, Result, Err, IfSome}
use Rattle.std.specs.Io.KnownBytes.{Keeps}
use Rattle.study_script.specs.declared.running.Summary.{Summary}
use Rattle.study_script.specs.declared.running.RunFault.{RunFault}
use Rattle.study_script.specs.declared.running.RunFault.TheVariants.{WriteDevice, OutOfMemory}
use Rattle.study_program.specs.Status.{status_reported}
use Rattle.study_report.specs.Outcome.{Shape}
use Rattle.study_command.specs.Documents.{empty}
use Rattle.study_report.specs.Parts.{Fits}
use Rattle.study_report.specs.Lines.{refusal_line, review_remark, IsReviewForm}
use Rattle.study_print.specs.Pages.{FileShape, FileFits}
use Rattle.study_sheet.specs.Sheet.{SheetFits}
use Rattle.study_list.specs.List.{ListShape, ListFits}
use Rattle.study_report_program.specs.declared.options.Form.{Form}
use Rattle.study_report_program.specs.Errors.{AreErrors}
use Rattle.study_report_program.specs.declared.options.Form.TheVariants.{Lines, Pages, Sheet, List as AList}

-- how a report in this form over these bytes ends
abbrev pub FormShape : Form → List ℕ → Option (List ℕ) → Result Summary RunFault → Type 0
FormShape Lines script left answer = Shape script left answer
FormShape Pages script left answer = FileShape script left answer
FormShape Sheet script left answer = FileShape script left answer
FormShape AList script left answer = ListShape script left answer

-- what it writes, given what the writer had and has: reviews and refusals, or the entries, refusals and remarks of a file of pages, or the places and
-- refusals of a sheet, or records
abbrev pub FormFits : Form → List ℕ → Option (List ℕ) → Option (List ℕ) → Option (List ℕ) → Result Summary RunFault → Type 0
FormFits Lines script left old new answer =
    Fits IsReviewForm (λ number line reply. refusal_line number reply) review_remark empty script left old new answer
FormFits Pages script left old new answer = ((answer ≡ Err OutOfMemory) × (new ≡ old)) ⊎ FileFits script left old new answer
FormFits Sheet script left old new answer = ((answer ≡ Err OutOfMemory) × (new ≡ old)) ⊎ SheetFits script left old new answer
FormFits AList script left old new answer = ((answer ≡ Err OutOfMemory) × (new ≡ old)) ⊎ ListFits script left old new answer

-- the result of a report in this form over these bytes
abbrev pub HasReported : Form → Option (List ℕ) → Option (List ℕ) → Option (List ℕ) → Option (List ℕ) → Result Summary RunFault → Type 0
HasReported form script left old new answer = IfSome script (λ bytes. FormShape form bytes left answer × FormFits form bytes left old new answer)

-- the same, and then its writer was flushed
abbrev pub IsReported : Form → Option (List ℕ) → Option (List ℕ) → Option (List ℕ) → Option (List ℕ) → Result Summary RunFault → Type 0
IsReported form script left old new answer = (written : Option (List ℕ)) × HasReported form script left old written answer × Keeps written new

-- The exit status of a run, or it ends as one whose writer failed, if the last text stays in a buffer. No clause excludes that it ends with 3 and has read
-- nothing, for want of memory: tests do.
abbrev pub EndsBy : (Result Summary RunFault → Type 0) → Bool → ℕ → Option (List ℕ) → Option (List ℕ) → Type 0
EndsBy Ran progress status old new = (ran answer : Result Summary RunFault) × Ran ran × ((answer ≡ ran) ⊎ (answer ≡ Err WriteDevice))
    × (status ≡ status_reported answer) × AreErrors progress answer old new

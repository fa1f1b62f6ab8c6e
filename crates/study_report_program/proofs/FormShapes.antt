-- How a report ends, form by form.
use Rattle.std.proofs.Common.{◌≤◌, ℕ, List, Option, Some, None, Result, Err, refl, inl, inr, arith}
use Rattle.std.specs.Prelude.{IfSome}
use Rattle.study_script.specs.declared.running.Summary.{Summary}
use Rattle.study_script.specs.declared.running.RunFault.{RunFault}
use Rattle.study_script.specs.declared.running.RunFault.TheVariants.{OutOfMemory}
use Rattle.study_report.specs.Lines.{refusal_line, review_remark, IsReviewForm}
use Rattle.study_report.specs.Outcome.{Shape}
use Rattle.study_command.specs.Documents.{empty}
use Rattle.study_report.specs.Parts.{Fits}
use Rattle.study_print.specs.Pages.{FileShape, FileFits}
use Rattle.study_sheet.specs.Sheet.{SheetFits}
use Rattle.study_list.specs.List.{ListShape, ListFits}
use Rattle.study_report_program.specs.declared.options.Form.{Form}
use Rattle.study_report_program.specs.declared.options.Form.TheVariants.{Lines, Pages, Sheet, List as AList}
use Rattle.study_report_program.specs.Ended.{HasReported}

least : (n : ℕ) → 0 ≤ n
least n = omega arith

-- there is no memory for the first line
not_begun : (script : List ℕ) (left : Option (List ℕ)) → Shape script left (Err OutOfMemory)
not_begun script left = (0, least 100000, least _, tt)

pub none_reported : (form : Form) (script left out : Option (List ℕ)) → HasReported form script left out out (Err OutOfMemory)
none_reported form None left out = tt
none_reported Lines (Some script) left out = (not_begun script left, tt)
none_reported Pages (Some script) left out = (inr (Err OutOfMemory, not_begun script left, inl refl), inl (refl, refl))
none_reported Sheet (Some script) left out = (inr (Err OutOfMemory, not_begun script left, inl refl), inl (refl, refl))
none_reported AList (Some script) left out = (inr (not_begun script left), inl (refl, refl))

pub lines_reported : (script left old new : Option (List ℕ)) (answer : Result Summary RunFault) → IfSome script (λ bytes. Shape bytes left answer)
    → IfSome script (λ bytes. Fits IsReviewForm (λ number line reply. refusal_line number reply) review_remark empty bytes left old new answer) → HasReported
    Lines script left old new answer
lines_reported None left old new answer shape fits = tt
lines_reported (Some script) left old new answer shape fits = (shape, fits)

pub pages_reported : (script left old new : Option (List ℕ)) (answer : Result Summary RunFault) → IfSome script (λ bytes. FileShape bytes left answer)
    → IfSome script (λ bytes. FileFits bytes left old new answer) → HasReported Pages script left old new answer
pages_reported None left old new answer shape fits = tt
pages_reported (Some script) left old new answer shape fits = (shape, inr fits)

pub sheet_reported : (script left old new : Option (List ℕ)) (answer : Result Summary RunFault) → IfSome script (λ bytes. FileShape bytes left answer)
    → IfSome script (λ bytes. SheetFits bytes left old new answer) → HasReported Sheet script left old new answer
sheet_reported None left old new answer shape fits = tt
sheet_reported (Some script) left old new answer shape fits = (shape, inr fits)

pub list_reported : (script left old new : Option (List ℕ)) (answer : Result Summary RunFault) → IfSome script (λ bytes. ListShape bytes left answer)
    → IfSome script (λ bytes. ListFits bytes left old new answer) → HasReported AList script left old new answer
list_reported None left old new answer shape fits = tt
list_reported (Some script) left old new answer shape fits = (shape, inr fits)

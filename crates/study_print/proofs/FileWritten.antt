-- A whole file of pages, from the parts written one after the other.
use Rattle.std.proofs.Common.{◌≡◌, ℕ, List, Option, Some, None, Result, Ok, Err, refl, inl, inr, true, false, Bool, is_err}
use Rattle.std.specs.Prelude.{IfSome, IfErr, OnOk}
use Rattle.std.specs.Io.KnownBytes.{Appends}
use Rattle.study_text.specs.Taken.{TakesPrefix}
use Rattle.study_script.specs.declared.running.Summary.{Summary}
use Rattle.study_script.specs.declared.running.RunFault.{RunFault}
use Rattle.study_script.specs.declared.running.RunFault.TheVariants.{WriteDevice}
use Rattle.study_script.specs.State.{State}
use Rattle.study_report.specs.Outcome.{Outcome, AreListed, AreListedBefore, Shape}
use Rattle.study_command.specs.Documents.{empty}
use Rattle.study_report.specs.Parts.{Fits}
use Rattle.study_html.specs.Frame.{page_opening}
use Rattle.study_page.specs.Page.{IsPageOf}
use Rattle.study_print.specs.declared.pages.EntryCount.{EntryCount}
use Rattle.study_print.specs.Entries.{AreEntries}
use Rattle.study_print.specs.Pages.{IsEntryAs, refusal_text, end_text, writer_failed, IsEndedIf, IsEnded}
use Rattle.study_print.specs.Pages.{AreItsEntries, IsFile, FileShape, IsAnswerTo, FileFits}
use Rattle.study_print.specs.Remarks.{remark_text}

pub where_ok : {A E : Type 0} (r : Result A E) (P : Type 0) → is_err r ≡ false → OnOk r P → P
where_ok (Ok x) P e h = h
where_ok (Err x) P e h = absurd cc

-- ---- a run with its end

module _ (first : State) (left old begun ended new : Option (List ℕ)) (answer : Result Summary RunFault) (count : EntryCount) (rows : List ℕ) where
  listed_in : (script : List ℕ) (ran : Result Summary RunFault)
      → OnOk ran (IfSome (Some script) (λ bytes. AreListed IsPageOf refusal_text remark_text first bytes begun ended (AreEntries count rows)))
      → IfErr ran (λ fault. IfSome (Some script)
      (λ bytes. AreListedBefore IsPageOf refusal_text remark_text first bytes begun ended (AreEntries count rows) fault))
      → AreItsEntries first script begun ended ran count rows
  listed_in script (Ok summary) h k = h
  listed_in script (Err fault) h k = k

  pub whole_file : (given : Option (List ℕ)) (ran : Result Summary RunFault) → Appends old begun page_opening
      → IfSome given (λ bytes. Outcome IsPageOf refusal_text remark_text first bytes left begun ended ran)
      → OnOk ran (IfSome given (λ bytes. AreListed IsPageOf refusal_text remark_text first bytes begun ended (AreEntries count rows)))
      → IfErr ran (λ fault. IfSome given
      (λ bytes. AreListedBefore IsPageOf refusal_text remark_text first bytes begun ended (AreEntries count rows) fault))
      → IsEnded (end_text count rows) ended new ran answer
      → IfSome given (λ bytes. IsFile first bytes left old new answer)
  whole_file None ran opened reported listed before end = tt
  whole_file (Some script) ran opened reported listed before end =
      inr (begun, ended, ran, count, rows, opened, reported, listed_in script ran listed before, end)

-- the writer fails before the first line
pub no_file : (first : State) (given old new : Option (List ℕ)) → TakesPrefix old new page_opening
    → IfSome given (λ bytes. IsFile first bytes given old new (Err WriteDevice))
no_file first None old new h = tt
no_file first (Some script) old new h = inl (refl, refl, h)

-- ---- its shape

answer_if : (broken : Bool) (text : List ℕ) (old new : Option (List ℕ)) (ran answer : Result Summary RunFault)
    → IsEndedIf broken text old new ran answer → IsAnswerTo ran answer
answer_if true text old new ran answer (same, h) = inl same
answer_if false text old new ran answer (inl (same, h)) = inl same
answer_if false text old new ran answer (inr (inl (fault, h))) = inr (inl fault)
answer_if false text old new ran answer (inr (inr (fault, h))) = inr (inr fault)

pub whole_shape : (left old new : Option (List ℕ)) (given : Option (List ℕ)) (text : List ℕ) (ran answer : Result Summary RunFault)
    → IfSome given (λ bytes. Shape bytes left ran) → IsEnded text old new ran answer → IfSome given (λ bytes. FileShape bytes left answer)
whole_shape left old new None text ran answer h end = tt
whole_shape left old new (Some script) text ran answer h end = inr (ran, h, answer_if (writer_failed ran) text old new ran answer end)

pub no_shape : (given : Option (List ℕ)) → IfSome given (λ bytes. FileShape bytes given (Err WriteDevice))
no_shape None = tt
no_shape (Some script) = inl (refl, refl)

-- ---- what is written, whatever the tables say

pub whole_fits : (left old begun ended new : Option (List ℕ)) (answer : Result Summary RunFault) (count : EntryCount) (rows : List ℕ) (given : Option (List ℕ))
    (ran : Result Summary RunFault) → Appends old begun page_opening
    → IfSome given (λ bytes. Fits IsEntryAs refusal_text remark_text empty bytes left begun ended ran)
    → IsEnded (end_text count rows) ended new ran answer → IfSome given (λ bytes. FileFits bytes left old new answer)
whole_fits left old begun ended new answer count rows None ran opened fits end = tt
whole_fits left old begun ended new answer count rows (Some script) ran opened fits end = inr (begun, ended, ran, count, rows, opened, fits, end)

pub no_fit : (given left old new : Option (List ℕ)) → TakesPrefix old new page_opening → IfSome given (λ bytes. FileFits bytes left old new (Err WriteDevice))
no_fit None left old new h = tt
no_fit (Some script) left old new h = inl (refl, h)

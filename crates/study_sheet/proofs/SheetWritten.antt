-- A whole sheet, from the parts written one after the other.
use Rattle.std.proofs.Common.{ℕ, List, Option, Some, None, Result, Err, refl, inl, inr}
use Rattle.std.specs.Prelude.{IfSome}
use Rattle.std.specs.Io.KnownBytes.{Appends}
use Rattle.study_text.specs.Taken.{TakesPrefix}
use Rattle.study_script.specs.declared.running.Summary.{Summary}
use Rattle.study_script.specs.declared.running.RunFault.{RunFault}
use Rattle.study_script.specs.declared.running.RunFault.TheVariants.{WriteDevice}
use Rattle.study_script.specs.State.{State}
use Rattle.study_report.specs.Lines.{no_remark}
use Rattle.study_report.specs.Outcome.{Outcome, Shape}
use Rattle.study_report.specs.Parts.{Fits}
use Rattle.study_html.specs.Frame.{sheet_opening, page_closing}
use Rattle.study_print.specs.Pages.{refusal_text, IsEnded, FileShape}
use Rattle.study_print.proofs.FileWritten.{whole_shape, no_shape}
use Rattle.study_command.specs.Documents.{empty}
use Rattle.study_page.specs.Sheet.{IsPlaceOf}
use Rattle.study_sheet.specs.Sheet.{IsSheet, SheetFits}

module _ (left old begun ended new : Option (List ℕ)) (answer : Result Summary RunFault) where
  pub whole_sheet : (first : State) (given : Option (List ℕ)) (ran : Result Summary RunFault) → Appends old begun sheet_opening
      → IfSome given (λ bytes. Outcome IsPlaceOf refusal_text no_remark first bytes left begun ended ran) → IsEnded page_closing ended new ran answer
      → IfSome given (λ bytes. IsSheet first bytes left old new answer)
  whole_sheet first None ran opened reported end = tt
  whole_sheet first (Some script) ran opened reported end = inr (begun, ended, ran, opened, reported, end)

  pub sheet_fits : (given : Option (List ℕ)) (ran : Result Summary RunFault) → Appends old begun sheet_opening
      → IfSome given (λ bytes. Fits IsPlaceOf refusal_text no_remark empty bytes left begun ended ran) → IsEnded page_closing ended new ran answer
      → IfSome given (λ bytes. SheetFits bytes left old new answer)
  sheet_fits None ran opened fits end = tt
  sheet_fits (Some script) ran opened fits end = inr (begun, ended, ran, opened, fits, end)

-- the writer fails before the first line
pub no_sheet : (first : State) (given old new : Option (List ℕ)) → TakesPrefix old new sheet_opening
    → IfSome given (λ bytes. IsSheet first bytes given old new (Err WriteDevice))
no_sheet first None old new h = tt
no_sheet first (Some script) old new h = inl (refl, refl, h)

pub no_fit : (given left old new : Option (List ℕ)) → TakesPrefix old new sheet_opening
    → IfSome given (λ bytes. SheetFits bytes left old new (Err WriteDevice))
no_fit None left old new h = tt
no_fit (Some script) left old new h = inl (refl, h)

pub sheet_shape : (left old new given : Option (List ℕ)) (ran answer : Result Summary RunFault) → IfSome given (λ bytes. Shape bytes left ran)
    → IsEnded page_closing old new ran answer → IfSome given (λ bytes. FileShape bytes left answer)
sheet_shape left old new given ran answer h end = whole_shape left old new given page_closing ran answer h end

pub no_sheet_shape : (given : Option (List ℕ)) → IfSome given (λ bytes. FileShape bytes given (Err WriteDevice))
no_sheet_shape given = no_shape given

-- A whole list, from the parts written one after the other.
use Rattle.std.proofs.Common.{ℕ, List, Option, Some, None, Result, Err, refl, inl, inr}
use Rattle.std.specs.Prelude.{IfSome}
use Rattle.std.specs.Io.KnownBytes.{Appends}
use Rattle.study_text.specs.Taken.{TakesPrefix}
use Rattle.study_script.specs.declared.running.Summary.{Summary}
use Rattle.study_script.specs.declared.running.RunFault.{RunFault}
use Rattle.study_script.specs.declared.running.RunFault.TheVariants.{WriteDevice}
use Rattle.study_script.specs.State.{State}
use Rattle.study_report.specs.Outcome.{Outcome, Shape}
use Rattle.study_command.specs.Documents.{empty}
use Rattle.study_report.specs.Parts.{Fits}
use Rattle.study_page.specs.Csv.{head_record, IsRecordOf, IsSomeRecordOf}
use Rattle.study_list.specs.List.{refusal_record, remark_record, IsList, ListShape, ListFits}

module _ (left old begun new : Option (List ℕ)) (answer : Result Summary RunFault) where
  pub whole_list : (first : State) (given : Option (List ℕ)) → Appends old begun head_record
      → IfSome given (λ bytes. Outcome IsRecordOf refusal_record remark_record first bytes left begun new answer)
      → IfSome given (λ bytes. IsList first bytes left old new answer)
  whole_list first None opened reported = tt
  whole_list first (Some script) opened reported = inr (begun, opened, reported)

  pub list_fits : (given : Option (List ℕ)) → Appends old begun head_record
      → IfSome given (λ bytes. Fits IsSomeRecordOf refusal_record remark_record empty bytes left begun new answer)
      → IfSome given (λ bytes. ListFits bytes left old new answer)
  list_fits None opened fits = tt
  list_fits (Some script) opened fits = inr (begun, opened, fits)

pub list_shape : (left given : Option (List ℕ)) (answer : Result Summary RunFault) → IfSome given (λ bytes. Shape bytes left answer)
    → IfSome given (λ bytes. ListShape bytes left answer)
list_shape left None answer h = tt
list_shape left (Some script) answer h = inr h

-- the writer fails in the head

pub no_list : (first : State) (given old new : Option (List ℕ)) → TakesPrefix old new head_record
    → IfSome given (λ bytes. IsList first bytes given old new (Err WriteDevice))
no_list first None old new h = tt
no_list first (Some script) old new h = inl (refl, refl, h)

pub no_fit : (given left old new : Option (List ℕ)) → TakesPrefix old new head_record
    → IfSome given (λ bytes. ListFits bytes left old new (Err WriteDevice))
no_fit None left old new h = tt
no_fit (Some script) left old new h = inl (refl, h)

pub no_shape : (given : Option (List ℕ)) → IfSome given (λ bytes. ListShape bytes given (Err WriteDevice))
no_shape None = tt
no_shape (Some script) = inl (refl, refl)

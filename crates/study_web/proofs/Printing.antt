-- Printed pages over the files of the request.
use Rattle.std.proofs.Common.{◌≡◌, ℕ, ◌⊎◌, Bool, List, [], replicate, false, Result, Ok, Err, refl, sym, ap, subst, ◌∙◌, inl, inr}
use Rattle.study_script.specs.declared.running.Summary.{Summary}
use Rattle.study_script.specs.declared.running.RunFault.{RunFault}
use Rattle.study_script.specs.declared.running.RunFault.TheVariants.{OutOfMemory}
use Rattle.study_web.specs.declared.request_fault.RequestFault.{RequestFault}
use Rattle.study_web.specs.declared.reply.Ending.{Ending}
use Rattle.study_web.specs.declared.reply.Ending.TheVariants.{Answered, Refused, Ran, Stopped}
use Rattle.study_web.specs.declared.file_spans.FileSpan.{FileSpan}
use Rattle.study_web.specs.Answers.{IsOwnEnd, IsPrinted, IsPrintedTo, IsFileOver}
use Rattle.study_web.specs.Opened.{AreAllRight, IsOfFiles}
use Rattle.study_web.specs.Spans.{header_given}
use Rattle.study_web.specs.Store.{known_file, faults_known}
use Rattle.study_web.specs.Reported.{denial_text, ending_of, IsDenied}
use Rattle.study_web.specs.Views.{OverStore}
use Rattle.study_web.proofs.Shelves.{over_made, right_made}

module _ (spans : List FileSpan) (bytes script : List ℕ) where
  by_summary : (text : List ℕ) (summary : Result Summary RunFault) → IsOwnEnd summary
      → ((summary ≡ Err OutOfMemory) × (text ≡ [])) ⊎ IsPrintedTo spans bytes script text summary → IsPrinted spans bytes script text (ending_of summary)
  by_summary text summary own (inl (none, empty)) =
      subst (λ s. IsPrinted spans bytes script text (ending_of s)) (sym none) (tt, inl (refl, empty))
  by_summary text (Ok summary) own (inr h) = h
  by_summary text (Err fault) own (inr h) = (own, inr h)

  pub printed_as : (reported text : List ℕ) (summary : Result Summary RunFault) (ended : Ending) → text ≡ reported → ended ≡ ending_of summary
      → IsOwnEnd summary → ((summary ≡ Err OutOfMemory) × (reported ≡ [])) ⊎ IsPrintedTo spans bytes script reported summary
      → IsPrinted spans bytes script text ended
  printed_as reported text summary ended t e own h = rw (t, e) (by_summary reported summary own h)

  pub printed_denied : (d : RequestFault) (text : List ℕ) (ended : Ending) → IsOfFiles spans bytes d → IsDenied d text ended
      → IsPrinted spans bytes script text ended
  printed_denied d text Answered of x = absurd x
  printed_denied d text (Refused e) of (same, is) = (subst (IsOfFiles spans bytes) (sym same) of, is ∙ ap denial_text (sym same))
  printed_denied d text (Stopped fault) of (same, is) = rw (same, is) (tt, inl (refl, refl))
  printed_denied d text (Ran summary) of x = absurd x

pub print_made : {spans at : List FileSpan} {bytes bs : List ℕ} {written : List Bool} → at ≡ spans → bs ≡ bytes → written ≡ replicate 36 false
    → (script text : List ℕ) (summary : Result Summary RunFault)
    → ((summary ≡ Err OutOfMemory) × (text ≡ [])) ⊎ (AreAllRight at bs
    → OverStore (known_file header_given at bs written) (faults_known at bs written) (IsFileOver script text summary))
    → ((summary ≡ Err OutOfMemory) × (text ≡ [])) ⊎ IsPrintedTo spans bytes script text summary
print_made e f w script text summary (inl none) = inl none
print_made e f w script text summary (inr is) = inr (λ right. over_made e f w (IsFileOver script text summary) (is (right_made e f right)))

-- Reviews over the files of the request.
use Rattle.std.proofs.Common.{◌≡◌, ℕ, Bool, List, [], replicate, false, filter, None, Result, Ok, Err, is_some}
use Rattle.std.proofs.Common.{refl, sym, ap, subst, ◌∙◌, arith}
use Rattle.study_material.specs.declared.class.Class.{Class}
use Rattle.study_material.specs.Class.{class_list}
use Rattle.study_script.specs.declared.running.Summary.{Summary}
use Rattle.study_script.specs.declared.running.RunFault.{RunFault}
use Rattle.study_script.specs.State.{StoreKnowledge}
use Rattle.study_web.specs.declared.request_fault.RequestFault.{RequestFault}
use Rattle.study_web.specs.declared.reply.Ending.{Ending}
use Rattle.study_web.specs.declared.reply.Ending.TheVariants.{Answered, Refused, Ran, Stopped}
use Rattle.study_web.specs.declared.file_spans.FileSpan.{FileSpan}
use Rattle.study_web.specs.Answers.{IsOwnEnd, IsReviewed, IsReviewedTo, IsReviewOver}
use Rattle.study_web.specs.Opened.{IsOfFiles}
use Rattle.study_web.specs.Spans.{file_in, file_faults, header_given}
use Rattle.study_web.specs.Store.{known_file, faults_known}
use Rattle.study_web.specs.Views.{OverStore}
use Rattle.study_web.specs.Reported.{denial_text, ending_of, IsDenied}
use Rattle.study_web.proofs.Opening.{among_chosen}
use Rattle.study_web.proofs.Shelves.{over_made}

module _ (spans : List FileSpan) (bytes script : List ℕ) where
  by_summary : (text : List ℕ) (summary : Result Summary RunFault) → IsOwnEnd summary → IsReviewedTo spans bytes script text summary
      → IsReviewed spans bytes script text (ending_of summary)
  by_summary text (Ok summary) own h = h
  by_summary text (Err fault) own h = (own, h)

  pub reviewed_as : (reported text : List ℕ) (summary : Result Summary RunFault) (ended : Ending) → text ≡ reported → ended ≡ ending_of summary
      → IsOwnEnd summary → IsReviewedTo spans bytes script reported summary → IsReviewed spans bytes script text ended
  reviewed_as reported text summary ended t e own h = rw (t, e) (by_summary reported summary own h)

  pub reviewed_denied : (d : RequestFault) (text : List ℕ) (ended : Ending) → IsOfFiles spans bytes d → IsDenied d text ended
      → IsReviewed spans bytes script text ended
  reviewed_denied d text Answered of x = absurd x
  reviewed_denied d text (Refused e) of (same, is) = (subst (IsOfFiles spans bytes) (sym same) of, is ∙ ap denial_text (sym same))
  reviewed_denied d text (Stopped fault) of (same, is) =
      let chosen : Class → Bool = λ c. is_some (file_in spans bytes c) in
      let shelf : StoreKnowledge = record { files = λ c. None; headers = λ c. None; faults = λ c f. file_faults (file_in spans bytes c) c f } in
      rw (same, is) (
        tt,
        λ right. (
          filter chosen class_list,
          among_chosen chosen,
          shelf,
          λ c f. refl,
          (None, (0, omega arith, omega arith, (tt, [], tt, refl))),
        ),
      )
  reviewed_denied d text (Ran summary) of x = absurd x

pub review_made : {spans at : List FileSpan} {bytes bs : List ℕ} {written : List Bool} → at ≡ spans → bs ≡ bytes → written ≡ replicate 36 false
    → (script text : List ℕ) (summary : Result Summary RunFault)
    → OverStore (known_file header_given at bs written) (faults_known at bs written) (IsReviewOver script text summary)
    → IsReviewedTo spans bytes script text summary
review_made e f w script text summary is = λ right. over_made e f w (IsReviewOver script text summary) is

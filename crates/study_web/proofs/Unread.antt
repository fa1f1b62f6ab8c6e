-- Scripts that are not read to the end.
use Rattle.std.proofs.Common.{◌≡◌, ◌⊎◌, ℕ, true, List, [], Option, Some, None, Result, Err, refl, sym, subst, inl, inr, arith}
use Rattle.study_script.specs.declared.running.Summary.{Summary}
use Rattle.study_script.specs.declared.running.RunFault.{RunFault}
use Rattle.study_script.specs.declared.running.RunFault.TheVariants.{OutOfMemory}
use Rattle.study_script.specs.Outcome.{Outcome, Shape as RunShape}
use Rattle.study_script.specs.Written.{Fits}
use Rattle.study_script.specs.State.{State}
use Rattle.study_report.specs.Lines.{review_remark}
use Rattle.study_report.specs.Outcome.{Outcome as ReportOutcome, Shape}
use Rattle.study_report.specs.Lines.{IsReviewAs}
use Rattle.study_web.specs.Answers.{IsOwn, IsUnread}
use Rattle.study_web.specs.Views.{refused_line}

pub no_memory : (script : List ℕ) → IsUnread script OutOfMemory
no_memory script = (tt, None, (0, omega arith, omega arith, tt))

-- if a run stops with this fault, the script is not read to the end
pub unread_as : (script : List ℕ) (fault own : RunFault) → ((left : Option (List ℕ)) × Shape script left (Err fault)) → IsOwn own
    → (own ≡ fault) ⊎ (own ≡ OutOfMemory) → IsUnread script own
unread_as script fault own at is (inl same) =
    let moved : (left : Option (List ℕ)) × Shape script left (Err own) =
    subst (λ f. (left : Option (List ℕ)) × Shape script left (Err f)) (sym same) at in (is, moved.0, moved.1)
unread_as script fault own at is (inr none) = rw none (no_memory script)

-- ---- a run over a slice, into memory

-- a run that ends for want of memory leaves nothing
pub own_shape : (script text written : List ℕ) (left : Option (List ℕ)) (ran reported : Result Summary RunFault) → RunShape script left ran
    → ((text ≡ written) × (reported ≡ ran)) ⊎ ((text ≡ []) × (reported ≡ Err OutOfMemory)) → (left : Option (List ℕ)) × RunShape script left reported
own_shape script text written left ran reported is (inl (same, ended)) = (left, subst (RunShape script left) (sym ended) is)
own_shape script text written left ran reported is (inr (none, ended)) = rw ended (Some script, refl)

pub own_fits : (script text written : List ℕ) (left : Option (List ℕ)) (ran reported : Result Summary RunFault)
    → Fits script left (Some []) (Some written) ran
    → ((text ≡ written) × (reported ≡ ran)) ⊎ ((text ≡ []) × (reported ≡ Err OutOfMemory))
    → (left : Option (List ℕ)) × Fits script left (Some []) (Some text) reported
own_fits script text written left ran reported is (inl (same, ended)) = (left, rw (same, ended) is)
own_fits script text written left ran reported is (inr (none, ended)) = rw (none, ended) (Some script, refl)

pub own_outcome : (first : State) (script text written : List ℕ) (left : Option (List ℕ)) (ran reported : Result Summary RunFault)
    → Outcome true first script left (Some []) (Some written) ran
    → ((text ≡ written) × (reported ≡ ran)) ⊎ ((text ≡ []) × (reported ≡ Err OutOfMemory))
    → (left : Option (List ℕ)) × Outcome true first script left (Some []) (Some text) reported
own_outcome first script text written left ran reported is (inl (same, ended)) = (left, rw (same, ended) is)
own_outcome first script text written left ran reported is (inr (none, ended)) = rw (none, ended) (Some script, (refl, refl))

pub own_review : (first : State) (script text written : List ℕ) (left : Option (List ℕ)) (ran reported : Result Summary RunFault)
    → ReportOutcome IsReviewAs refused_line review_remark first script left (Some []) (Some written) ran
    → ((text ≡ written) × (reported ≡ ran)) ⊎ ((text ≡ []) × (reported ≡ Err OutOfMemory))
    → (left : Option (List ℕ)) × ReportOutcome IsReviewAs refused_line review_remark first script left (Some []) (Some text) reported
own_review first script text written left ran reported is (inl (same, ended)) = (left, rw (same, ended) is)
own_review first script text written left ran reported is (inr (none, ended)) =
    rw (none, ended) (None, (0, omega arith, omega arith, (tt, [], tt, refl)))

-- what is true of the written text is true of the result, unless memory ran out
pub own_as : (P : List ℕ → Result Summary RunFault → Type 0) (text written : List ℕ) (ran reported : Result Summary RunFault) → P written ran
    → ((text ≡ written) × (reported ≡ ran)) ⊎ ((text ≡ []) × (reported ≡ Err OutOfMemory)) → ((reported ≡ Err OutOfMemory) × (text ≡ [])) ⊎ P text reported
own_as P text written ran reported is (inl (same, ended)) = inr (rw (same, ended) is)
own_as P text written ran reported is (inr (none, ended)) = inl (ended, none)

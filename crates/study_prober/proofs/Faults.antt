-- Why a source is refused.
use Rattle.std.proofs.Common.{◌≡◌, ◌≢◌, ℕ, ◌==◌, inl, inr, List, Bool, true, false, refl, sym, ap, ◌∙◌, subst, arith}
use Rattle.std.proofs.lemmas.Bool.{false≢true}
use Rattle.std.proofs.lemmas.Bool.Decides.{nat_tests}
use Rattle.std.specs.Prelude.{Result, Ok, Err, Some, None, IfErr, IsErrAnd, IsErrOf, MatchOption}
use Rattle.study_material.specs.declared.class.Class.{Class}
use Rattle.study_material.specs.Class.{class_number}
use Rattle.study_values.specs.declared.fault.SourceFault.{SourceFault}
use Rattle.study_values.specs.declared.fault.SourceFault.TheVariants.{Device}
use Rattle.study_values.specs.declared.fault.FileFault.{FileFault}
use Rattle.study_tablefile.specs.declared.page_source.Header.{Header}
use Rattle.study_prober.specs.declared.fault.PagedFault.{PagedFault}
use Rattle.study_prober.specs.declared.fault.PagedFault.TheVariants.{AlreadyHeld, OtherClass, OutOfMemory}
use Rattle.study_prober.proofs.HeldSources.{same_class}
use Rattle.study_prober.specs.HeaderAnswers.{IsReported, class_fault, paged_fault}

-- a source for a class whose table is open already
pub fault_held : (May : Result (List ℕ) SourceFault → Type 0) (held : Bool) (c : Class) → held ≡ true
    → (reported : Result (List ℕ) SourceFault) × (held ≡ false → May reported)
    × MatchOption (paged_fault held c reported) (IfErr {T = Unit {0}} (Err (AlreadyHeld c)) (λ e. e ≡ OutOfMemory))
    (λ fault. IsErrOf {T = Unit {0}} (Err (AlreadyHeld c)) fault)
fault_held May held c is_held = (Err Device, λ free. absurd (false≢true (sym free ∙ is_held)), rw is_held refl)

differ : (n m : ℕ) → n ≢ m → (n == m) ≡ false
differ n m f = grind (arith, nat_tests)

alike : (n m : ℕ) → n ≡ m → (n == m) ≡ true
alike n m f = grind (arith, nat_tests)

other_fault : (c d : Class) → (d ≡ c → ⊥) → class_fault c (Ok d) ≡ Some (OtherClass d)
other_fault c d f = elim (same_class d c) [
  | inl e ↦ absurd (f e)
  | inr far ↦ rw (differ (class_number d) (class_number c) far) refl
]

no_fault : (c d : Class) → d ≡ c → class_fault c (Ok d) ≡ None
no_fault c d e = rw (alike (class_number d) (class_number c) (ap class_number e)) refl

-- a header was read: the fault is the class's
pub fault_reported : (May : Result (List ℕ) SourceFault → Type 0) (held : Bool) (c : Class) (h : Header) (r : Result (Unit {0}) PagedFault) → held ≡ false
    → ((reported : Result (List ℕ) SourceFault) × May reported × IsReported reported (Ok h))
    → MatchOption (class_fault c (Ok h.class)) (IfErr r (λ e. e ≡ OutOfMemory)) (λ fault. IsErrOf r fault)
    → (reported : Result (List ℕ) SourceFault) × (held ≡ false → May reported)
    × MatchOption (paged_fault held c reported) (IfErr r (λ e. e ≡ OutOfMemory)) (λ fault. IsErrOf r fault)
fault_reported May held c h r free (Ok bytes, may, is) then = (
  Ok bytes,
  λ _. may,
  rw free
      (subst (λ (read : Result Class FileFault). MatchOption (class_fault c read) (IfErr r (λ e. e ≡ OutOfMemory))
      (λ fault. IsErrOf r fault)) (sym is.0) then),
)
fault_reported May held c h r free (Err fault, may, is) then = absurd (let contrary : ⊥ = cc in contrary)

pub fault_other : (May : Result (List ℕ) SourceFault → Type 0) (held : Bool) (c : Class) (h : Header) → held ≡ false → (h.class ≡ c → ⊥)
    → ((reported : Result (List ℕ) SourceFault) × May reported × IsReported reported (Ok h))
    → (reported : Result (List ℕ) SourceFault) × (held ≡ false → May reported)
    × MatchOption (paged_fault held c reported)
    (IfErr {T = Unit {0}} (Err (OtherClass h.class)) (λ e. e ≡ OutOfMemory))
    (λ fault. IsErrOf {T = Unit {0}} (Err (OtherClass h.class)) fault)
fault_other May held c h free far reported = fault_reported May held c h (Err (OtherClass h.class)) free reported (rw (other_fault c h.class far) refl)

pub fault_none : (May : Result (List ℕ) SourceFault → Type 0) (held : Bool) (c : Class) (h : Header)
    (r : Result (Unit {0}) PagedFault) → held ≡ false → h.class ≡ c → IfErr r (λ e. e ≡ OutOfMemory)
    → ((reported : Result (List ℕ) SourceFault) × May reported × IsReported reported (Ok h))
    → (reported : Result (List ℕ) SourceFault) × (held ≡ false → May reported)
    × MatchOption (paged_fault held c reported) (IfErr r (λ e. e ≡ OutOfMemory)) (λ fault. IsErrOf r fault)
fault_none May held c h r free same is reported = fault_reported May held c h r free reported (rw (no_fault c h.class same) is)

-- a fault that was passed on
pub passed_on : {T U E : Type 0} (r : Result T E) (e f : E) → IsErrAnd r (λ fault. fault ≡ e) → IsErrOf r f → IsErrOf {T = U} (Err e) f
passed_on (Ok x) e f is reported = absurd is
passed_on {T} {U} {E} (Err fault) e f is reported = let same : fault ≡ f = cc in let err : E → Result U E = λ x. Err x in ap err (sym is ∙ same)

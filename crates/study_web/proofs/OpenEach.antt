-- Tables that are opened one after the other.
use Rattle.std.proofs.Common.{◌≡◌, ◌⊎◌, ℕ, Bool, true, false, List, ◌∷◌, Option, Result, Ok, Err, sym, ap, subst, ◌∙◌, inl, inr}
use Rattle.std.specs.Prelude.{OnOk}
use Rattle.std.proofs.lemmas.Bool.{false≢true, cases_Bool}
use Rattle.study_material.specs.declared.class.Class.{Class}
use Rattle.study_material.specs.Class.{class_number}
use Rattle.study_values.specs.declared.fault.SourceFault.{SourceFault}
use Rattle.study_prober.proofs.HeldSources.{same_class}
use Rattle.study_script.specs.declared.store.StoreFault.{StoreFault}
use Rattle.study_script.specs.declared.store.StoreFault.TheVariants.{NoFile}
use Rattle.study_script.specs.State.{is_among, IsGiven, IsOpened}
use Rattle.study_script.proofs.HeldTables.{other_at}

abbrev Known : Type 0
Known = Class → Option (Result (List ℕ) StoreFault)

module _ {E : Type 0} (held held' held'' : Class → Bool) (now next : Known) (r : Result (Unit {0}) E) (c : Class) (rest : List Class)
    (same : (d : Class) → next d ≡ now d) where
  pub grows_on : ((d : Class) → held d ≡ true → held' d ≡ true) → ((d : Class) → held' d ≡ true → OnOk r (held'' d ≡ true))
      → (d : Class) → held d ≡ true → OnOk r (held'' d ≡ true)
  grows_on one more d h = more d (one d h)

  pub opened_on : ((d : Class) → held' d ≡ true → (held d ≡ true) ⊎ IsOpened (now d))
      → ((d : Class) → OnOk r (held'' d ≡ true → (held' d ≡ true) ⊎ IsOpened (next d)))
      → (d : Class) → OnOk r (held'' d ≡ true → (held d ≡ true) ⊎ IsOpened (now d))
  opened_on one more d = go r (more d)
    where
      go : (x : Result (Unit {0}) E) → OnOk x (held'' d ≡ true → (held' d ≡ true) ⊎ IsOpened (next d))
          → OnOk x (held'' d ≡ true → (held d ≡ true) ⊎ IsOpened (now d))
      go (Ok u) f = λ h. elim (f h) [ inl k ↦ one d k | inr o ↦ inr (subst IsOpened (same d) o) ]
      go (Err e) f = tt

  pub given_on : ((d : Class) → held' d ≡ true → OnOk r (held'' d ≡ true)) → (held' c ≡ false → IsGiven (now c) (Err NoFile))
      → ((d : Class) → OnOk r (is_among rest d ≡ true → held'' d ≡ false → IsGiven (next d) (Err NoFile)))
      → (d : Class) → OnOk r (is_among (c ∷ rest) d ≡ true → held'' d ≡ false → IsGiven (now d) (Err NoFile))
  given_on grows one more d = go r (grows d) (more d)
    where
      go : (x : Result (Unit {0}) E) → (held' d ≡ true → OnOk x (held'' d ≡ true))
          → OnOk x (is_among rest d ≡ true → held'' d ≡ false → IsGiven (next d) (Err NoFile))
          → OnOk x (is_among (c ∷ rest) d ≡ true → held'' d ≡ false → IsGiven (now d) (Err NoFile))
      go (Ok u) up f = λ among lacks. elim (same_class c d) [
        | inl e ↦ subst (λ (k : Class). IsGiven (now k) (Err NoFile)) e
            (one (elim (cases_Bool (held' c)) [
              | inl has ↦ absurd (false≢true (sym lacks ∙ up (subst (λ (k : Class). held' k ≡ true) e has)))
              | inr none ↦ none
            ]))
        | inr far ↦ subst (λ (k : Option (Result (List ℕ) StoreFault)). IsGiven k (Err NoFile)) (same d)
            (f (rw (other_at c d (λ k. far (ap class_number k))) at among) lacks)
      ]
      go (Err e) up f = tt

-- a table may fail as at first, or as the source of the store may
pub fails_on : {E : Type 0} (fails fails' fails'' : Class → SourceFault → Type 0) (now next : Class → SourceFault → Bool) (r : Result (Unit {0}) E)
    → ((c : Class) (f : SourceFault) → next c f ≡ now c f)
    → ((c : Class) (f : SourceFault) → fails' c f → fails c f ⊎ (now c f ≡ true))
    → ((c : Class) (f : SourceFault) → OnOk r (fails'' c f → fails' c f ⊎ (next c f ≡ true)))
    → (c : Class) (f : SourceFault) → OnOk r (fails'' c f → fails c f ⊎ (now c f ≡ true))
fails_on fails fails' fails'' now next (Ok u) same one more = λ c f h.
    elim (more c f h) [ inl k ↦ one c f k | inr t ↦ inr (sym (same c f) ∙ t) ]
fails_on fails fails' fails'' now next (Err e) same one more = λ c f. tt

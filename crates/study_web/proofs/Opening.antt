-- Tables that are opened one after the other.
use Rattle.std.proofs.Common.{◌≡◌, ◌≢◌, ◌⊎◌, ◌<◌, ℕ, Bool, true, false, ◌&&◌, List, [], ◌∷◌, length, set, filter}
use Rattle.std.proofs.Common.{Option, Some, None, Result, Ok, Err, refl, sym, ap, subst, ◌∙◌, inl, inr, arith, is_some}
use Rattle.std.proofs.lemmas.Bool.{false≢true}
use Rattle.std.proofs.lemmas.List.{length-set}
use Rattle.study_material.specs.declared.class.Class.{Class}
use Rattle.study_material.specs.declared.class.Class.TheVariants.{KK, KQK, KRK, KBK, KNK, KPK, KQQK, KQRK, KQBK}
use Rattle.study_material.specs.declared.class.Class.TheVariants.{KQNK, KQPK, KRRK, KRBK, KRNK, KRPK, KBBK}
use Rattle.study_material.specs.declared.class.Class.TheVariants.{KBNK, KBPK, KNNK, KNPK, KPPK, KQKQ, KQKR}
use Rattle.study_material.specs.declared.class.Class.TheVariants.{KQKB, KQKN, KQKP, KRKR, KRKB, KRKN, KRKP}
use Rattle.study_material.specs.declared.class.Class.TheVariants.{KBKB, KBKN, KBKP, KNKN, KNKP, KPKP}
use Rattle.study_material.specs.Class.{class_list}
use Rattle.study_material.specs.Class.{class_number}
use Rattle.study_values.specs.declared.fault.SourceFault.{SourceFault}
use Rattle.study_values.specs.Size.{pages_of}
use Rattle.study_tablefile.specs.PageSource.{Question, of_header, of_page}
use Rattle.study_prober.specs.declared.fault.PagedFault.{PagedFault}
use Rattle.study_prober.specs.declared.fault.PagedFault.TheVariants as paged
use Rattle.study_prober.specs.declared.open_table.OpenTable.{OpenTable}
use Rattle.study_prober.specs.PagedTables.{Paged, MayFail, held_of, places_for_classes}
use Rattle.study_prober.specs.Sources.{GivesOf, HonestOf, GiveAlike}
use Rattle.study_prober.specs.HeaderAnswers.{MayAnswer, IsRefusedBy, paged_fault}
use Rattle.study_prober.proofs.HeldSources.{same_class, held_same, held_other, held_placed}
use Rattle.study_script.specs.declared.store.StoreFault.{StoreFault}
use Rattle.study_script.specs.declared.store.StoreFault.TheVariants.{NoFile}
use Rattle.study_script.specs.StoreRefusals.{refusal_of_paged}
use Rattle.study_script.specs.State.{is_among, IsGiven, IsGivenAs, IsOpened, IsQuestionOf}
use Rattle.study_script.proofs.HeldTables.{place_below, same_at, other_at}
use Rattle.study_web.specs.Opened.{denial_of, IsHeldAs, IsBadFile, IsOfTables}

module _ {P : Type 0} (w v : Paged P) (c : Class) (x : OpenTable P) (long : length v.sources ≡ 36)
    (is : v ≡ record w { sources = set (places_for_classes w.sources) (class_number c) (Some x) }) where
  sources : v.sources ≡ set (places_for_classes w.sources) (class_number c) (Some x)
  sources = ap (λ (u : Paged P). u.sources) is

  within : class_number c < length (places_for_classes w.sources)
  within = let small = place_below c in
      omega (arith, small, sym (length-set (places_for_classes w.sources) (class_number c) (Some x)) ∙ ap length (sym sources) ∙ long)

  pub here : (d : Class) → c ≡ d → held_of v.sources d ≡ Some x
  here d e = ap (λ (xs : List (Option (OpenTable P))). held_of xs d) sources
      ∙ subst (λ (k : Class). held_of (set (places_for_classes w.sources) (class_number c) (Some x)) k ≡ Some x) e
      (held_same (places_for_classes w.sources) c (Some x) within)

  there : (d : Class) → class_number c ≢ class_number d → held_of v.sources d ≡ held_of w.sources d
  there d e = ap (λ (xs : List (Option (OpenTable P))). held_of xs d) sources
      ∙ held_other (places_for_classes w.sources) c d (Some x) e ∙ held_placed w.sources d

  -- a table that was loaded stays loaded
  pub grows_with : (d : Class) → is_some (held_of w.sources d) ≡ true → is_some (held_of v.sources d) ≡ true
  grows_with d h = elim (same_class c d) [
    | inl e ↦ ap (λ (o : Option (OpenTable P)). is_some o) (here d e)
    | inr f ↦ ap (λ (o : Option (OpenTable P)). is_some o) (there d f) ∙ h
  ]

  -- each loaded table was loaded before or has been opened
  pub opened_with : (Opened : Class → Type 0) → Opened c → (d : Class) → is_some (held_of v.sources d) ≡ true
      → (is_some (held_of w.sources d) ≡ true) ⊎ Opened d
  opened_with Opened k d h = elim (same_class c d) [
    | inl e ↦ inr (subst Opened e k)
    | inr f ↦ inl (ap (λ (o : Option (OpenTable P)). is_some o) (sym (there d f)) ∙ h)
  ]

  pub held_with : is_some (held_of v.sources c) ≡ false → ⊥
  held_with h = false≢true (sym h ∙ ap (λ (o : Option (OpenTable P)). is_some o) (here c refl))

-- each possible fault was possible before, or comes from the source that was put in
pub fails_with : {P : Type 0} (w v : Paged P) (c : Class) (x : OpenTable P) (long : length v.sources ≡ 36)
    → v ≡ record w { sources = set (places_for_classes w.sources) (class_number c) (Some x) } → (gives : GivesOf P) (source : P)
    → GiveAlike gives source x.source → (m : Class → SourceFault → Bool)
    → ((q : Question) (f : SourceFault) → IsQuestionOf c q → gives source q (Err f) → m c f ≡ true)
    → (d : Class) (f : SourceFault) → MayFail gives (held_of v.sources d) d f → MayFail gives (held_of w.sources d) d f ⊎ (m d f ≡ true)
fails_with w v c x long is gives source alike m fails d f h = elim (same_class c d) [
  | inl e ↦
      let k = subst (λ (o : Option (OpenTable _)). MayFail gives o d f) (here w v c x long is d e) h in
      inr (subst (λ (k : Class). m k f ≡ true) e
      (fails (of_page k.0) f (subst (λ (b : Class). k.0 < pages_of b) (sym e) k.1) (alike.back (of_page k.0) (Err f) k.2)))
  | inr far ↦ inl (subst (λ (o : Option (OpenTable _)). MayFail gives o d f) (there w v c x long is d far) h)
]

-- why a source for a class that is not loaded is refused: by its header
module _ {P : Type 0} (held : Bool) (gives : GivesOf P) (honest : HonestOf P) (source : P) (headers : Class → Option (Result (List ℕ) StoreFault))
    (m : Class → SourceFault → Bool) (c : Class) (lacks : held ≡ false) (opened : IsOpened (headers c))
    (given : (bytes : List ℕ) → gives source of_header (Ok bytes) → IsGiven (headers c) (Ok bytes))
    (fails : (q : Question) (f : SourceFault) → IsQuestionOf c q → gives source q (Err f) → m c f ≡ true) where
  given_as : (reported : Result (List ℕ) SourceFault) → gives source of_header reported → IsGivenAs (headers c) (m c) reported
  given_as (Ok bytes) g = given bytes g
  given_as (Err f) g = (opened, fails of_header f tt g)

  abbrev Answers : PagedFault → Type 0
  Answers fault = (reported : Result (List ℕ) SourceFault) × (held ≡ false → MayAnswer gives honest source reported)
      × IsRefusedBy (paged_fault held c reported) (Err fault)

  named_by : (fault : PagedFault) → (fault ≡ paged.OutOfMemory → ⊥) → (o : Option PagedFault) → IsRefusedBy o (Err fault) → o ≡ Some fault
  named_by fault other None is = absurd (other is)
  named_by fault other (Some x) is = let e : fault ≡ x = cc in ap (λ (k : PagedFault). Some k) (sym e)

  bad_file : (fault : PagedFault) → (fault ≡ paged.OutOfMemory → ⊥) → Answers fault → IsBadFile (headers c) (m c) c (refusal_of_paged fault)
  bad_file fault other (reported, answers, by) = inr (
    reported,
    given_as reported (answers lacks).0,
    fault,
    named_by fault other (paged_fault false c reported) (subst (λ (b : Bool). IsRefusedBy (paged_fault b c reported) (Err fault)) lacks by),
    refl,
  )

  pub source_denied : (fault : PagedFault) → Answers fault → IsOfTables headers m (denial_of c fault)
  source_denied paged.OutOfMemory is = refl
  source_denied (paged.AlreadyHeld d) is = bad_file (paged.AlreadyHeld d) (λ e. absurd cc) is
  source_denied (paged.TableRead f) is = bad_file (paged.TableRead f) (λ e. absurd cc) is
  source_denied (paged.Header f) is = bad_file (paged.Header f) (λ e. absurd cc) is
  source_denied (paged.OtherClass d) is = bad_file (paged.OtherClass d) (λ e. absurd cc) is

-- for a class whose header is known
pub held_as : (known : Option (Result (List ℕ) StoreFault)) (held : Bool) → (held ≡ true → IsOpened known)
    → (held ≡ false → IsGiven known (Err NoFile)) → IsHeldAs known held
held_as None held o g = tt
held_as (Some (Ok header)) true o g = refl
held_as (Some (Ok header)) false o g = absurd (not_given header (g refl))
  where
    not_given : (bs : List ℕ) → ◌≡◌ {A = Result (List ℕ) StoreFault} (Err NoFile) (Ok bs) → ⊥
    not_given bs e = cc
held_as (Some (Err fault)) true o g = absurd (o refl)
held_as (Some (Err fault)) false o g = refl

-- ---- classes among these

pub among_all : (c : Class) → is_among class_list c ≡ true
among_all KK = refl
among_all KQK = refl
among_all KRK = refl
among_all KBK = refl
among_all KNK = refl
among_all KPK = refl
among_all KQQK = refl
among_all KQRK = refl
among_all KQBK = refl
among_all KQNK = refl
among_all KQPK = refl
among_all KRRK = refl
among_all KRBK = refl
among_all KRNK = refl
among_all KRPK = refl
among_all KBBK = refl
among_all KBNK = refl
among_all KBPK = refl
among_all KNNK = refl
among_all KNPK = refl
among_all KPPK = refl
among_all KQKQ = refl
among_all KQKR = refl
among_all KQKB = refl
among_all KQKN = refl
among_all KQKP = refl
among_all KRKR = refl
among_all KRKB = refl
among_all KRKN = refl
among_all KRKP = refl
among_all KBKB = refl
among_all KBKN = refl
among_all KBKP = refl
among_all KNKN = refl
among_all KNKP = refl
among_all KPKP = refl

and_false : (b : Bool) → (b && false) ≡ false
and_false true = refl
and_false false = refl

-- the classes of a list that pass, with one more class
module _ (p : Class → Bool) (c : Class) (cs : List Class) (rest : is_among (filter p cs) c ≡ (is_among cs c && p c)) where
  with_own : (b : Bool) → p c ≡ b → is_among (filter p (c ∷ cs)) c ≡ (is_among (c ∷ cs) c && p c)
  with_own true e = rw (e, same_at c c refl) refl
  with_own false e = rw (e, same_at c c refl) (rest ∙ rw e (and_false (is_among cs c)))

  with_other : (d : Class) → class_number d ≢ class_number c → (b : Bool) → p d ≡ b
      → is_among (filter p (d ∷ cs)) c ≡ (is_among (d ∷ cs) c && p c)
  with_other d f true e = rw (e, other_at d c (λ k. f (ap class_number k))) rest
  with_other d f false e = rw (e, other_at d c (λ k. f (ap class_number k))) rest

among_filter : (p : Class → Bool) (cs : List Class) (c : Class) → is_among (filter p cs) c ≡ (is_among cs c && p c)
among_filter p [] c = refl
among_filter p (d ∷ cs) c = elim (same_class d c) [
  | inl e ↦ subst (λ (k : Class). is_among (filter p (k ∷ cs)) c ≡ (is_among (k ∷ cs) c && p c)) (sym e)
      (with_own p c cs (among_filter p cs c) (p c) refl)
  | inr f ↦ with_other p c cs (among_filter p cs c) d f (p d) refl
]

-- for each choice of classes there is a list of them
pub among_chosen : (p : Class → Bool) (c : Class) → is_among (filter p class_list) c ≡ p c
among_chosen p c = among_filter p class_list c ∙ rw (among_all c) refl

-- The outcome of `load` by pages.
use Rattle.std.proofs.Common.{◌≡◌, ◌≢◌, ℕ, ◌<◌, Bool, true, false, List, ◌∷◌, length, set, Option, Some, None}
use Rattle.std.proofs.Common.{Result, Ok, Err, refl, sym, ap, subst, ◌∙◌, inl, inr, arith, is_some}
use Rattle.std.specs.Prelude.{MatchOption, IfErr}
use Rattle.std.proofs.lemmas.List.{length-set}
use Rattle.study_material.specs.declared.class.Class.{Class}
use Rattle.study_material.specs.Class.{class_number}
use Rattle.study_table.specs.Table.{Table}
use Rattle.study_values.specs.declared.fault.SourceFault.{SourceFault}
use Rattle.study_prober.specs.declared.fault.PagedFault.{PagedFault}
use Rattle.study_prober.specs.declared.fault.PagedFault.TheVariants as fault_of
use Rattle.study_prober.specs.declared.open_table.OpenTable.{OpenTable}
use Rattle.study_values.specs.Size.{pages_of}
use Rattle.study_tablefile.specs.PageSource.{of_page}
use Rattle.study_prober.specs.Sources.{GivesOf, GivesRight}
use Rattle.study_prober.specs.PagedTables.{Paged, MayFail, held_of, places_for_classes, SourcesAreRight}
use Rattle.study_prober.specs.HeaderAnswers.{paged_fault}
use Rattle.study_prober.proofs.HeldSources.{same_class, held_same, held_other, held_placed}
use Rattle.study_script.specs.declared.store.StoreFault.{StoreFault}
use Rattle.study_reply.specs.declared.refusal.Refusal.TheVariants.{AlreadyHeld}
use Rattle.study_reply.specs.declared.table_reply.TableReply.TheVariants.{Loaded}
use Rattle.study_script.specs.State.{State, is_among, IsGiven, IsOpened, IsGivenAs, quiet, no_room_for, unopened, header}
use Rattle.study_script.specs.Replies.{refused_reply, with_class, opened_reply, IsOpenReply}
use Rattle.study_script.specs.StoreRefusals.{refusal_of_store, refusal_of_paged}
use Rattle.study_script.specs.Stores.{IsRightSource}
use Rattle.study_script.specs.Decided.{Decided, HoldsPaged}
use Rattle.study_script.proofs.HeldTables.{place_below, among_with, among_head}

-- ---- the answer of a source

-- a header is read as the known one of the store
pub reported_is : (May : Result (List ℕ) SourceFault → Type 0) (known : Option (Result (List ℕ) StoreFault)) (faults : SourceFault → Bool)
    (reported : Result (List ℕ) SourceFault) → May reported → IsOpened known
    → ((bytes : List ℕ) → May (Ok bytes) → IsGiven known (Ok bytes)) → ((f : SourceFault) → May (Err f) → faults f ≡ true)
    → IsGivenAs known faults reported
reported_is May known faults (Ok bytes) may is_open given fails = given bytes may
reported_is May known faults (Err fault) may is_open given fails = (is_open, fails fault may)

-- an accepted source reported no fault
pub accepted_none : {T : Type 0} (o : Option PagedFault) (x : T)
    → MatchOption o (IfErr {E = PagedFault} (Ok x) (λ e. e ≡ fault_of.OutOfMemory))
    (λ fault. ◌≡◌ {A = Result T PagedFault} (Ok x) (Err fault)) → o ≡ None
accepted_none None x m = refl
accepted_none (Some f) x m = absurd (let no : ⊥ = cc in no)

same_fault : {T : Type 0} (e f : PagedFault) → ◌≡◌ {A = Result T PagedFault} (Err e) (Err f) → f ≡ e
same_fault e f k = cc

no_fault_of : (c : Class) (f : SourceFault) → ◌≡◌ {A = Option PagedFault} (paged_fault false c (Err f)) None → ⊥
no_fault_of c f e = cc

module _ {P : Type 0} (honest : P → Table → ℕ → Type 0) (gives : GivesOf P) (w : Paged P) (s : State) (h : HoldsPaged honest gives w s) (c : Class)
    (Seen : State → Type 0) where
  among : (b : Bool) → is_some (held_of w.sources c) ≡ b → is_among s.classes c ≡ b
  among b e = sym (h.classes c) ∙ e

  pub open_held : Seen s → is_some (held_of w.sources c) ≡ true
      → Decided (λ o. IsOpenReply s o c (is_among s.classes c)) (λ t. HoldsPaged honest gives w t × (t.document ≡ s.document)
      × Seen t) (Err (AlreadyHeld c))
  open_held seen e = (quiet, s, rw (among true e) refl, (h, refl, seen))

  pub open_unopened : Seen s → (fault : StoreFault) → is_some (held_of w.sources c) ≡ false
      → IsGiven (s.shelf.headers c) (Err fault)
      → Decided (λ o. IsOpenReply s o c (is_among s.classes c)) (λ t. HoldsPaged honest gives w t × (t.document ≡ s.document)
      × Seen t) (Err (refusal_of_store fault))
  open_unopened seen fault e given = (unopened fault, s, rw (among false e) (given, refl), (h, refl, seen))

  pub open_done : (v : Paged P) (reported : Result (List ℕ) SourceFault) → Seen (with_class s c)
      → HoldsPaged honest gives v (with_class s c) → is_some (held_of w.sources c) ≡ false → IsGivenAs (s.shelf.headers c) (s.shelf.faults c) reported
      → paged_fault false c reported ≡ None
      → Decided (λ o. IsOpenReply s o c (is_among s.classes c)) (λ t. HoldsPaged honest gives v t × (t.document ≡ s.document) × Seen t) (Ok (Loaded c))
  open_done v reported seen holds e is_reported none = (
    header reported,
    with_class s c,
    rw (among false e) (is_reported, ap (opened_reply s c) (sym none)),
    (holds, refl, seen),
  )

  pub open_refused : (v : Paged P) (reported : Result (List ℕ) SourceFault) (fault : PagedFault) → v ≡ w → Seen s
      → is_some (held_of w.sources c) ≡ false → IsGivenAs (s.shelf.headers c) (s.shelf.faults c) reported
      → MatchOption (paged_fault false c reported) (fault ≡ fault_of.OutOfMemory)
      (λ f. ◌≡◌ {A = Result (Unit {0}) PagedFault} (Err fault) (Err f))
      → Decided (λ o. IsOpenReply s o c (is_among s.classes c)) (λ t. HoldsPaged honest gives v t × (t.document ≡ s.document)
      × Seen t) (Err (refusal_of_paged fault))
  open_refused v reported fault same seen e is_reported m = go (paged_fault false c reported) refl m
    where
      kept : HoldsPaged honest gives v s
      kept = subst (λ (x : Paged P). HoldsPaged honest gives x s) (sym same) h

      no_room : (t : Result (List ℕ) SourceFault) → IsGivenAs (s.shelf.headers c) (s.shelf.faults c) t → paged_fault false c t ≡ None → fault
          ≡ fault_of.OutOfMemory
          → Decided (λ o. IsOpenReply s o c (is_among s.classes c)) (λ u. HoldsPaged honest gives v u × (u.document ≡ s.document) × Seen u)
          (Err (refusal_of_paged fault))
      no_room (Ok bytes) given none is = (
        no_room_for bytes,
        s,
        rw (among false e) (given, none, ap (λ (f : PagedFault). refused_reply s (refusal_of_paged f)) is),
        (kept, refl, seen),
      )
      no_room (Err f) given none is = absurd (no_fault_of c f none)

      go : (o : Option PagedFault) → paged_fault false c reported ≡ o
          → MatchOption o (fault ≡ fault_of.OutOfMemory)
          (λ f. ◌≡◌ {A = Result (Unit {0}) PagedFault} (Err fault) (Err f))
          → Decided (λ o. IsOpenReply s o c (is_among s.classes c)) (λ t. HoldsPaged honest gives v t × (t.document ≡ s.document) × Seen t)
          (Err (refusal_of_paged fault))
      go None is k = no_room reported is_reported is k
      go (Some f) is k = (
        header reported,
        s,
        rw (among false e) (
          is_reported,
          sym (ap (opened_reply s c) is ∙ ap (λ (x : PagedFault). refused_reply s (refusal_of_paged x)) (same_fault fault f k)),
        ),
        (kept, refl, seen),
      )

-- ---- one more source

module _ {P : Type 0} (honest : P → Table → ℕ → Type 0) where
  -- an honest source, accepted for a class, returns that class's table
  pub gives_right : (source : P) (c : Class) (r : IsRightSource honest source) → r.table.class ≡ c → GivesRight honest source r.version c
  gives_right source c r same = record { table = r.table; of_class = same; complete = r.complete; right = r.right; is_honest = r.is_honest }

  pub paged_with : (gives : GivesOf P) (w v : Paged P) (s : State) (c : Class) (x : OpenTable P) → HoldsPaged honest gives w s
      → SourcesAreRight honest v.sources → length v.sources ≡ 36
      → v ≡ record w { sources = set (places_for_classes w.sources) (class_number c) (Some x) }
      → ((n : ℕ) (f : SourceFault) → n < pages_of c → gives x.source (of_page n) (Err f) → s.shelf.faults c f ≡ true)
      → HoldsPaged honest gives v (with_class s c)
  paged_with gives w v s c x h right long is fails = record { values = right; classes = classes; by_pages = h.by_pages; faults = faults }
    where
      sources : v.sources ≡ set (places_for_classes w.sources) (class_number c) (Some x)
      sources = ap (λ (u : Paged P). u.sources) is

      within : class_number c < length (places_for_classes w.sources)
      within = let small = place_below c in
          omega (arith, small, sym (length-set (places_for_classes w.sources) (class_number c) (Some x)) ∙ ap length (sym sources) ∙ long)

      classes : (d : Class) → is_some (held_of v.sources d) ≡ is_among (c ∷ s.classes) d
      classes d = ap (λ (xs : List (Option (OpenTable P))). is_some (held_of xs d)) sources ∙ elim (same_class c d) [
        | inl e ↦ ap (λ (o : Option (OpenTable P)). is_some o)
            (subst (λ (k : Class). held_of (set (places_for_classes w.sources) (class_number c) (Some x)) k ≡ Some x) e
            (held_same (places_for_classes w.sources) c (Some x) within)) ∙ among_head c d s.classes e
        | inr f ↦ ap (λ (o : Option (OpenTable P)). is_some o)
            (held_other (places_for_classes w.sources) c d (Some x) f ∙ held_placed w.sources d) ∙ among_with c d s.classes
            (is_some (held_of w.sources d)) (sym (h.classes d)) (λ e. f (ap class_number e))
      ]

      here : (d : Class) → c ≡ d → held_of v.sources d ≡ Some x
      here d e = ap (λ (xs : List (Option (OpenTable P))). held_of xs d) sources
          ∙ subst (λ (k : Class). held_of (set (places_for_classes w.sources) (class_number c) (Some x)) k ≡ Some x) e
          (held_same (places_for_classes w.sources) c (Some x) within)

      there : (d : Class) → class_number c ≢ class_number d → held_of v.sources d ≡ held_of w.sources d
      there d e = ap (λ (xs : List (Option (OpenTable P))). held_of xs d) sources
          ∙ held_other (places_for_classes w.sources) c d (Some x) e ∙ held_placed w.sources d

      own : (d : Class) (f : SourceFault) → c ≡ d → MayFail gives (Some x) d f → s.shelf.faults d f ≡ true
      own d f e (n, inside, given) = subst (λ (k : Class). s.shelf.faults k f ≡ true) e
          (fails n f (subst (λ (k : Class). n < pages_of k) (sym e) inside) given)

      faults : (d : Class) (f : SourceFault) → MayFail gives (held_of v.sources d) d f → s.shelf.faults d f ≡ true
      faults d f m = elim (same_class c d) [
        | inl e ↦ own d f e (subst (λ (o : Option (OpenTable P)). MayFail gives o d f) (here d e) m)
        | inr k ↦ h.faults d f (subst (λ (o : Option (OpenTable P)). MayFail gives o d f) (there d k) m)
      ]

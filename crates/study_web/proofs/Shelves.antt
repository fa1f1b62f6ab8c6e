-- A new store is the shelf of its files.
use Rattle.std.proofs.Common.{◌≡◌, ℕ, Bool, false, List, replicate, Option, Some, None, Result, Ok, Err, is_some, refl, subst, sym, ◌∙◌, inl, inr}
use Rattle.std.specs.Prelude.{IfOk, IfErr}
use Rattle.std.proofs.lemmas.List.{get_or-replicate}
use Rattle.study_board.specs.Position.{Position}
use Rattle.study_material.specs.declared.class.Class.{Class}
use Rattle.study_material.specs.Needs.{IsNeeded, NeedsClass}
use Rattle.study_material.specs.Class.{class_number}
use Rattle.study_values.specs.declared.fault.SourceFault.{SourceFault}
use Rattle.study_script.specs.declared.store.StoreFault.{StoreFault}
use Rattle.study_script.specs.declared.store.StoreFault.TheVariants as store
use Rattle.study_script.specs.State.{StoreKnowledge, is_among, IsGiven, IsGivenAs, IsOpened}
use Rattle.study_script.proofs.HeldTables.{place_below}
use Rattle.study_web.specs.declared.file_spans.FileSpan.{FileSpan}
use Rattle.study_web.specs.Spans.{file_in, bytes_given, header_given, file_faults}
use Rattle.study_values.specs.declared.values.ProbeFault.{ProbeFault}
use Rattle.study_values.specs.declared.values.ProbeFault.TheVariants as probe
use Rattle.study_reply.specs.declared.refusal.Refusal.{Refusal}
use Rattle.study_web.specs.declared.request_fault.RequestFault.{RequestFault}
use Rattle.study_web.specs.declared.request_fault.RequestFault.TheVariants as denial
use Rattle.study_web.specs.Opened.{IsHeldAs, AreHandedIn, AreAllRight, IsBadFile, IsOfTables, IsOfValues, IsOfFiles, IsOfFileValues}
use Rattle.study_web.specs.Opened.{IsUnreadValue, IsOfTablesFor, IsOfSearch, IsOfFileSearch}
use Rattle.study_web.specs.Views.{OverStore, OverFiles}
use Rattle.study_web.specs.Store.{is_written, known_file, faults_known, IsShelf, AreRightFiles}

-- all properties of a store
abbrev pub shelf_in : List FileSpan → List ℕ → List Bool → StoreKnowledge
shelf_in spans bytes written = record {
  files = known_file bytes_given spans bytes written;
  headers = known_file header_given spans bytes written;
  faults = faults_known spans bytes written;
}

none_written : (c : Class) → is_written (replicate 36 false) c ≡ false
none_written c = get_or-replicate 36 (class_number c) false false (place_below c)

module _ (spans : List FileSpan) (bytes : List ℕ) where
  known_at_first : {T : Type 0} (reported : Option (List ℕ) → T) (c : Class)
      → known_file reported spans bytes (replicate 36 false) c ≡ Some (reported (file_in spans bytes c))
  known_at_first reported c = rw (none_written c) refl

  faults_at_first : (c : Class) (f : SourceFault) → faults_known spans bytes (replicate 36 false) c f ≡ file_faults (file_in spans bytes c) c f
  faults_at_first c f = rw (none_written c) refl

  pub first_shelf : IsShelf spans bytes (shelf_in spans bytes (replicate 36 false))
  first_shelf = record { files = known_at_first bytes_given; headers = known_at_first header_given; faults = faults_at_first }

-- the same for a store with these spans and bytes
pub shelf_made : {spans at : List FileSpan} {bytes bs : List ℕ} {written : List Bool} → at ≡ spans → bs ≡ bytes → written ≡ replicate 36 false
    → IsShelf spans bytes (shelf_in at bs written)
shelf_made {spans} {at} {bytes} {bs} {written} e f w = rw (e, f, w) (first_shelf spans bytes)

pub honest_made : {spans at : List FileSpan} {bytes bs : List ℕ} (trusted : Class → Bool) (by_pages : Bool) → at ≡ spans → bs ≡ bytes
    → AreRightFiles trusted by_pages spans bytes → AreRightFiles trusted by_pages at bs
honest_made trusted by_pages e f right = rw (e, f) right

-- ---- by pages

pub right_made : {spans at : List FileSpan} {bytes bs : List ℕ} → at ≡ spans → bs ≡ bytes → AreAllRight spans bytes → AreAllRight at bs
right_made e f right = rw (e, f) right

-- a new store gives the files of the request
handed : (file : Option (List ℕ)) (held : Bool) → IsHeldAs (Some (header_given file)) held → held ≡ is_some file
handed None held h = h
handed (Some text) held h = h

pub handed_in : {spans at : List FileSpan} {bytes bs : List ℕ} {written : List Bool} (classes : List Class) → at ≡ spans → bs ≡ bytes
    → written ≡ replicate 36 false → ((c : Class) → IsHeldAs (known_file header_given at bs written c) (is_among classes c))
    → AreHandedIn spans bytes classes
handed_in {spans} {at} {bytes} {bs} {written} classes e f w held = λ c.
    handed (file_in spans bytes c) (is_among classes c)
    (subst (λ (k : Option (Result (List ℕ) StoreFault)). IsHeldAs k (is_among classes c)) (known_at_first spans bytes header_given c) (known_as c))
  where
    known_as : (c : Class) → IsHeldAs (known_file header_given spans bytes (replicate 36 false) c) (is_among classes c)
    known_as c = rw (sym e, sym f, sym w) (held c)

-- ---- why tables are not opened

module _ (h k : Class → Option (Result (List ℕ) StoreFault)) (m n : Class → SourceFault → Bool) (same : (c : Class) → h c ≡ k c)
    (alike : (c : Class) (f : SourceFault) → m c f ≡ n c f) where
  bad_alike : (c : Class) (refusal : Refusal) → IsBadFile (h c) (m c) c refusal → IsBadFile (k c) (n c) c refusal
  bad_alike c refusal (inl is) = inl (subst (λ (o : Option (Result (List ℕ) StoreFault)). IsGiven o (Err store.Device)) (same c) is.0, is.1)
  bad_alike c refusal (inr (reported, is, fault, by, named)) = inr (reported, given_alike reported is, fault, by, named)
    where
      given_alike : (reported : Result (List ℕ) SourceFault) → IsGivenAs (h c) (m c) reported → IsGivenAs (k c) (n c) reported
      given_alike (Ok bytes) is = subst (λ (o : Option (Result (List ℕ) StoreFault)). IsGiven o (Ok bytes)) (same c) is
      given_alike (Err f) is = (subst (λ (o : Option (Result (List ℕ) StoreFault)). IsOpened o) (same c) is.0, sym (alike c f) ∙ is.1)

  pub tables_alike : (d : RequestFault) → IsOfTables h m d → IsOfTables k n d
  tables_alike (denial.Refused refusal) is = is
  tables_alike (denial.OfFile c refusal) is = bad_alike c refusal is
  tables_alike denial.NoMan is = is
  tables_alike (denial.Unread fault) is = is

  pub still_named : {T : Type 0} (r : Result T RequestFault) → IfErr r (IsOfTables h m) → IfErr r (IsOfTables k n)
  still_named (Ok x) is = tt
  still_named (Err d) is = tables_alike d is

  no_value_alike : (Right Sound : Type 0) → (Sound → Right) → (Needs : Class → Type 0) (fault : ProbeFault) → IsUnreadValue h m Right Needs fault
      → IsUnreadValue k n Sound Needs fault
  no_value_alike Right Sound g Needs (probe.NoTable c) is =
      (subst (λ (o : Option (Result (List ℕ) StoreFault)). IsHeldAs o false) (same c) is.0, is.1)
  no_value_alike Right Sound g Needs (probe.TableRead f) (c, needs, is) = (c, needs, sym (alike c f) ∙ is)
  no_value_alike Right Sound g Needs (probe.PageDamaged c i) is = λ k. is (g k)

  pub values_alike : (Right Sound : Type 0) → (Sound → Right) → (Needs : Class → Type 0) (d : RequestFault) → IsOfTablesFor h m Right Needs d
      → IsOfTablesFor k n Sound Needs d
  values_alike Right Sound g Needs d (inl is) = inl (tables_alike d is)
  values_alike Right Sound g Needs d (inr (fault, is, same)) = inr (fault, no_value_alike Right Sound g Needs fault is, same)

-- the same for a store with these spans and bytes
module _ {spans at : List FileSpan} {bytes bs : List ℕ} {written : List Bool} (e : at ≡ spans) (f : bs ≡ bytes) (w : written ≡ replicate 36 false) where
  headers_made : (c : Class) → known_file header_given at bs written c ≡ Some (header_given (file_in spans bytes c))
  headers_made c = rw (e, f, w) (known_at_first spans bytes header_given c)

  faults_made : (c : Class) (fault : SourceFault) → faults_known at bs written c fault ≡ file_faults (file_in spans bytes c) c fault
  faults_made c fault = rw (e, f, w) (faults_at_first spans bytes c fault)

  pub tables_made : (d : RequestFault) → IsOfTables (known_file header_given at bs written) (faults_known at bs written) d → IsOfFiles spans bytes d
  tables_made d is = tables_alike (known_file header_given at bs written) (λ c. Some (header_given (file_in spans bytes c)))
      (faults_known at bs written) (λ c. file_faults (file_in spans bytes c) c) headers_made faults_made d is

  pub values_made : (p : Position) (d : RequestFault) → IsOfValues (known_file header_given at bs written) (faults_known at bs written) (AreAllRight at bs) p d
      → IsOfFileValues spans bytes p d
  values_made p d is = values_alike (known_file header_given at bs written) (λ c. Some (header_given (file_in spans bytes c)))
      (faults_known at bs written) (λ c. file_faults (file_in spans bytes c) c) headers_made faults_made (AreAllRight at bs)
      (AreAllRight spans bytes) (right_made e f) (NeedsClass p) d is

  pub search_made : (c : Class) (d : RequestFault) → IsOfSearch (known_file header_given at bs written) (faults_known at bs written) (AreAllRight at bs) c d
      → IsOfFileSearch spans bytes c d
  search_made c d is = values_alike (known_file header_given at bs written) (λ c. Some (header_given (file_in spans bytes c)))
      (faults_known at bs written) (λ c. file_faults (file_in spans bytes c) c) headers_made faults_made (AreAllRight at bs)
      (AreAllRight spans bytes) (right_made e f) (IsNeeded c) d is

  -- what is true over the store is true over the files
  pub over_made : (IsSo : List Class → StoreKnowledge → Type 0) → OverStore (known_file header_given at bs written) (faults_known at bs written) IsSo
      → OverFiles spans bytes IsSo
  over_made IsSo (classes, held, shelf, knows, is) = (classes, handed_in classes e f w held, shelf, (λ c x. knows c x ∙ faults_made c x), is)

  pub views_made : {V E : Type 0} (made : Result V E) (IsSo : V → List Class → StoreKnowledge → Type 0)
      → IfOk made (λ v. OverStore (known_file header_given at bs written) (faults_known at bs written) (IsSo v))
      → IfOk made (λ v. OverFiles spans bytes (IsSo v))
  views_made (Ok v) IsSo h = over_made (IsSo v) h
  views_made (Err x) IsSo h = tt

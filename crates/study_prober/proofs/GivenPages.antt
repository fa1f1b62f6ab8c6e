-- Cached pages are pages that their sources may return.
use Rattle.std.proofs.Common.{◌≡◌, ℕ, zero, suc, ◌<◌, ◌/◌, ◌⊎◌, inl, inr, true, false, List, [], ◌∷◌}
use Rattle.std.proofs.Common.{length, map, get_or, set, refl, sym, ap, ◌∙◌, subst, arith, Contains}
use Rattle.std.specs.Prelude.{Option, Some, is_some, Result, Ok, Err, IfOk, OnErr}
use Rattle.std.proofs.lemmas.Bool.{false≢true}
use Rattle.study_material.specs.declared.class.Class.{Class}
use Rattle.study_values.specs.declared.value.Value.{Value}
use Rattle.study_material.specs.Class.{class_number}
use Rattle.study_table.specs.Table.{Table}
use Rattle.study_values.specs.declared.fault.SourceFault.{SourceFault}
use Rattle.study_tablefile.specs.declared.page_source.Header.{Header}
use Rattle.study_tablefile.specs.PageSource.{Question, of_page, is_whole_page}
use Rattle.study_prober.specs.declared.page_cache.PageKey.{PageKey}
use Rattle.study_prober.specs.declared.open_table.OpenTable.{OpenTable}
use Rattle.study_values.specs.declared.values.ProbeFault.{ProbeFault}
use Rattle.study_prober.specs.Sources.{IsGivenPage, HasBadPage, IsReadFrom, GiveAlike}
use Rattle.study_prober.specs.PagedTables.{held_of, places_for_classes, IsKept, AreGiven}
use Rattle.study_prober.proofs.HeldSources.{held_either, held_placed, some_same}

module _ {S : Type 0} (gives : S → Question → Result (List ℕ) SourceFault → Type 0) where
  pub give_refl : (s : S) → GiveAlike gives s s
  give_refl s = record { on = λ q a g. g; back = λ q a g. g }

  -- a page of a source is one of its later state
  pub page_on : (h k : OpenTable S) (n : ℕ) (cells : List ℕ) → k.header ≡ h.header
      → GiveAlike gives h.source k.source → IsGivenPage gives h n cells → IsGivenPage gives k n cells
  page_on h k n cells header alike page = record {
    page = page.page;
    given = alike.on (of_page n) (Ok page.page) page.given;
    whole = subst (λ (x : Header). is_whole_page x.fields x.cells n page.page ≡ true) (sym header) page.whole;
    is = page.is;
  }

  -- the possible answers of two states of one source
  pub alike_after : (xs : List (Option (OpenTable S))) (c d : Class) (h k i j : OpenTable S)
      → class_number c < length xs → held_of xs c ≡ Some h → GiveAlike gives h.source k.source
      → held_of xs d ≡ Some i → held_of (set xs (class_number c) (Some k)) d ≡ Some j → GiveAlike gives i.source j.source
  alike_after xs c d h k i j small is alike was now = elim (held_either xs c d k j small now) [
    | inl same ↦
        let one : h ≡ i = some_same h i (sym is ∙ ap (λ (x : Class). held_of xs x) same.0 ∙ was) in
        subst (λ (x : OpenTable S). GiveAlike gives i.source x.source) same.1 (subst (λ (x : OpenTable S). GiveAlike gives x.source k.source) one alike)
    | inr far ↦
        let one : i ≡ j = some_same i j (sym was ∙ far.1) in
        subst (λ (x : OpenTable S). GiveAlike gives i.source x.source) one (give_refl i.source)
  ]

  -- sources of the same class are the same
  pub one_held : (xs : List (Option (OpenTable S))) (c d : Class) (h k : OpenTable S) → held_of xs c ≡ Some h → d ≡ c → held_of xs d ≡ Some k → h ≡ k
  one_held xs c d h k is same was = some_same h k (sym is ∙ ap (λ (x : Class). held_of xs x) (sym same) ∙ was)

  pub read_at : (h k : OpenTable S) (m n : ℕ) (r : Result Value ProbeFault) → h ≡ k → m ≡ n → IfOk r (IsReadFrom gives h m) → IfOk r (IsReadFrom gives k n)
  read_at h k m n r e f reported = subst (λ (x : OpenTable S). IfOk r (IsReadFrom gives x n)) e (subst (λ (l : ℕ). IfOk r (IsReadFrom gives h l)) f reported)

  pub unread_at : (h k : OpenTable S) (m n : ℕ) (f : SourceFault) → h ≡ k → m ≡ n
      → gives h.source (of_page (m / 4096)) (Err f) → gives k.source (of_page (n / 4096)) (Err f)
  unread_at h k m n f e g reported = subst (λ (x : OpenTable S). gives x.source (of_page (n / 4096)) (Err f)) e
      (subst (λ (l : ℕ). gives h.source (of_page (l / 4096)) (Err f)) g reported)

  pub bad_at : (h k : OpenTable S) (m n : ℕ) → h ≡ k → m ≡ n → HasBadPage gives h m → HasBadPage gives k n
  bad_at h k m n e f bad = subst (λ (x : OpenTable S). HasBadPage gives x n) e (subst (λ (l : ℕ). HasBadPage gives h l) f bad)

  module _ {V : Type 0} (cells : V → List ℕ) where
    -- a source was probed, and at most one more of its pages is cached
    pub given_after : (xs : List (Option (OpenTable S))) (kept kept' : List (PageKey × V)) (c : Class)
        (h k : OpenTable S) → AreGiven gives cells xs kept → class_number c < length xs → held_of xs c ≡ Some h
        → h.header.class ≡ c
        → k.header ≡ h.header → GiveAlike gives h.source k.source
        → ((e : PageKey × V) → Contains kept' e → Contains kept e ⊎ ((e.0.class ≡ c) × IsGivenPage gives h e.0.number (cells e.1)))
        → AreGiven gives cells (set xs (class_number c) (Some k)) kept'
    given_after xs kept kept' c h k was small is of_class header alike more = record { given = after }
      where
        after : (e : PageKey × V) (j : OpenTable S) → Contains kept' e
            → held_of (set xs (class_number c) (Some k)) e.0.class ≡ Some j → IsGivenPage gives j e.0.number (cells e.1)
        after e j i now = elim (held_either xs c e.0.class k j small now) [
          | inl same ↦
              let here : IsGivenPage gives h e.0.number (cells e.1) = elim (more e i) [
                | inl old ↦ was.given e h old (ap (λ (x : Class). held_of xs x) (sym same.0) ∙ is)
                | inr new ↦ new.1
              ] in
              subst (λ (x : OpenTable S). IsGivenPage gives x e.0.number (cells e.1)) same.1 (page_on h k e.0.number (cells e.1) header alike here)
          | inr far ↦ elim (more e i) [
            | inl old ↦ was.given e j old far.1
            | inr new ↦ absurd (far.0 (ap class_number (sym new.0)))
          ]
        ]

    -- a source is added
    pub given_with : (honest : S → Table → ℕ → Type 0) (xs : List (Option (OpenTable S)))
        (kept : List (PageKey × V)) (c : Class) (k : OpenTable S) → IsKept honest cells xs kept
        → AreGiven gives cells xs kept
        → is_some (held_of xs c) ≡ false → class_number c < length (places_for_classes xs)
        → AreGiven gives cells (set (places_for_classes xs) (class_number c) (Some k)) kept
    given_with honest xs kept c k kept_was was none room = record {
      given = λ e j i now. elim (held_either (places_for_classes xs) c e.0.class k j room now) [
        | inl same ↦ absurd (false≢true (sym none ∙ ap (λ (x : Class). is_some (held_of xs x)) same.0 ∙ kept_was.held e i))
        | inr far ↦ was.given e j i (sym (held_placed xs e.0.class) ∙ far.1)
      ];
    }

-- ---- pages as contracts see them

mapped_in : {A B : Type 0} (f : A → B) (xs : List A) (y : B) → Contains (map f xs) y → (x : A) × Contains xs x × (f x ≡ y)
mapped_in f [] y c = absurd (omega (arith, c.1))
mapped_in {A} {B} f (x ∷ xs) y c = by_index (mapped_in f xs y) c.0 c.1 c.2
  where
    by_index : (Contains (map f xs) y → (z : A) × Contains xs z × (f z ≡ y)) → (i : ℕ) → i < length (map f (x ∷ xs))
        → get_or (map f (x ∷ xs)) i y ≡ y → (z : A) × Contains (x ∷ xs) z × (f z ≡ y)
    by_index further zero b e = (x, (zero, omega arith, refl), e)
    by_index further (suc i) b e = let r = further (i, omega (arith, b), e) in (r.0, (suc r.1.0, omega (arith, r.1.1), r.1.2), r.2)

in_mapped : {A B : Type 0} (f : A → B) (xs : List A) (x : A) → Contains xs x → Contains (map f xs) (f x)
in_mapped f [] x c = absurd (omega (arith, c.1))
in_mapped {A} {B} f (z ∷ xs) x c = by_index (in_mapped f xs x) c.0 c.1 c.2
  where
    by_index : (Contains xs x → Contains (map f xs) (f x)) → (i : ℕ) → i < length (z ∷ xs) → get_or (z ∷ xs) i x ≡ x → Contains (map f (z ∷ xs)) (f x)
    by_index further zero b e = (zero, omega arith, ap f e)
    by_index further (suc i) b e = let r = further (i, omega (arith, b), e) in (suc r.0, omega (arith, r.1), r.2)

module _ {V : Type 0} (cells : V → List ℕ) where
  abbrev seen_of : PageKey × V → PageKey × List ℕ
  seen_of e = (e.0, cells e.1)

  -- each page was cached before
  pub fewer_seen : (kept kept' : List (PageKey × V)) (seen : List (PageKey × List ℕ))
      → map (λ e. (e.0, cells e.1)) kept ≡ seen → ((e : PageKey × V) → Contains kept' e → Contains kept e)
      → (e : PageKey × List ℕ) → Contains (map (λ e. (e.0, cells e.1)) kept') e → Contains seen e
  fewer_seen kept kept' seen view fewer e i =
      let r = mapped_in seen_of kept' e i in
      subst (λ (es : List (PageKey × List ℕ)). Contains es e) view
      (subst (λ (x : PageKey × List ℕ). Contains (map seen_of kept) x) r.2
      (in_mapped seen_of kept r.0 (fewer r.0 r.1)))

  -- each page was cached before, or is a new one
  pub put_seen : (New : PageKey → List ℕ → Type 0) (kept kept' : List (PageKey × V)) (seen : List (PageKey × List ℕ)) → map (λ e. (e.0, cells e.1)) kept ≡ seen
      → ((e : PageKey × V) → Contains kept' e → Contains kept e ⊎ New e.0 (cells e.1))
      → (e : PageKey × List ℕ) → Contains (map (λ e. (e.0, cells e.1)) kept') e → Contains seen e ⊎ New e.0 e.1
  put_seen New kept kept' seen view more e i =
      let r = mapped_in seen_of kept' e i in
      elim (more r.0 r.1) [
        | inl old ↦ inl
            (subst (λ (es : List (PageKey × List ℕ)). Contains es e) view
            (subst (λ (x : PageKey × List ℕ). Contains (map seen_of kept) x) r.2 (in_mapped seen_of kept r.0 old)))
        | inr new ↦ inr (subst (λ (x : PageKey × List ℕ). New x.0 x.1) r.2 new)
      ]

pub on_err : {T E : Type 0} (r : Result T E) (P Q : Type 0) → (P → Q) → OnErr r P → OnErr r Q
on_err (Ok x) P Q f h = tt
on_err (Err e) P Q f h = f h

-- The sources, and their cached pages.
use Rattle.std.proofs.Common.{◌≡◌, ◌≢◌, ℕ, ◌<◌, ◌≤◌, ◌⊎◌, inl, inr, true, false, List, [], ◌∷◌, length}
use Rattle.std.proofs.Common.{get_or, set, replicate, refl, sym, ap, ◌∙◌, subst, arith, Contains}
use Rattle.std.specs.Prelude.{Option, Some, None, is_some}
use Rattle.std.proofs.lemmas.List.{get_or-set_same, get_or-set_other, length-set, length-replicate, get_or-replicate, get_or_past, get_or_default}
use Rattle.std.proofs.lemmas.Bool.{cases_lt, false≢true}
use Rattle.study_material.specs.declared.class.Class.{Class}
use Rattle.study_material.specs.Class.{class_number}
use Rattle.study_table.specs.Table.{Table}
use Rattle.study_table.proofs.SetLemmas.{class_number-injective}
use Rattle.study_prober.specs.declared.page_cache.PageKey.{PageKey}
use Rattle.study_tablefile.specs.declared.page_source.Header.{Header}
use Rattle.study_prober.specs.declared.open_table.OpenTable.{OpenTable}
use Rattle.study_prober.specs.Sources.{IsHeaderOf, GivesRight, AreHonestAlike, cells_on_page}
use Rattle.study_prober.specs.PagedTables.{held_of, places_for_classes, IsKept, SourcesAreRight, IsSameSource}

pub same_class : (c d : Class) → (c ≡ d) ⊎ (class_number c ≢ class_number d)
same_class c d = elim (same_number (class_number c) (class_number d)) [ inl e ↦ inl (class_number-injective c d e) | inr f ↦ inr f ]
  where
    same_number : (n m : ℕ) → (n ≡ m) ⊎ (n ≢ m)
    same_number n m = grind arith

none_read : {X : Type 0} (o : X) (m i : ℕ) → get_or (replicate m o) i o ≡ o
none_read {X} o m i = elim (cases_lt i m) [
  | inl within ↦ get_or-replicate m i o o within
  | inr past ↦ get_or_past (replicate m o) i o (omega (arith, length-replicate m o))
]

module _ {S : Type 0} where
  pub held_same : (xs : List (Option (OpenTable S))) (c : Class) (o : Option (OpenTable S)) → class_number c < length xs
      → held_of (set xs (class_number c) o) c ≡ o
  held_same xs c o small = get_or-set_same xs (class_number c) o None small

  -- the source at the place of a class
  pub held_at : (xs : List (Option (OpenTable S))) (c : Class) (i : ℕ) (o : Option (OpenTable S))
      (h : OpenTable S) → i ≡ class_number c → i < length xs → o ≡ get_or xs i o → o ≡ Some h → (class_number c < length xs)
      × (held_of xs c ≡ Some h)
  held_at xs c i o h at small is e = (rw (← at) small, rw (← at) (get_or_default xs i None o small ∙ sym is ∙ e))

  pub held_other : (xs : List (Option (OpenTable S))) (c d : Class) (o : Option (OpenTable S))
      → class_number c ≢ class_number d → held_of (set xs (class_number c) o) d ≡ held_of xs d
  held_other xs c d o far = get_or-set_other xs (class_number c) (class_number d) o None (λ e. far (sym e))

  pub held_placed : (xs : List (Option (OpenTable S))) (c : Class) → held_of (places_for_classes xs) c ≡ held_of xs c
  held_placed [] c = none_read {X = Option (OpenTable S)} None 36 (class_number c)
  held_placed (o ∷ os) c = refl

  pub none_past : (xs : List (Option (OpenTable S))) (c : Class) → length xs ≤ class_number c → held_of xs c ≡ None
  none_past xs c past = get_or_past xs (class_number c) None past

  pub places_length : (xs : List (Option (OpenTable S))) → (length xs ≢ 0 → length xs ≡ 36) → length (places_for_classes xs) ≡ 36
  places_length [] some = length-replicate {A = Option (OpenTable S)} 36 None
  places_length (o ∷ os) some = some (λ e. absurd (omega (arith, e)))

  pub some_same : (h k : OpenTable S) → ◌≡◌ {A = Option (OpenTable S)} (Some h) (Some k) → h ≡ k
  some_same h k e = cc

  pub some_none : (h : OpenTable S) → ◌≡◌ {A = Option (OpenTable S)} None (Some h) → ⊥
  some_none h e = cc

  is_some-is : (o : Option (OpenTable S)) (h : OpenTable S) → o ≡ Some h → is_some o ≡ true
  is_some-is o h e = rw e refl

  is_none : (o : Option (OpenTable S)) → is_some o ≡ false → o ≡ None
  is_none None h = refl
  is_none (Some h) e = absurd (false≢true (sym e))

  pub no_table_by : {P E : Type 0} (o p : Option (OpenTable S)) → o ≡ p → (E → P × (o ≡ None))
      × (P × (o ≡ None) → E) → (E → P × (is_some p ≡ false)) × (P × (is_some p ≡ false) → E)
  no_table_by o p e h = (
    λ x. let k = h.0 x in (k.0, ap (λ (q : Option (OpenTable S)). is_some q) (sym e ∙ k.1)),
    λ y. h.1 (y.0, is_none o (ap (λ (q : Option (OpenTable S)). is_some q) e ∙ y.1)),
  )

  -- the source of a class after one place is written
  pub held_either : (xs : List (Option (OpenTable S))) (c d : Class) (k j : OpenTable S) → class_number c < length xs
      → held_of (set xs (class_number c) (Some k)) d ≡ Some j → ((c ≡ d) × (k ≡ j))
      ⊎ ((class_number c ≢ class_number d) × (held_of xs d ≡ Some j))
  held_either xs c d k j small e = elim (same_class c d) [
    | inl same ↦ inl (same, some_same k j (sym (held_same xs c (Some k) small) ∙ ap (λ (x : Class). held_of (set xs (class_number c) (Some k)) x) same ∙ e))
    | inr far ↦ inr (far, sym (held_other xs c d (Some k) far) ∙ e)
  ]

  pub is_held_after : (xs : List (Option (OpenTable S))) (c d : Class) (k : OpenTable S) → class_number c < length xs
      → is_some (held_of xs d) ≡ true → is_some (held_of (set xs (class_number c) (Some k)) d) ≡ true
  is_held_after xs c d k small was = elim (same_class c d) [
    | inl same ↦ subst (λ (x : Class). is_some (held_of (set xs (class_number c) (Some k)) x) ≡ true) same (is_some-is _ k (held_same xs c (Some k) small))
    | inr far ↦ ap (λ (o : Option (OpenTable S)). is_some o) (held_other xs c d (Some k) far) ∙ was
  ]

  module _ (honest : S → Table → ℕ → Type 0) where
    pub alike_refl : (s : S) → AreHonestAlike honest s s
    alike_refl s = record { stays = λ t v h. h; back = λ t v h. h }

    pub same_refl : (o : Option (OpenTable S)) → IsSameSource honest o o
    same_refl None = tt
    same_refl (Some h) = (refl, alike_refl h.source)

    pub same_by : (o p : Option (OpenTable S)) → p ≡ o → IsSameSource honest o p
    same_by o p e = rw e (same_refl o)

    same_of : (o p : Option (OpenTable S)) (h k : OpenTable S) → o ≡ Some h → p ≡ Some k → k.header ≡ h.header
        → AreHonestAlike honest h.source k.source → IsSameSource honest o p
    same_of o p h k e f header alike = rw e (rw f (header, alike))

    -- one source was probed
    pub same_after : (xs : List (Option (OpenTable S))) (c d : Class) (h k : OpenTable S) → class_number c < length xs
        → held_of xs c ≡ Some h → k.header ≡ h.header → AreHonestAlike honest h.source k.source
        → IsSameSource honest (held_of xs d) (held_of (set xs (class_number c) (Some k)) d)
    same_after xs c d h k small is header alike = elim (same_class c d) [
      | inl same ↦ subst
          (λ (x : Class). IsSameSource honest (held_of xs x) (held_of (set xs (class_number c) (Some k)) x)) same
          (same_of _ _ h k is (held_same xs c (Some k) small) header alike)
      | inr far ↦ same_by _ _ (held_other xs c d (Some k) far)
    ]

    same_some : (o p : Option (OpenTable S)) → IsSameSource honest o p → is_some p ≡ is_some o
    same_some None None h = refl
    same_some None (Some k) h = absurd h
    same_some (Some j) None h = absurd h
    same_some (Some j) (Some k) h = refl

    pub same_tables : (xs ys : List (Option (OpenTable S))) (c : Class)
        → IsSameSource honest (held_of xs c) (held_of ys c) → is_some (held_of ys c) ≡ is_some (held_of xs c)
    same_tables xs ys c h = same_some (held_of xs c) (held_of ys c) h

    pub gives_more : (s r : S) (v : ℕ) (c : Class) → AreHonestAlike honest s r → GivesRight honest s v c → GivesRight honest r v c
    gives_more s r v c alike right =
        record {
          table = right.table;
          of_class = right.of_class;
          complete = right.complete;
          right = right.right;
          is_honest = alike.stays right.table v right.is_honest;
        }

    right_by : (o p : Option (OpenTable S)) (c : Class) (k : OpenTable S) → IsSameSource honest o p → p ≡ Some k
        → ((h : OpenTable S) → o ≡ Some h → GivesRight honest h.source h.header.version c)
        → GivesRight honest k.source k.header.version c
    right_by None None c k same e all = absurd (some_none k e)
    right_by None (Some j) c k same e all = absurd same
    right_by (Some h) None c k same e all = absurd same
    right_by (Some h) (Some j) c k same e all =
        subst (λ (x : OpenTable S). GivesRight honest x.source x.header.version c) (some_same j k e)
        (subst (λ (x : Header). GivesRight honest j.source x.version c) (sym same.0)
        (gives_more h.source j.source h.header.version c same.1 (all h refl)))

    -- the same sources are right
    pub stays_right : (xs ys : List (Option (OpenTable S)))
        → ((c : Class) → IsSameSource honest (held_of xs c) (held_of ys c)) → SourcesAreRight honest xs
        → SourcesAreRight honest ys
    stays_right xs ys same right = record { right = λ c k e. right_by (held_of xs c) (held_of ys c) c k (same c) e (λ h f. right.right c h f) }

    pub stays_right_at : (ws xs ys : List (Option (OpenTable S))) → xs ≡ ws
        → ((c : Class) → IsSameSource honest (held_of xs c) (held_of ys c)) → SourcesAreRight honest ws
        → SourcesAreRight honest ys
    stays_right_at ws xs ys e same right =
        stays_right ws ys
        (subst (λ (os : List (Option (OpenTable S))). (c : Class)
        → IsSameSource honest (held_of os c) (held_of ys c)) e same) right

    module _ {V : Type 0} (cells : V → List ℕ) where
      -- a page after a call: one that was cached before, or one of the source that was called
      abbrev pub IsPageOf : List (PageKey × V) → OpenTable S → PageKey × V → Type 0
      IsPageOf kept h e = Contains kept e
          ⊎ ((e.0.class ≡ h.header.class)
          × ((t : Table) → honest h.source t h.header.version → t.class ≡ h.header.class
          → cells e.1 ≡ cells_on_page t e.0.number))

      pub header_own : (xs : List (Option (OpenTable S))) (kept : List (PageKey × V)) (c : Class)
          (h : OpenTable S) → IsKept honest cells xs kept → held_of xs c ≡ Some h
          → IsHeaderOf h.header h.header.class
      header_own xs kept c h was is = let of_class = was.header c h is in subst (λ (x : Class). IsHeaderOf h.header x) (sym of_class.class) of_class

      -- a source was probed, and at most one more of its pages is cached
      module _ (xs : List (Option (OpenTable S))) (kept kept' : List (PageKey × V)) (c : Class)
          (h k : OpenTable S) (was : IsKept honest cells xs kept) (small : class_number c < length xs)
          (is : held_of xs c ≡ Some h)
          (header : k.header ≡ h.header) (alike : AreHonestAlike honest h.source k.source) (more : (e : PageKey × V)
          → Contains kept' e → IsPageOf kept h e) where
        of_class : h.header.class ≡ c
        of_class = (was.header c h is).class

        ys : List (Option (OpenTable S))
        ys = set xs (class_number c) (Some k)

        from_old : (d : Class) (j : OpenTable S) (t : Table) → held_of ys d ≡ Some j
            → honest j.source t j.header.version → (i : OpenTable S) × (held_of xs d ≡ Some i)
            × honest i.source t i.header.version
        unfolding ys
        from_old d j t e gives = elim (held_either xs c d k j small e) [
          | inl same ↦ (
            h,
            subst (λ (x : Class). held_of xs x ≡ Some h) same.0 is,
            alike.back t h.header.version
                (subst (λ (x : Header). honest k.source t x.version) header
                (subst (λ (x : OpenTable S). honest x.source t x.header.version) (sym same.1) gives)),
          )
          | inr far ↦ (j, far.1, gives)
        ]

        header_after : (d : Class) (j : OpenTable S) → held_of ys d ≡ Some j → IsHeaderOf j.header d
        unfolding ys
        header_after d j e = elim (held_either xs c d k j small e) [
          | inl same ↦ subst (λ (x : OpenTable S). IsHeaderOf x.header d) same.1
              (rw header (subst (λ (x : Class). IsHeaderOf h.header x) same.0 (was.header c h is)))
          | inr far ↦ was.header d j far.1
        ]

        held_after : (e : PageKey × V) → Contains kept' e → is_some (held_of ys e.0.class) ≡ true
        unfolding ys
        held_after e i = is_held_after xs c e.0.class k small (elim (more e i) [
          | inl old ↦ was.held e old
          | inr new ↦ is_some-is (held_of xs e.0.class) h (subst (λ (x : Class). held_of xs x ≡ Some h) (sym of_class ∙ sym new.0) is)
        ])

        right_after : (d : Class) (j : OpenTable S) (t : Table) → held_of ys d ≡ Some j
            → honest j.source t j.header.version → t.class ≡ d → (e : PageKey × V) → Contains kept' e
            → e.0.class ≡ t.class → cells e.1 ≡ cells_on_page t e.0.number
        right_after d j t e gives of page i at =
            let old = from_old d j t e gives in
            elim (more page i) [
              | inl before ↦ (was.right d old.0 t old.1 old.2 of).is page before at
              | inr new ↦
                  let same : t.class ≡ h.header.class = sym at ∙ new.0 in
                  let here : c ≡ d = sym of_class ∙ sym same ∙ of in
                  let one : h ≡ old.0 = some_same h old.0 (sym is ∙ ap (λ (x : Class). held_of xs x) here ∙ old.1) in
                  new.1 t (subst (λ (x : OpenTable S). honest x.source t x.header.version) (sym one) old.2) same
            ]

        pub kept_after : IsKept honest cells (set xs (class_number c) (Some k)) kept'
        unfolding ys
        kept_after = record {
          some = λ n. length-set xs (class_number c) (Some k) ∙ was.some (λ e. n (length-set xs (class_number c) (Some k) ∙ e));
          header = header_after;
          held = held_after;
          right = λ d j t e gives of. record { is = right_after d j t e gives of };
        }

      -- a source is added
      module _ (xs : List (Option (OpenTable S))) (kept : List (PageKey × V)) (c : Class) (k : OpenTable S)
          (was : IsKept honest cells xs kept) (none : is_some (held_of xs c) ≡ false) (header : IsHeaderOf k.header c)
          (small : class_number c < 36) where
        long : length (places_for_classes xs) ≡ 36
        long = places_length xs was.some

        room : class_number c < length (places_for_classes xs)
        room = omega (arith, long)

        zs : List (Option (OpenTable S))
        zs = set (places_for_classes xs) (class_number c) (Some k)

        either : (d : Class) (j : OpenTable S) → held_of zs d ≡ Some j → ((c ≡ d) × (k ≡ j)) ⊎ ((class_number c ≢ class_number d) × (held_of xs d ≡ Some j))
        unfolding zs
        either d j e = elim (held_either (places_for_classes xs) c d k j room e) [
          | inl same ↦ inl same
          | inr far ↦ inr (far.0, sym (held_placed xs d) ∙ far.1)
        ]

        pub kept_with : IsKept honest cells (set (places_for_classes xs) (class_number c) (Some k)) kept
        unfolding zs
        kept_with = record {
          some = λ n. length-set (places_for_classes xs) (class_number c) (Some k) ∙ long;
          header = λ d j e. elim (either d j e) [
            | inl same ↦ subst (λ (x : OpenTable S). IsHeaderOf x.header d) same.1 (subst (λ (x : Class). IsHeaderOf k.header x) same.0 header)
            | inr far ↦ was.header d j far.1
          ];
          held = λ e i. is_held_after (places_for_classes xs) c e.0.class k room
              (ap (λ (o : Option (OpenTable S)). is_some o) (held_placed xs e.0.class) ∙ was.held e i);
          right = λ d j t e gives of. record {
            is = λ page i at. elim (either d j e) [
              | inl same ↦ absurd (false≢true (sym none
                  ∙ ap (λ (x : Class). is_some (held_of xs x)) (same.0 ∙ sym of ∙ sym at) ∙ was.held page i))
              | inr far ↦ (was.right d j t far.1 gives of).is page i at
            ];
          };
        }

        pub right_with : SourcesAreRight honest xs → GivesRight honest k.source k.header.version c
            → SourcesAreRight honest (set (places_for_classes xs) (class_number c) (Some k))
        unfolding zs
        right_with all right = record {
          right = λ d j e. elim (either d j e) [
            | inl same ↦ subst (λ (x : OpenTable S). GivesRight honest x.source x.header.version d) same.1
                (subst (λ (x : Class). GivesRight honest k.source k.header.version x) same.0 right)
            | inr far ↦ all.right d j far.1
          ];
        }

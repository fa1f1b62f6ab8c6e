-- If a needed table is not loaded, a file is missing.
use Rattle.std.proofs.Common.{◌≡◌, ◌⊎◌, ℕ, zero, suc, ◌<◌, ◌≤◌, nat_lt, nat_le, Bool, true, false, cond, List, [], ◌∷◌, length}
use Rattle.std.proofs.Common.{get_or, set, filter, Option, Some, None, Result, Ok, Err, is_some, refl, sym, ap, subst, ◌∙◌, inl, inr, arith}
use Rattle.std.specs.Prelude.{IsOk, OnOk, OnErr, MatchOption}
use Rattle.std.specs.List.{list_all, Contains}
use Rattle.std.proofs.lemmas.Bool.{false≢true, and_parts, and_from}
use Rattle.std.proofs.lemmas.List.{get_or-set_same, get_or-set_other}
use borrow.Author.Tests.{ltb-true, leb-true}
use Rattle.study_material.specs.declared.class.Class.{Class}
use Rattle.study_material.specs.Needs.{size, needs_of, is_in, Reaches, IsNeeded, IsOrder, NeedsComeFirst}
use Rattle.study_material.proofs.NeedsTables.{size_table, by_size_is}
use Rattle.study_material.specs.Class.{class_number}
use Rattle.study_table.specs.Table.{Table, IsClosed, table_of}
use Rattle.study_retro.specs.declared.builder.BuildFault.{BuildFault}
use Rattle.study_retro.specs.declared.builder.BuildFault.TheVariants as build
use Rattle.study_table.specs.declared.table_set.AddFault.{AddFault}
use Rattle.study_table.specs.TableSet.{first_missing, add_fault}
use Rattle.study_table.specs.Sound.{NeedsAreRight, HasFarPosition}
use Rattle.study_prober.specs.WholeTables.{Whole, TablesAreRight}
use Rattle.study_prober.proofs.HeldSources.{same_class}
use Rattle.study_script.proofs.HeldTables.{place_below}
use Rattle.study_web.specs.declared.file_spans.FileSpan.{FileSpan}
use Rattle.study_web.specs.Spans.{file_in}
use Rattle.study_web.specs.Making.{LacksFile, HasRightNeeds, HaveFiles, IsFirstLacking, IsMakeFault, IsSettled, IsTaken, is_ascending, of_build}
use Rattle.study_web.proofs.Faults.{needs_right}

-- ---- lists of classes

all_at : (p : Class → Bool) (cs : List Class) → list_all p cs ≡ true → (d : Class) → Contains cs d → p d ≡ true
all_at p cs e d k = go cs e k.0 k.1 k.2
  where
    go : (cs : List Class) → list_all p cs ≡ true → (i : ℕ) → i < length cs → get_or cs i d ≡ d → p d ≡ true
    go [] e i l s = absurd (omega arith)
    go (x ∷ xs) e zero l s = subst (λ (z : Class). p z ≡ true) s (and_parts (p x) (list_all p xs) e).0
    go (x ∷ xs) e (suc i) l s = go xs (and_parts (p x) (list_all p xs) e).1 i (omega (arith, l)) s

module _ (c : Class) (cs : List Class) where
  at_head : Contains (c ∷ cs) c
  at_head = (zero, omega arith, refl)

  at_tail : (d : Class) → Contains cs d → Contains (c ∷ cs) d
  at_tail d k = (suc k.0, (let l = k.1 in omega (arith, l)), k.2)

  head_or_tail : (d : Class) → Contains (c ∷ cs) d → (c ≡ d) ⊎ Contains cs d
  head_or_tail d k = go k.0 k.1 k.2
    where
      go : (i : ℕ) → i < length (c ∷ cs) → get_or (c ∷ cs) i d ≡ d → (c ≡ d) ⊎ Contains cs d
      go zero l s = inl s
      go (suc i) l s = inr (i, omega (arith, l), s)

-- a filtered list, by whether its first element passes
module _ (p : Class → Bool) (c : Class) (cs : List Class) where
  all_with : (q : Class → Bool) → q c ≡ true → list_all q (filter p cs) ≡ true → (b : Bool) → p c ≡ b → list_all q (filter p (c ∷ cs)) ≡ true
  all_with q own rest true f = rw f (and_from (q c) (list_all q (filter p cs)) own rest)
  all_with q own rest false f = rw f rest

  ascends_with : list_all (λ d. nat_le (size c) (size d)) (filter p cs) ≡ true → is_ascending (filter p cs) ≡ true → (b : Bool) → p c ≡ b
      → is_ascending (filter p (c ∷ cs)) ≡ true
  ascends_with above rest true f = rw f
      (and_from (list_all (λ d. nat_le (size c) (size d)) (filter p cs)) (is_ascending (filter p cs)) above rest)
  ascends_with above rest false f = rw f rest

all_of_filter : (q p : Class → Bool) (cs : List Class) → list_all q cs ≡ true → list_all q (filter p cs) ≡ true
all_of_filter q p [] e = refl
all_of_filter q p (c ∷ cs) e =
    let parts = and_parts (q c) (list_all q cs) e in all_with p c cs q parts.0 (all_of_filter q p cs parts.1) (p c) refl

filter_ascends : (p : Class → Bool) (cs : List Class) → is_ascending cs ≡ true → is_ascending (filter p cs) ≡ true
filter_ascends p [] e = refl
filter_ascends p (c ∷ cs) e =
    let parts = and_parts (list_all (λ d. nat_le (size c) (size d)) cs) (is_ascending cs) e in
    ascends_with p c cs (all_of_filter (λ d. nat_le (size c) (size d)) p cs parts.0) (filter_ascends p cs parts.1) (p c) refl

-- the order of a class ascends
pub order_ascends : {c : Class} {cs : List Class} → IsOrder c cs → is_ascending cs ≡ true
order_ascends {c} {cs} order = subst (λ (ds : List Class). is_ascending ds ≡ true)
    (sym (order.ascending ∙ ap (λ (ds : List Class). filter (is_in cs) ds) by_size_is)) (filter_ascends (is_in cs) size_table refl)

tail_ascends : (c : Class) (cs : List Class) → is_ascending (c ∷ cs) ≡ true → is_ascending cs ≡ true
tail_ascends c cs e = (and_parts (list_all (λ d. nat_le (size c) (size d)) cs) (is_ascending cs) e).1

-- ---- sizes

module _ (first : NeedsComeFirst) where
  needs_smaller : (c d : Class) → Contains (needs_of c) d → size d < size c
  needs_smaller c d k = ltb-true (size d) (size c) (all_at (λ e. nat_lt (size e) (size c)) (needs_of c) (first c) d k)

  no_larger : (n : ℕ) (c d : Class) → Reaches n c d → size d ≤ size c
  no_larger zero c d e = subst (λ (k : Class). size k ≤ size c) e (omega arith)
  no_larger (suc n) c d (e, k, r) = let a = needs_smaller c e k in let b = no_larger n e d r in omega (arith, a, b)

  smaller_than : (c d e : Class) → IsNeeded c d → Contains (needs_of d) e → size e < size c
  smaller_than c d e needed k = let a = needs_smaller d e k in let b = no_larger needed.0 c d needed.1 in omega (arith, a, b)

  -- the first class that this one needs is not among them
  not_among : (c : Class) (cs : List Class) (d : Class) → is_ascending (c ∷ cs) ≡ true → Contains (needs_of c) d → Contains (c ∷ cs) d → ⊥
  not_among c cs d up k among = elim (head_or_tail c cs d among) [
    | inl e ↦ let a = needs_smaller c d k in let b : size c ≡ size d = ap size e in omega (arith, a, b)
    | inr in_tail ↦
        let a = needs_smaller c d k in
        let parts = and_parts (list_all (λ e. nat_le (size c) (size e)) cs) (is_ascending cs) up in
        let b = leb-true (size c) (size d) (all_at (λ e. nat_le (size c) (size e)) cs parts.0 d in_tail) in omega (arith, a, b)
  ]

needs_on : (c d e : Class) → IsNeeded c d → Contains (needs_of d) e → IsNeeded c e
needs_on c d e needed k = go needed.0 c needed.1
  where
    go : (n : ℕ) (c : Class) → Reaches n c d → IsNeeded c e
    go zero c same = (1, (e, subst (λ (x : Class). Contains (needs_of x) e) (sym same) k, refl))
    go (suc n) c (f, at, r) = let rest = go n f r in (suc rest.0, (f, at, rest.1))

-- ---- sets of tables

missing_with : (held : List (Option Table)) (c : Class) (cs : List Class) (d : Class)
    → (first_missing held cs ≡ Some d → Contains cs d × (is_some (table_of held d) ≡ false))
    → (b : Bool) → is_some (table_of held c) ≡ b → cond b (first_missing held cs) (Some c) ≡ Some d
    → Contains (c ∷ cs) d × (is_some (table_of held d) ≡ false)
missing_with held c cs d rest true h k = let r = rest k in (at_tail c cs d r.0, r.1)
missing_with held c cs d rest false h k = let same : c ≡ d = cc in
    (subst (λ (x : Class). Contains (c ∷ cs) x) same (at_head c cs), subst (λ (x : Class). is_some (table_of held x) ≡ false) same h)

-- a missing class is among those that are needed, and is not loaded
missing_at : (held : List (Option Table)) (cs : List Class) (d : Class) → first_missing held cs ≡ Some d
    → Contains cs d × (is_some (table_of held d) ≡ false)
missing_at held [] d e = absurd (let no : ⊥ = cc in no)
missing_at held (c ∷ cs) d e = missing_with held c cs d (missing_at held cs d) (is_some (table_of held c)) refl e

module _ (held : List (Option Table)) (t : Table) (full : length held ≡ 36) where
  here : (d : Class) → t.class ≡ d → is_some (table_of (set held (class_number t.class) (Some t)) d) ≡ true
  here d e = subst (λ (k : Class). is_some (table_of (set held (class_number t.class) (Some t)) k) ≡ true) e
      (ap (λ (o : Option Table). is_some o)
      (get_or-set_same held (class_number t.class) (Some t) None (let small = place_below t.class in omega (arith, full, small))))

  stays : (d : Class) → is_some (table_of held d) ≡ true → is_some (table_of (set held (class_number t.class) (Some t)) d) ≡ true
  stays d h = elim (same_class t.class d) [
    | inl e ↦ here d e
    | inr f ↦ ap (λ (o : Option Table). is_some o)
        (get_or-set_other held (class_number t.class) (class_number d) (Some t) None (λ k. f (sym k))) ∙ h
  ]

module _ {E : Type 0} (w v : Whole) (t : Table) (r : Result (Unit {0}) E) (closed : IsClosed w.tables)
    (added : OnOk r (v ≡ record w { tables = set w.tables (class_number t.class) (Some t) })) (same : OnErr r (v ≡ w)) where
  pub keeps : (d : Class) → is_some (table_of w.tables d) ≡ true → is_some (table_of v.tables d) ≡ true
  keeps d h = go r added same
    where
      go : (x : Result (Unit {0}) E) → OnOk x (v ≡ record w { tables = set w.tables (class_number t.class) (Some t) }) → OnErr x (v ≡ w)
          → is_some (table_of v.tables d) ≡ true
      go (Ok u) is k = rw is (stays w.tables t closed.places d h)
      go (Err e) is k = rw k h

  -- an added table has a file if its class has one
  pub keeps_files : (spans : List FileSpan) (bytes : List ℕ) (c : Class) → t.class ≡ c → is_some (file_in spans bytes c) ≡ true
      → HaveFiles spans bytes w.tables → HaveFiles spans bytes v.tables
  keeps_files spans bytes c own file files = λ d. go r added same d
    where
      put : (d : Class) → is_some (table_of (set w.tables (class_number t.class) (Some t)) d) ≡ true → is_some (file_in spans bytes d) ≡ true
      put d h = elim (same_class t.class d) [
        | inl e ↦ subst (λ (k : Class). is_some (file_in spans bytes k) ≡ true) (sym own ∙ e) file
        | inr f ↦ files d (sym (ap (λ (o : Option Table). is_some o)
            (get_or-set_other w.tables (class_number t.class) (class_number d) (Some t) None (λ k. f (sym k)))) ∙ h)
      ]

      go : (x : Result (Unit {0}) E) → OnOk x (v ≡ record w { tables = set w.tables (class_number t.class) (Some t) }) → OnErr x (v ≡ w)
          → (d : Class) → is_some (table_of v.tables d) ≡ true → is_some (file_in spans bytes d) ≡ true
      go (Ok u) is k d h = put d (subst (λ (y : Whole). is_some (table_of y.tables d) ≡ true) is h)
      go (Err e) is k d h = files d (subst (λ (y : Whole). is_some (table_of y.tables d) ≡ true) k h)

  -- an added table is loaded, or was loaded before, or lacks one that it needs
  pub taken : (spans : List FileSpan) (bytes : List ℕ) (c : Class)
      → (is_some (table_of w.tables c) ≡ false → first_missing w.tables (needs_of c) ≡ None → IsOk r) → t.class ≡ c
      → IsTaken spans bytes c w.tables v.tables
  taken spans bytes c is own = by_held (is_some (table_of w.tables c)) refl
    where
      when_added : (x : Result (Unit {0}) E) → IsOk x → OnOk x (v ≡ record w { tables = set w.tables (class_number t.class) (Some t) })
          → is_some (table_of v.tables c) ≡ true
      when_added (Ok u) k is = rw is (here w.tables t closed.places c own)
      when_added (Err e) k is = absurd (let no : ⊥ = cc in no)

      by_missing : is_some (table_of w.tables c) ≡ false → (o : Option Class) → first_missing w.tables (needs_of c) ≡ o
          → IsTaken spans bytes c w.tables v.tables
      by_missing lacks None e = inl (when_added r (is lacks e) added)
      by_missing lacks (Some d) e = inr (inr (d, e))

      by_held : (b : Bool) → is_some (table_of w.tables c) ≡ b → IsTaken spans bytes c w.tables v.tables
      by_held true h = inl (keeps c h)
      by_held false h = by_missing h (first_missing w.tables (needs_of c)) refl

-- ---- what is settled

-- a class without a table lacks a file if what it needs is settled
settled : NeedsComeFirst → (spans : List FileSpan) (bytes : List ℕ) (c d : Class) (old new : List (Option Table)) → IsNeeded c d
    → IsTaken spans bytes d old new → ((e : Class) → Contains (needs_of d) e → IsSettled spans bytes c old e) → IsSettled spans bytes c new d
settled first spans bytes c d old new needed (inl held) before = λ l. inl held
settled first spans bytes c d old new needed (inr (inl none)) before = λ l. inr (d, (0, refl), none)
settled first spans bytes c d old new needed (inr (inr (e, is))) before = λ l.
    let at = missing_at old (needs_of d) e is in
    elim (before e at.0 (smaller_than first c d e needed at.0)) [
      | inl held ↦ absurd (false≢true (sym at.1 ∙ held))
      | inr lacks ↦ inr (lacks.0, (suc lacks.1.0, (e, at.0, lacks.1.1)), lacks.2)
    ]

settled_still : (spans : List FileSpan) (bytes : List ℕ) (c d : Class) (old new : List (Option Table))
    → (is_some (table_of old d) ≡ true → is_some (table_of new d) ≡ true) → IsSettled spans bytes c old d → IsSettled spans bytes c new d
settled_still spans bytes c d old new keeps is = λ l. elim (is l) [ inl held ↦ inl (keeps held) | inr lacks ↦ inr lacks ]

-- if a table is loaded, so are all that it needs, also through others
held_through : (held : List (Option Table)) → IsClosed held → (n : ℕ) (c d : Class) → Reaches n c d → is_some (table_of held c) ≡ true
    → is_some (table_of held d) ≡ true
held_through held closed zero c d same h = subst (λ (x : Class). is_some (table_of held x) ≡ true) same h
held_through held closed (suc n) c d (e, k, r) h =
    held_through held closed n e d r (closed.ready c h e k)

-- so a class whose table is loaded lacks no file
has_files : (spans : List FileSpan) (bytes : List ℕ) (held : List (Option Table)) → IsClosed held → HaveFiles spans bytes held → (c : Class)
    → is_some (table_of held c) ≡ true → LacksFile spans bytes c → ⊥
has_files spans bytes held closed files c h (d, (n, r), none) =
    false≢true (sym (ap (λ (o : Option (List ℕ)). is_some o) none) ∙ files d (held_through held closed n c d r h))

module _ (spans : List FileSpan) (bytes : List ℕ) (held : List (Option Table)) (closed : IsClosed held) (files : HaveFiles spans bytes held) (d : Class) where
  lacking_at : (e : Class) (es : List Class) → ((is_some (table_of held e) ≡ true) ⊎ LacksFile spans bytes e)
      → (first_missing held es ≡ Some d → IsFirstLacking spans bytes es d) → (b : Bool) → is_some (table_of held e) ≡ b
      → cond b (first_missing held es) (Some e) ≡ Some d → IsFirstLacking spans bytes (e ∷ es) d
  lacking_at e es is rest true h k = inr (has_files spans bytes held closed files e h, rest k)
  lacking_at e es (inl held_too) rest false h k = absurd (false≢true (sym h ∙ held_too))
  lacking_at e es (inr lacks) rest false h k = let same : e ≡ d = cc in inl (same, lacks)

  -- the first class that is not loaded is the first that lacks a file
  first_lacking : (es : List Class) → ((e : Class) → Contains es e → (is_some (table_of held e) ≡ true) ⊎ LacksFile spans bytes e)
      → first_missing held es ≡ Some d → IsFirstLacking spans bytes es d
  first_lacking [] all k = absurd (let no : ⊥ = cc in no)
  first_lacking (e ∷ es) all k =
      lacking_at e es (all e (at_head e es)) (first_lacking es (λ x at. all x (at_tail e es x at))) (is_some (table_of held e)) refl k

-- the first class that is needed and not loaded is the first that lacks a file
lacking : NeedsComeFirst → (spans : List FileSpan) (bytes : List ℕ) (c d : Class) (held : List (Option Table)) → IsClosed held
    → HaveFiles spans bytes held → ((e : Class) → IsNeeded c e → IsSettled spans bytes c held e) → first_missing held (needs_of c) ≡ Some d
    → IsFirstLacking spans bytes (needs_of c) d
lacking first spans bytes c d held closed files all e =
    first_lacking spans bytes held closed files d (needs_of c) (λ x at. all x (1, (x, at, refl)) (needs_smaller first c x at)) e

-- why a class is not built
pub build_fault : NeedsComeFirst → (spans : List FileSpan) (bytes : List ℕ) (c : Class) (held from : List (Option Table)) (fault : BuildFault)
    → from ≡ held → ((d : Class) → fault ≡ build.MissingTable d → first_missing from (needs_of c) ≡ Some d)
    → (NeedsAreRight from c → fault ≡ build.DistanceTooLarge → HasFarPosition c)
    → (HasRightNeeds spans bytes c → TablesAreRight held) → ((e : Class) → IsNeeded c e → IsSettled spans bytes c held e)
    → IsClosed held → HaveFiles spans bytes held → IsMakeFault spans bytes c (of_build fault)
build_fault first spans bytes c held from (build.MissingTable d) same missing far right all closed files =
    lacking first spans bytes c d held closed files all (subst (λ (h : List (Option Table)). first_missing h (needs_of c) ≡ Some d) same (missing d refl))
build_fault first spans bytes c held from build.DistanceTooLarge same missing far right all closed files =
    λ r. far (subst (λ (h : List (Option Table)). NeedsAreRight h c) (sym same) (needs_right (right r))) refl

-- a table without a fault is added
pub added_ok : {X : Type 0} (P : AddFault → Type 0) (held : List (Option Table)) (k c : Class) → k ≡ c → is_some (table_of held c) ≡ false
    → first_missing held (needs_of c) ≡ None → MatchOption (add_fault held k) X P → X
added_ok P held k c same lacks none is = rw (same, lacks, none) at is

pub settled_ok : {E : Type 0} (r : Result (Unit {0}) E) → NeedsComeFirst → (spans : List FileSpan) (bytes : List ℕ) (c d : Class)
    (old new : List (Option Table)) → IsNeeded c d → OnOk r (IsTaken spans bytes d old new)
    → ((e : Class) → Contains (needs_of d) e → IsSettled spans bytes c old e) → OnOk r (IsSettled spans bytes c new d)
settled_ok (Ok u) first spans bytes c d old new needed taken before = settled first spans bytes c d old new needed taken before
settled_ok (Err e) first spans bytes c d old new needed taken before = tt

-- for the classes after the first of those that are needed
module _ (c need : Class) (rest all : List Class) (is : all ≡ need ∷ rest) (needed : (d : Class) → Contains all d → IsNeeded c d) where
  within : (d : Class) → Contains (need ∷ rest) d → Contains all d
  within d k = subst (λ (xs : List Class). Contains xs d) (sym is) k

  pub need_needed : IsNeeded c need
  need_needed = needed need (within need (at_head need rest))

  pub rest_needed : (d : Class) → Contains rest d → IsNeeded c d
  rest_needed d k = needed d (within d (at_tail need rest d k))

ascends_all : (need : Class) (rest all : List Class) → all ≡ need ∷ rest → is_ascending all ≡ true → is_ascending (need ∷ rest) ≡ true
ascends_all need rest all is up = subst (λ (xs : List Class). is_ascending xs ≡ true) is up

pub rest_ascends : (need : Class) (rest all : List Class) → all ≡ need ∷ rest → is_ascending all ≡ true → is_ascending rest ≡ true
rest_ascends need rest all is up = tail_ascends need rest (ascends_all need rest all is up)

-- what is settled after the first of the classes that are needed
module _ (first : NeedsComeFirst) (spans : List FileSpan) (bytes : List ℕ) (c need : Class) (rest all : List Class) (old new : List (Option Table))
    (is : all ≡ need ∷ rest) (needed : (d : Class) → Contains all d → IsNeeded c d) (up : is_ascending all ≡ true)
    (before : (d : Class) → IsNeeded c d → (Contains all d → ⊥) → IsSettled spans bytes c old d)
    (one : ((d : Class) → Contains (needs_of need) d → IsSettled spans bytes c old d) → IsSettled spans bytes c new need)
    (keeps : (d : Class) → is_some (table_of old d) ≡ true → is_some (table_of new d) ≡ true) where
  need_settled : IsSettled spans bytes c new need
  need_settled = one (λ d k. before d (needs_on c need d (need_needed c need rest all is needed) k)
      (λ among. not_among first need rest d (ascends_all need rest all is up) k (subst (λ (xs : List Class). Contains xs d) is among)))

  pub rest_settled : (d : Class) → IsNeeded c d → (Contains rest d → ⊥) → IsSettled spans bytes c new d
  rest_settled d n out = elim (same_class need d) [
    | inl e ↦ subst (λ (k : Class). IsSettled spans bytes c new k) e need_settled
    | inr far ↦ settled_still spans bytes c d old new (keeps d) (before d n
        (λ among. elim (head_or_tail need rest d (subst (λ (xs : List Class). Contains xs d) is among))
        [ inl e ↦ far (ap class_number e) | inr k ↦ out k ]))
  ]

-- The sources after a page was read, and the values of its cells.
use Rattle.std.proofs.Common.{◌≡◌, ℕ, ◌+◌, ◌*◌, ◌%◌, ◌<◌, ◌≤◌, inl, inr, Bool, true, false, min, List, ◌++◌, length, take, drop, replicate, get_or}
use Rattle.std.proofs.Common.{refl, sym, ap, ◌∙◌, subst, arith, ◌↔◌}
use Rattle.std.specs.Prelude.{Option, Some, None, is_some, Result, Ok, Err, OnOk, IfErr, IsErrOf, slice_index}
use Rattle.std.proofs.lemmas.Bool.{false≢true}
use Rattle.std.proofs.lemmas.List.{length-take-le}
use Rattle.study_material.specs.declared.class.Class.{Class}
use Rattle.study_material.specs.Class.{IsOf}
use Rattle.study_values.specs.Index.{index_of}
use Rattle.study_values.specs.Cells.{value_of}
use Rattle.study_values.specs.Game.{IsValueOf}
use Rattle.study_values.specs.Size.{pages_of}
use Rattle.study_values.specs.Number.{cells_of}
use Rattle.study_values.specs.Values.{IsNotDamage}
use Rattle.study_values.specs.declared.fault.SourceFault.{SourceFault}
use Rattle.study_values.specs.declared.values.ProbeFault.{ProbeFault}
use Rattle.study_values.specs.declared.values.ProbeFault.TheVariants.{NoTable, TableRead, PageDamaged}
use Rattle.study_table.specs.Table.{Table, IsComplete, table_of}
use Rattle.study_table.specs.Sound.{IsRight}
use Rattle.study_table.proofs.SoundLemmas.{at_right}
use Rattle.study_tablefile.specs.Format.{page_cells_of}
use Rattle.study_tablefile.specs.PageSource.{of_page}
use Rattle.study_tablefile.proofs.Lists.{padded_front, next_page}
use Rattle.study_prober.specs.declared.page_cache.PageKey.{PageKey}
use Rattle.study_prober.specs.declared.open_table.OpenTable.{OpenTable}
use Rattle.study_prober.specs.Sources.{GivesOf, HonestOf, GiveAlike, cells_on_page}
use Rattle.study_prober.specs.PagedTables.{held_of, IsKept, AreGiven, SourcesAreRight, IsSameSource, MayFail}
use Rattle.study_prober.specs.CellPages.{AreValuesOf, IsAskedOnly}
use Rattle.study_prober.proofs.Cells.{cell_of_page}
use Rattle.study_prober.proofs.HeldSources.{same_refl, same_tables, same_after, kept_after, stays_right}
use Rattle.study_prober.proofs.GivenPages.{give_refl, given_after, alike_after, one_held}

-- ---- the values of cells

-- the cells of a page of a right table encode the game's values
pub page_values : (t : Table) (c : Class) (n : ℕ) (cells : List ℕ) → t.class ≡ c → IsComplete t → IsRight t → cells ≡ cells_on_page t n → AreValuesOf c n cells
page_values t c n cells of complete right e p valid home at =
    let i = index_of p in
    let here : get_or t.cells i 0 ≡ slice_index cells (i % 4096) =
    sym (cell_of_page t i) ∙ ap (λ (m : ℕ). get_or (cells_on_page t m) (i % 4096) 0) at ∙ ap (λ (xs : List ℕ). get_or xs (i % 4096) 0) (sym e) in
    subst (λ (x : ℕ). IsValueOf p (value_of x)) here (at_right t complete right p valid (subst (λ (k : Class). IsOf k p) (sym of) home))

-- the front of a list, before zeros
pub copied : (xs : List ℕ) (m : ℕ) → m ≡ min (length xs) 4096
    → take m xs ++ drop m (replicate 4096 0) ≡ page_cells_of xs
copied xs m e =
    let long : length (take m xs) ≡ m = length-take-le m xs (omega (arith, e)) in
    subst (λ (k : ℕ). take m xs ++ drop k (replicate 4096 0) ≡ page_cells_of xs) long
    (padded_front (take m xs) (omega (arith, e, long)) ∙ next_page xs m e)

-- a page of a class begins within its cells
pub page_begins : (c : Class) (n : ℕ) → n < pages_of c → 4096 * n ≤ cells_of c
unfolding pages_of
page_begins c n l = omega arith

-- ---- the sources

module _ {S : Type 0} (gives : GivesOf S) (honest : HonestOf S) (c : Class) (xs ys : List (Option (OpenTable S)))
    (asked : IsAskedOnly gives honest c xs ys) where
  pub asked-same : (d : Class) → IsSameSource honest (held_of xs d) (held_of ys d)
  asked-same d = elim asked [
    | inl e ↦ subst (λ (os : List (Option (OpenTable S))). IsSameSource honest (held_of xs d) (held_of os d)) (sym e) (same_refl honest (held_of xs d))
    | inr a ↦ subst (λ (os : List (Option (OpenTable S))). IsSameSource honest (held_of xs d) (held_of os d)) (sym a.is)
        (same_after honest xs c d a.before a.after a.small a.was a.header a.honest_alike)
  ]

  same_held : (d : Class) (h k : OpenTable S) → held_of xs d ≡ Some h → held_of xs d ≡ Some k → h ≡ k
  same_held d h k was now = one_held gives xs d d h k was refl now

  pub asked-alike : (d : Class) (h k : OpenTable S) → held_of xs d ≡ Some h → held_of ys d ≡ Some k → GiveAlike gives h.source k.source
  asked-alike d h k was now = elim asked [
    | inl e ↦
        let one : h ≡ k = same_held d h k was (ap (λ (os : List (Option (OpenTable S))). held_of os d) (sym e) ∙ now) in
        subst (λ (x : OpenTable S). GiveAlike gives h.source x.source) one (give_refl gives h.source)
    | inr a ↦ alike_after gives xs c d a.before a.after h k a.small a.was a.give_alike was
        (ap (λ (os : List (Option (OpenTable S))). held_of os d) (sym a.is) ∙ now)
  ]

  pub asked-held : (d : Class) → is_some (held_of ys d) ≡ is_some (held_of xs d)
  asked-held d = same_tables honest xs ys d (asked-same d)

  pub asked-right : SourcesAreRight honest xs → SourcesAreRight honest ys
  asked-right right = stays_right honest xs ys asked-same right

  module _ {V : Type 0} (cells : V → List ℕ) (kept : List (PageKey × V)) where
    pub asked-kept : IsKept honest cells xs kept → IsKept honest cells ys kept
    asked-kept was = elim asked [
      | inl e ↦ subst (λ (os : List (Option (OpenTable S))). IsKept honest cells os kept) (sym e) was
      | inr a ↦ subst (λ (os : List (Option (OpenTable S))). IsKept honest cells os kept) (sym a.is)
          (kept_after honest cells xs kept kept c a.before a.after was a.small a.was a.header a.honest_alike (λ e i. inl i))
    ]

    pub asked-given : IsKept honest cells xs kept → AreGiven gives cells xs kept → AreGiven gives cells ys kept
    asked-given held was = elim asked [
      | inl e ↦ subst (λ (os : List (Option (OpenTable S))). AreGiven gives cells os kept) (sym e) was
      | inr a ↦ subst (λ (os : List (Option (OpenTable S))). AreGiven gives cells os kept) (sym a.is)
          (given_after gives cells xs kept kept c a.before a.after was a.small a.was (held.header c a.before a.was).class a.header a.give_alike (λ e i. inl i))
    ]

-- ---- the answer

module _ {S : Type 0} (honest : HonestOf S) (xs : List (Option (OpenTable S))) (c : Class) (n : ℕ) (cells : List ℕ) (r : Result (Unit {0}) ProbeFault)
    (none : (d : Class) → IsErrOf r (NoTable d) ↔ ((d ≡ c) × (held_of xs c ≡ None))) where
  -- over right sources the cells that are read encode the game's values
  pub read-values : SourcesAreRight honest xs
      → ((h : OpenTable S) (t : Table) → held_of xs c ≡ Some h → honest h.source t h.header.version → t.class ≡ c → OnOk r (cells ≡ cells_on_page t n))
      → OnOk r (AreValuesOf c n cells)
  read-values right reported = by_source (held_of xs c) refl
    where
      valued : (s : Result (Unit {0}) ProbeFault) (t : Table) → t.class ≡ c → IsComplete t → IsRight t → OnOk s (cells ≡ cells_on_page t n)
          → OnOk s (AreValuesOf c n cells)
      valued (Ok x) t of complete sound e = page_values t c n cells of complete sound e
      valued (Err f) t of complete sound e = tt

      refused : (s : Result (Unit {0}) ProbeFault) → IsErrOf s (NoTable c) → OnOk s (AreValuesOf c n cells)
      refused (Ok x) e = absurd (let no : ⊥ = cc in no)
      refused (Err f) e = tt

      by_source : (o : Option (OpenTable S)) → held_of xs c ≡ o → OnOk r (AreValuesOf c n cells)
      by_source None e = refused r ((none c).1 (refl, e))
      by_source (Some h) e =
          let g = right.right c h e in
          valued r g.table g.of_class g.complete g.right (reported h g.table e g.is_honest g.of_class)

  -- nor is a page damaged
  pub read-whole : SourcesAreRight honest xs
      → ((h : OpenTable S) (t : Table) → held_of xs c ≡ Some h → honest h.source t h.header.version → t.class ≡ c → IsComplete t
      → (d : Class) (m : ℕ) → IsErrOf r (PageDamaged d m) → ⊥)
      → IfErr r IsNotDamage
  read-whole right whole = by_source (held_of xs c) refl
    where
      undamaged : (s : Result (Unit {0}) ProbeFault) → ((d : Class) (m : ℕ) → IsErrOf s (PageDamaged d m) → ⊥) → IfErr s IsNotDamage
      undamaged (Ok x) h = tt
      undamaged (Err (NoTable d)) h = tt
      undamaged (Err (TableRead f)) h = tt
      undamaged (Err (PageDamaged d m)) h = h d m refl

      refused : (s : Result (Unit {0}) ProbeFault) → IsErrOf s (NoTable c) → IfErr s IsNotDamage
      refused (Ok x) e = tt
      refused (Err (NoTable d)) e = tt
      refused (Err (TableRead f)) e = tt
      refused (Err (PageDamaged d m)) e = absurd (let no : ⊥ = cc in no)

      by_source : (o : Option (OpenTable S)) → held_of xs c ≡ o → IfErr r IsNotDamage
      by_source None e = refused r ((none c).1 (refl, e))
      by_source (Some h) e = let g = right.right c h e in undamaged r (whole h g.table e g.is_honest g.of_class g.complete)

  -- a fault is one that the source of the class may return
  pub read-fails : (gives : GivesOf S) (f : SourceFault) → n < pages_of c
      → ((h : OpenTable S) (e : SourceFault) → held_of xs c ≡ Some h → IsErrOf r (TableRead e) → gives h.source (of_page n) (Err e))
      → IsErrOf r (TableRead f) → MayFail gives (held_of xs c) c f
  read-fails gives f inside unread reported = by_source (held_of xs c) refl
    where
      refused : (s : Result (Unit {0}) ProbeFault) → IsErrOf s (NoTable c) → IsErrOf s (TableRead f) → ⊥
      refused s e g = let no : ⊥ = cc in no

      by_source : (o : Option (OpenTable S)) → held_of xs c ≡ o → MayFail gives o c f
      by_source None e = absurd (refused r ((none c).1 (refl, e)) reported)
      by_source (Some h) e = (n, inside, unread h f e reported)

-- ---- whole tables

-- no table of the class is loaded
pub none-table : (held : List (Option Table)) (c d : Class) → None ≡ table_of held c
    → IsErrOf {T = Unit {0}} (Err (NoTable c)) (NoTable d) ↔ ((d ≡ c) × (is_some (table_of held c) ≡ false))
none-table held c d none = (
  (λ e. ((let same : d ≡ c = cc in same), sym (ap (λ (o : Option Table). is_some o) none))),
  (λ h. ap (λ (k : Class). Err (NoTable k)) (sym h.0)),
)

pub some-table : (held : List (Option Table)) (c d : Class) (t : Table) → Some t ≡ table_of held c
    → IsErrOf {E = ProbeFault} (Ok (tt {0})) (NoTable d) ↔ ((d ≡ c) × (is_some (table_of held c) ≡ false))
some-table held c d t some = (
  (λ e. absurd (let no : ⊥ = cc in no)),
  (λ h. absurd (false≢true (sym h.1 ∙ ap (λ (o : Option Table). is_some o) (sym some)))),
)

-- the same answer
pub no-table-by : (r s : Result (Unit {0}) ProbeFault) (d : Class) (A : Type 0) → r ≡ s → IsErrOf s (NoTable d) ↔ A → IsErrOf r (NoTable d) ↔ A
no-table-by r s d A e h = subst (λ (x : Result (Unit {0}) ProbeFault). IsErrOf x (NoTable d) ↔ A) (sym e) h

-- a device fails only where a table is loaded
pub no-table-failed : (b : Bool) (c d : Class) (f : SourceFault) → b ≡ true → IsErrOf {T = Unit {0}} (Err (TableRead f)) (NoTable d) ↔ ((d ≡ c) × (b ≡ false))
no-table-failed b c d f held = ((λ e. absurd (let no : ⊥ = cc in no)), (λ h. absurd (false≢true (sym h.1 ∙ held))))

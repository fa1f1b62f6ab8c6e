-- The source after a probe that called it.
use Rattle.std.proofs.Common.{◌≡◌, ℕ, ◌<◌, List, length, set, get_or, refl, sym, ap, ◌∙◌, subst}
use Rattle.std.specs.Prelude.{Option, Some, Result, Ok, Err, IfOk, IsErrOf}
use Rattle.study_board.specs.Position.{Position, IsValid}
use Rattle.study_material.specs.declared.class.Class.{Class}
use Rattle.study_material.specs.Class.{IsOf}
use Rattle.study_values.specs.Number.{IsIndex, cells_of}
use Rattle.study_values.specs.Index.{index_of}
use Rattle.study_index.proofs.ClassLaws.{below, numbered}
use Rattle.study_values.specs.declared.value.Value.{Value}
use Rattle.study_values.specs.Cells.{value_of}
use Rattle.study_values.specs.Game.{IsValueOf}
use Rattle.study_table.specs.Sound.{IsRight}
use Rattle.study_material.specs.Class.{class_number}
use Rattle.study_table.specs.Table.{Table, IsComplete}
use Rattle.study_table.proofs.SoundLemmas.{at_value}
use Rattle.study_tablefile.specs.declared.page_source.Header.{Header}
use Rattle.study_prober.specs.declared.page_cache.PageKey.{PageKey}
use Rattle.study_prober.specs.declared.open_table.OpenTable.{OpenTable}
use Rattle.study_values.specs.declared.values.ProbeFault.{ProbeFault}
use Rattle.study_values.specs.declared.values.ProbeFault.TheVariants.{PageDamaged}
use Rattle.study_prober.specs.Sources.{IsHeaderOf, AreOf}
use Rattle.study_prober.specs.PagedTables.{held_of, IsKept, SourcesAreRight}
use Rattle.study_prober.proofs.HeldSources.{held_same, some_same}

-- the index of a position is below the cells of its class
pub number_in : (h : Header) (c : Class) (p : Position) (n : ℕ) → IsHeaderOf h c → IsValid p → IsOf c p → IsIndex p n → n < cells_of h.class
number_in h c p n header valid of is =
    let r = numbered c p n valid of is in
    rw header.class (below c n r.0 r.1)

module _ {S : Type 0} where
  -- two sources of one class are the same
  same_held : (xs : List (Option (OpenTable S))) (c d : Class) (h k : OpenTable S) → held_of xs c ≡ Some h → d ≡ c → held_of xs d ≡ Some k → k ≡ h
  same_held xs c d h k is same held = some_same k h (sym held ∙ ap (λ (x : Class). held_of xs x) same ∙ is)

  module _ (honest : S → Table → ℕ → Type 0) {V : Type 0} (cells : V → List ℕ) (xs : List (Option (OpenTable S)))
      (kept : List (PageKey × V)) (c d : Class) where
    pub value_at_index : (p : Position) (h k : OpenTable S) (t : Table) (n : ℕ) (r : Result Value ProbeFault)
        → IsKept honest cells xs kept → held_of xs c ≡ Some h → d ≡ c → held_of xs d ≡ Some k
        → honest k.source t k.header.version → t.class ≡ d
        → n ≡ index_of p → ((u : Table) → honest h.source u h.header.version → u.class ≡ h.header.class
        → AreOf cells kept u → IfOk r (λ v. v ≡ value_of (get_or u.cells n 0)))
        → IfOk r (λ v. v ≡ value_of (get_or t.cells (index_of p) 0))
    value_at_index p h k t n r was is same held gives of e ok =
        let gives_h : honest h.source t h.header.version =
        subst (λ (x : OpenTable S). honest x.source t x.header.version) (same_held xs c d h k is same held)
        gives in
        let of_c : t.class ≡ c = of ∙ same in
        subst (λ (m : ℕ). IfOk r (λ v. v ≡ value_of (get_or t.cells m 0))) e
        (ok t gives_h (of_c ∙ sym (was.header c h is).class) (was.right c h t is gives_h of_c))

    pub whole_at : (h k : OpenTable S) (t : Table) (n : ℕ) (r : Result Value ProbeFault)
        → IsKept honest cells xs kept → held_of xs c ≡ Some h → d ≡ c → held_of xs d ≡ Some k
        → honest k.source t k.header.version → t.class ≡ d → IsComplete t
        → ((u : Table) → honest h.source u h.header.version → u.class ≡ h.header.class → IsComplete u
        → (b : Class) (m : ℕ) → IsErrOf r (PageDamaged b m) → ⊥) → IsErrOf r (PageDamaged d n) → ⊥
    whole_at h k t n r was is same held gives of complete whole reported =
        whole t
        (subst (λ (x : OpenTable S). honest x.source t x.header.version) (same_held xs c d h k is same held)
        gives) (of ∙ same ∙ sym (was.header c h is).class) complete d n reported

  -- a count of the source of a class, before and after the source at a place was called
  pub count_at : (count : S → ℕ) (step : ℕ → ℕ) (xs : List (Option (OpenTable S))) (c d : Class) (i : ℕ)
      (h before k after : OpenTable S) → i ≡ class_number c → class_number c < length xs
      → held_of xs c ≡ Some h → d ≡ c
      → held_of xs d ≡ Some before → held_of (set xs i (Some k)) d ≡ Some after
      → count k.source ≡ step (count h.source) → count after.source ≡ step (count before.source)
  count_at count step xs c d i h before k after at small is same was now counts =
      let one : before ≡ h = same_held xs c d h before is same was in
      let place : held_of (set xs (class_number c) (Some k)) c ≡ Some after =
      ap (λ (x : Class). held_of (set xs (class_number c) (Some k)) x) (sym same)
      ∙ ap (λ (m : ℕ). held_of (set xs m (Some k)) d) (sym at) ∙ now in
      let new : k ≡ after = some_same k after (sym (held_same xs c (Some k) small) ∙ place) in
      rw one (subst (λ (x : OpenTable S). count x.source ≡ step (count h.source)) new counts)

value_right : (t : Table) (c : Class) (p : Position) (r : Result Value ProbeFault) → t.class ≡ c → IsComplete t
    → IsRight t → IsValid p → IsOf c p → IfOk r (λ v. v ≡ value_of (get_or t.cells (index_of p) 0))
    → IfOk r (IsValueOf p)
value_right t c p (Ok v) of complete right valid is reported = at_value t p v complete valid (subst (λ (x : Class). IsOf x p) (sym of) is) reported right
value_right t c p (Err fault) of complete right valid is reported = reported

-- if all sources are right, a value is the game's
pub game_at : {S V : Type 0} (honest : S → Table → ℕ → Type 0) (cells : V → List ℕ)
    (xs : List (Option (OpenTable S))) (kept : List (PageKey × V)) (c : Class) (p : Position) (h : OpenTable S)
    (n : ℕ) (r : Result Value ProbeFault)
    → IsKept honest cells xs kept → held_of xs c ≡ Some h → IsValid p → IsOf c p → n ≡ index_of p
    → ((u : Table) → honest h.source u h.header.version → u.class ≡ h.header.class → AreOf cells kept u
    → IfOk r (λ v. v ≡ value_of (get_or u.cells n 0))) → SourcesAreRight honest xs → IfOk r (IsValueOf p)
game_at honest cells xs kept c p h n r was is valid of e ok right =
    let gives = right.right c h is in
    value_right gives.table c p r gives.of_class gives.complete gives.right valid of
    (value_at_index honest cells xs kept c c p h h gives.table n r was is refl is gives.is_honest gives.of_class e ok)

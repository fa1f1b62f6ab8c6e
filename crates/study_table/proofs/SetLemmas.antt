-- Sets of tables: the loaded tables after one is added, and the tables that a set lacks.
use Rattle.std.proofs.Common.{◌≡◌, ◌≢◌, ℕ, suc, zero, ◌<◌, Bool, true, false, List, [], ◌∷◌, length, drop, get_or, set}
use Rattle.std.proofs.Common.{Option, Some, None, refl, sym, ◌∙◌, ap, subst, arith, inl, inr, ◌⊎◌, cond, not}
use Rattle.std.specs.Prelude.{IsSome, is_some, replicate}
use Rattle.std.specs.List.{Contains}
use Rattle.std.proofs.Math.Seq.{drop-cons}
use Rattle.std.proofs.lemmas.List.{get_or-set_same, get_or-set_other, length-set}
use Rattle.std.proofs.lemmas.Bool.{false≢true}
use Rattle.study_material.specs.declared.class.Class.{Class}
use Rattle.study_material.specs.declared.class.Class.TheVariants.{KK, KQK, KRK, KBK, KNK, KPK, KQQK, KQRK, KQBK}
use Rattle.study_material.specs.declared.class.Class.TheVariants.{KQNK, KQPK, KRRK, KRBK, KRNK, KRPK, KBBK}
use Rattle.study_material.specs.declared.class.Class.TheVariants.{KBNK, KBPK, KNNK, KNPK, KPPK, KQKQ, KQKR}
use Rattle.study_material.specs.declared.class.Class.TheVariants.{KQKB, KQKN, KQKP, KRKR, KRKB, KRKN, KRKP}
use Rattle.study_material.specs.declared.class.Class.TheVariants.{KBKB, KBKN, KBKP, KNKN, KNKP, KPKP}
use Rattle.study_material.specs.Class.{class_list}
use Rattle.study_material.specs.Needs.{needs_of}
use Rattle.study_material.specs.Class.{class_number}
use Rattle.study_table.specs.Table.{Table, IsComplete, table_of, IsReady, IsClosed}
use Rattle.study_table.specs.TableSet.{first_missing}

class_at_place : (c : Class) → get_or class_list (class_number c) KK ≡ c
class_at_place KK = refl
class_at_place KQK = refl
class_at_place KRK = refl
class_at_place KBK = refl
class_at_place KNK = refl
class_at_place KPK = refl
class_at_place KQQK = refl
class_at_place KQRK = refl
class_at_place KQBK = refl
class_at_place KQNK = refl
class_at_place KQPK = refl
class_at_place KRRK = refl
class_at_place KRBK = refl
class_at_place KRNK = refl
class_at_place KRPK = refl
class_at_place KBBK = refl
class_at_place KBNK = refl
class_at_place KBPK = refl
class_at_place KNNK = refl
class_at_place KNPK = refl
class_at_place KPPK = refl
class_at_place KQKQ = refl
class_at_place KQKR = refl
class_at_place KQKB = refl
class_at_place KQKN = refl
class_at_place KQKP = refl
class_at_place KRKR = refl
class_at_place KRKB = refl
class_at_place KRKN = refl
class_at_place KRKP = refl
class_at_place KBKB = refl
class_at_place KBKN = refl
class_at_place KBKP = refl
class_at_place KNKN = refl
class_at_place KNKP = refl
class_at_place KPKP = refl

pub class_number-injective : (c d : Class) → class_number c ≡ class_number d → c ≡ d
class_number-injective c d e = sym (class_at_place c) ∙ ap (λ (n : ℕ). get_or class_list n KK) e ∙ class_at_place d

same_class : (c d : Class) → (c ≡ d) ⊎ (class_number c ≢ class_number d)
same_class c d = elim (same_number (class_number c) (class_number d)) [ inl e ↦ inl (class_number-injective c d e) | inr f ↦ inr f ]
  where
    same_number : (n m : ℕ) → (n ≡ m) ⊎ (n ≢ m)
    same_number n m = grind arith

pub some-is : {X : Type 0} (o : Option X) → IsSome o → (x : X) × (o ≡ Some x)
some-is None h = absurd (false≢true h)
some-is (Some x) h = (x, refl)

module _ (held : List (Option Table)) where
  pub first_missing-here : (xs : List Class) (i : ℕ) (d : Class) → i < length xs
      → is_some (table_of held (get_or xs i d)) ≡ false → first_missing held (drop i xs) ≡ Some (get_or xs i d)
  first_missing-here xs i d l e = rw (drop-cons xs i d l, e) refl

  by_held : (c : Class) (cs : List Class) → (first_missing held (c ∷ cs) ≡ None) → (is_some (table_of held c) ≡ true) × (first_missing held cs ≡ None)
  by_held c cs e = go (is_some (table_of held c)) refl e
    where
      go : (b : Bool) → is_some (table_of held c) ≡ b → cond b (first_missing held cs) (Some c) ≡ None
          → (is_some (table_of held c) ≡ true) × (first_missing held cs ≡ None)
      go true f k = (f, k)
      go false f k = absurd (let no : ⊥ = cc in no)

  at_head : (c d : Class) (cs : List Class) → is_some (table_of held c) ≡ true → ((k : ℕ) → k < length cs → get_or cs k d ≡ d → IsSome (table_of held d))
      → (i : ℕ) → i < length (c ∷ cs) → get_or (c ∷ cs) i d ≡ d → IsSome (table_of held d)
  at_head c d cs s rest zero l f = subst (λ (x : Class). IsSome (table_of held x)) f s
  at_head c d cs s rest (suc i) l f = rest i (omega arith) f

  -- if nothing is missing, the table of each class is loaded
  pub first_missing-none : (xs : List Class) → first_missing held xs ≡ None → (d : Class) → Contains xs d → IsSome (table_of held d)
  first_missing-none [] e d h = absurd (omega (arith, h.1))
  first_missing-none (c ∷ cs) e d h = let p = by_held c cs e in at_head c d cs p.0 (λ k l f. first_missing-none cs p.1 d (k, l, f)) h.0 h.1 h.2

  pub first_missing-ready : (xs : List Class) → ((d : Class) → Contains xs d → IsSome (table_of held d)) → first_missing held xs ≡ None
  first_missing-ready [] h = refl
  first_missing-ready (c ∷ cs) h =
      let first : is_some (table_of held c) ≡ true = h c (zero, omega arith, refl) in
      rw first (first_missing-ready cs (λ d k. h d (suc k.0, omega (arith, k.1), k.2)))

-- a table put at the place of its class
module _ (held : List (Option Table)) (t : Table) (closed : IsClosed held) where
  after : List (Option Table)
  after = set held (class_number t.class) (Some t)

  small : (c : Class) → class_number c < length held
  small KK = rw closed.places (omega arith)
  small KQK = rw closed.places (omega arith)
  small KRK = rw closed.places (omega arith)
  small KBK = rw closed.places (omega arith)
  small KNK = rw closed.places (omega arith)
  small KPK = rw closed.places (omega arith)
  small KQQK = rw closed.places (omega arith)
  small KQRK = rw closed.places (omega arith)
  small KQBK = rw closed.places (omega arith)
  small KQNK = rw closed.places (omega arith)
  small KQPK = rw closed.places (omega arith)
  small KRRK = rw closed.places (omega arith)
  small KRBK = rw closed.places (omega arith)
  small KRNK = rw closed.places (omega arith)
  small KRPK = rw closed.places (omega arith)
  small KBBK = rw closed.places (omega arith)
  small KBNK = rw closed.places (omega arith)
  small KBPK = rw closed.places (omega arith)
  small KNNK = rw closed.places (omega arith)
  small KNPK = rw closed.places (omega arith)
  small KPPK = rw closed.places (omega arith)
  small KQKQ = rw closed.places (omega arith)
  small KQKR = rw closed.places (omega arith)
  small KQKB = rw closed.places (omega arith)
  small KQKN = rw closed.places (omega arith)
  small KQKP = rw closed.places (omega arith)
  small KRKR = rw closed.places (omega arith)
  small KRKB = rw closed.places (omega arith)
  small KRKN = rw closed.places (omega arith)
  small KRKP = rw closed.places (omega arith)
  small KBKB = rw closed.places (omega arith)
  small KBKN = rw closed.places (omega arith)
  small KBKP = rw closed.places (omega arith)
  small KNKN = rw closed.places (omega arith)
  small KNKP = rw closed.places (omega arith)
  small KPKP = rw closed.places (omega arith)

  held_same : table_of after t.class ≡ Some t
  unfolding after
  held_same = get_or-set_same held (class_number t.class) (Some t) None (small t.class)

  held_other : (c : Class) → class_number c ≢ class_number t.class → table_of after c ≡ table_of held c
  unfolding after
  held_other c f = get_or-set_other held (class_number t.class) (class_number c) (Some t) None f

  -- loaded tables stay loaded
  held_stays : (c : Class) → IsSome (table_of held c) → IsSome (table_of after c)
  held_stays c h = elim (same_class c t.class) [
    | inl e ↦ subst (λ (x : Class). IsSome (table_of after x)) (sym e) (rw held_same refl)
    | inr f ↦ rw (held_other c f) h
  ]

  of_new : (c : Class) (u : Table) → table_of after c ≡ Some u → ((c ≡ t.class) × (u ≡ t)) ⊎ (table_of held c ≡ Some u)
  of_new c u h = elim (same_class c t.class) [
    | inl e ↦ inl (
      e,
      let k : table_of after c ≡ Some t = subst (λ (x : Class). table_of after x ≡ Some t) (sym e)
          held_same in let s : Some u ≡ Some t = sym h ∙ k in cc,
    )
    | inr f ↦ inr (sym (held_other c f) ∙ h)
  ]

  pub closed_after : IsComplete t → first_missing held (needs_of t.class) ≡ None → IsClosed (set held (class_number t.class) (Some t))
  unfolding after
  closed_after complete none = record {
    places = length-set held (class_number t.class) (Some t) ∙ closed.places;
    class = λ c u h. elim (of_new c u h) [ inl w ↦ ap (λ (x : Table). x.class) w.1 ∙ sym w.0 | inr k ↦ closed.class c u k ];
    complete = λ c u h. elim (of_new c u h) [ inl w ↦ subst IsComplete (sym w.1) complete | inr k ↦ closed.complete c u k ];
    ready = λ c h d n. held_stays d (elim (same_class c t.class) as (λ _. IsSome (table_of held d)) [
      | inl e ↦ first_missing-none held (needs_of t.class) none d (subst (λ (x : Class). Contains (needs_of x) d) e n)
      | inr f ↦ closed.ready c (subst (λ (o : Option Table). IsSome o) (held_other c f) h) d n
    ]);
  }

pub empty_set : (c : Class) → table_of (replicate 36 None) c ≡ None
empty_set KK = refl
empty_set KQK = refl
empty_set KRK = refl
empty_set KBK = refl
empty_set KNK = refl
empty_set KPK = refl
empty_set KQQK = refl
empty_set KQRK = refl
empty_set KQBK = refl
empty_set KQNK = refl
empty_set KQPK = refl
empty_set KRRK = refl
empty_set KRBK = refl
empty_set KRNK = refl
empty_set KRPK = refl
empty_set KBBK = refl
empty_set KBNK = refl
empty_set KBPK = refl
empty_set KNNK = refl
empty_set KNPK = refl
empty_set KPPK = refl
empty_set KQKQ = refl
empty_set KQKR = refl
empty_set KQKB = refl
empty_set KQKN = refl
empty_set KQKP = refl
empty_set KRKR = refl
empty_set KRKB = refl
empty_set KRKN = refl
empty_set KRKP = refl
empty_set KBKB = refl
empty_set KBKN = refl
empty_set KBKP = refl
empty_set KNKN = refl
empty_set KNKP = refl
empty_set KPKP = refl

pub empty-closed : IsClosed (replicate 36 None)
empty-closed = record {
  places = refl;
  class = λ c t h. absurd (none_some t (sym (empty_set c) ∙ h));
  complete = λ c t h. absurd (none_some t (sym (empty_set c) ∙ h));
  ready = λ c h. absurd (false≢true (sym (ap (λ (o : Option Table). is_some o) (empty_set c)) ∙ h));
}
  where
    none_some : (t : Table) → ◌≡◌ {A = Option Table} None (Some t) → ⊥
    none_some t e = cc

false_from : (b r : Bool) → (b ≡ true → r ≡ true) → r ≡ false → b ≡ false
false_from true r h e = absurd (false≢true (sym e ∙ h refl))
false_from false r h e = refl

pub missing_found : (held : List (Option Table)) (xs ys : List Class) (i : ℕ) (d : Class) (r : Bool) → ys ≡ xs
    → i < length ys → (IsSome (table_of held (get_or ys i d)) → r ≡ true) → r ≡ false
    → first_missing held ys ≡ first_missing held (drop i ys) → Some (get_or ys i d) ≡ first_missing held xs
missing_found held xs ys i d r e l h f k = subst (λ (zs : List Class). Some (get_or ys i d) ≡ first_missing held zs)
    e (sym (k ∙ first_missing-here held ys i d l (false_from (is_some (table_of held (get_or ys i d))) r h f)))

pub ready_where : (held : List (Option Table)) (c : Class) (o : Option Class) (r : Bool)
    → o ≡ first_missing held (needs_of c) → is_some o ≡ not r → (r ≡ true → IsReady held c)
    × (IsReady held c → r ≡ true)
ready_where held c None true e f = (λ _. first_missing-none held (needs_of c) (sym e), λ _. refl)
ready_where held c None false e f = absurd (false≢true f)
ready_where held c (Some d) true e f = absurd (false≢true (sym f))
ready_where held c (Some d) false e f = (
  λ h. absurd (false≢true h),
  λ h. absurd (let k : Some d ≡ None = e ∙ first_missing-ready held (needs_of c) h in
      let no : ⊥ = cc in no),
)

pub closed_with : (held : List (Option Table)) (t : Table) (place : ℕ) (o : Option Class) → IsClosed held
    → IsComplete t → place ≡ class_number t.class → o ≡ first_missing held (needs_of t.class) → o ≡ None
    → IsClosed (set held place (Some t))
closed_with held t place o closed complete e f n = rw e (closed_after held t closed complete (sym f ∙ n))

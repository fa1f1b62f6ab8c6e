-- The value of a position in the table of its class, and when there is no such table.
use Rattle.std.proofs.Common.{◌≡◌, ℕ, zero, suc, ◌≤◌, inl, inr, false, List, [], ◌∷◌, length, set, Option}
use Rattle.std.proofs.Common.{Some, None, Result, Ok, Err, OnOk, OnErr, refl, sym, ◌∙◌, subst, ap, arith}
use Rattle.std.proofs.lemmas.List.{get_or-set_same, get_or-set_other}
use Rattle.std.specs.Prelude.{is_some, IsErrOf}
use Rattle.std.proofs.lemmas.Bool.{false≢true, cases_lt}
use Rattle.study_board.specs.Position.{Position}
use Rattle.study_material.specs.declared.class.Class.{Class}
use Rattle.study_material.specs.Class.{IsOf}
use Rattle.study_material.proofs.Classes.{lists_of-injective}
use Rattle.study_values.specs.declared.value.Value.{Value}
use Rattle.study_material.specs.Class.{class_number}
use Rattle.study_table.specs.Table.{Table, table_of, IsClosed}
use Rattle.study_table.specs.Sound.{IsRight}
use Rattle.study_values.specs.Values.{ProbeAnswer}
use Rattle.study_prober.specs.WholeTables.{TablesAreRight, IsCellAnswer, cell_answer}
use Rattle.study_prober.proofs.HeldSources.{same_class}
use Rattle.study_values.specs.declared.values.ProbeFault.{ProbeFault}
use Rattle.study_values.specs.declared.values.ProbeFault.TheVariants.{NoTable}

pub one_class : (c d : Class) (p : Position) → IsOf c p → IsOf d p → c ≡ d
one_class c d p h k = lists_of-injective c d (h ∙ sym k)

pub table_class : (held : List (Option Table)) (d : Class) (p : Position) (t : Table) → IsClosed held → IsOf d p → Some t ≡ table_of held d → IsOf t.class p
table_class held d p t closed is e = subst (λ (k : Class). IsOf k p) (sym (closed.class d t (sym e))) is

-- a class has one table
pub same_table : (held : List (Option Table)) (c d : Class) (t u : Table) → c ≡ d → Some u ≡ table_of held d → table_of held c ≡ Some t → u ≡ t
same_table held c d t u same found is = let one : ◌≡◌ {A = Option Table} (Some u) (Some t) = found ∙ ap (λ (k : Class). table_of held k) (sym same) ∙ is in cc

-- no table of the position's class is loaded
pub none_held : (held : List (Option Table)) (d c : Class) (p : Position) → IsOf d p → None ≡ table_of held d
    → (IsErrOf {T = Value} (Err (NoTable d)) (NoTable c) → IsOf c p × (is_some (table_of held c) ≡ false))
    × (IsOf c p × (is_some (table_of held c) ≡ false) → IsErrOf {T = Value} (Err (NoTable d)) (NoTable c))
none_held held d c p is none = (
  λ e.
      (let same : d
      ≡ c = cc in (
        subst (λ (k : Class). IsOf k p) same is,
        sym (ap (λ (o : Option Table). is_some o) (none ∙ ap (λ (k : Class). table_of held k) same)),
      )),
  λ h. (let same : d ≡ c = one_class d c p is h.0 in ap (λ (k : Class). Err (NoTable k)) same),
)

pub some_held : (held : List (Option Table)) (d c : Class) (p : Position) (t : Table) (v : Value) → IsOf d p → Some t ≡ table_of held d
    → (IsErrOf {E = ProbeFault} (Ok v) (NoTable c) → IsOf c p × (is_some (table_of held c) ≡ false))
    × (IsOf c p × (is_some (table_of held c) ≡ false) → IsErrOf {E = ProbeFault} (Ok v) (NoTable c))
some_held held d c p t v is some = (
  λ e. absurd (let no : ⊥ = cc in no),
  λ h. absurd
      (false≢true
      (sym h.1 ∙ ap (λ (o : Option Table). is_some o)
      (ap (λ (k : Class). table_of held k) (one_class c d p h.0 is) ∙ sym some))),
)

-- the answer of the table of its class is the answer for a position
pub answer_of_cell : (held : List (Option Table)) (d : Class) (p : Position) (o : Option Table) (r : ProbeAnswer)
    → IsOf d p → o ≡ table_of held d → r ≡ cell_answer o d p → IsCellAnswer held p r
answer_of_cell held d p o r is found reported = λ c of.
    reported ∙ ap (λ (x : Option Table). cell_answer x d p) found ∙ ap (λ (k : Class). cell_answer (table_of held k) k p) (one_class d c p is of)

set_past : {A : Type 0} (xs : List A) (i : ℕ) (x : A) → length xs ≤ i → set xs i x ≡ xs
set_past [] i x past = refl
set_past (y ∷ ys) zero x past = absurd (omega (arith, past))
set_past {A} (y ∷ ys) (suc i) x past = ap (λ (zs : List A). y ∷ zs) (set_past ys i x (omega (arith, past)))

right_set : (held : List (Option Table)) (t : Table) → TablesAreRight held → IsRight t → TablesAreRight (set held (class_number t.class) (Some t))
right_set held t all own = record {
  right = λ c u e. elim (same_class t.class c) [
    | inl same ↦ elim (cases_lt (class_number t.class) (length held)) [
      | inl small ↦
          let here : ◌≡◌ {A = Option Table} (Some t) (Some u) =
          sym (get_or-set_same held (class_number t.class) (Some t) None small)
          ∙ ap (λ (k : Class). table_of (set held (class_number t.class) (Some t)) k) same ∙ e in
          let one : t ≡ u = cc in
          subst IsRight one own
      | inr past ↦ all.right c u (sym (ap (λ (xs : List (Option Table)). table_of xs c) (set_past held (class_number t.class) (Some t) past)) ∙ e)
    ]
    | inr far ↦ all.right c u (sym (get_or-set_other held (class_number t.class) (class_number c) (Some t) None (λ i. far (sym i))) ∙ e)
  ];
}

-- a right table that is added to right ones
pub right_added : {T E : Type 0} (r : Result T E) (old new : List (Option Table)) (t : Table)
    → OnOk r (new ≡ set old (class_number t.class) (Some t)) → OnErr r (new ≡ old) → TablesAreRight old → IsRight t
    → TablesAreRight new
right_added (Ok x) old new t added same all own = subst TablesAreRight (sym added) (right_set old t all own)
right_added (Err e) old new t added same all own = subst TablesAreRight (sym same) all

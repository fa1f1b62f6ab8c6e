-- The place in which the builder finds the value of a position.
use Rattle.std.proofs.Common.{◌≡◌, ℕ, ◌<◌, inl, inr, true, false, List, slice_index, Option, Some, None, sym, ◌∙◌, subst, ap}
use Rattle.std.specs.Prelude.{IfSome, IfNone, IsSome, is_some}
use Rattle.std.proofs.lemmas.Bool.{false≢true, false_from_ne_true}
use Rattle.study_board.specs.Position.{Position, IsValid}
use Rattle.study_material.specs.declared.class.Class.{Class}
use Rattle.study_material.specs.Class.{IsOf}
use Rattle.study_material.specs.Needs.{LeadsOn}
use Rattle.study_material.proofs.Classes.{lists_of-injective}
use Rattle.study_values.specs.Number.{IsIndex, cells_of}
use Rattle.study_index.specs.Computed.{position_numbered}
use Rattle.study_values.specs.Index.{index_of}
use Rattle.study_index.specs.Decoded.{IsDecoded}
use Rattle.study_index.proofs.ComputedIndex.{index_of-only, decoded_of_numbered, numbered_of_decoded}
use Rattle.study_values.specs.declared.value.Value.{Value}
use Rattle.study_values.specs.Cells.{value_of}
use Rattle.study_table.specs.Table.{Table, table_of, IsReady, IsClosed}
use Rattle.study_material.specs.Class.{is_of}
use Rattle.study_material.proofs.Classes.{IsOf-is_of, is_of-IsOf}
use Rattle.study_table.specs.Game.{value_in}
use Rattle.study_table.proofs.ClassLemmas.{some_or_none}
use Rattle.study_table.proofs.ChessClass.{chess_class, value_in-held}

pub decode_at : (c : Class) (n : ℕ) (o : Option Position) → IfSome o (λ q. IsDecoded c n q)
    → IfNone o ((q : Position) → IsDecoded c n q → ⊥) → o ≡ position_numbered c n
decode_at c n (Some q) h k = sym (numbered_of_decoded c n q h)
decode_at c n None h k = elim (some_or_none (position_numbered c n)) [ inl s ↦ absurd (k s.0 (decoded_of_numbered c n s.0 s.1)) | inr e ↦ sym e ]

one_class : (c d : Class) (p : Position) → IsOf c p → IsOf d p → c ≡ d
one_class c d p h k = lists_of-injective c d (h ∙ sym k)

module _ (held : List (Option Table)) (c d : Class) (p : Position) (closed : IsClosed held) (is : IsOf d p) where
  pub place_home : (n : ℕ) → IsValid p → d ≡ c → IsIndex p n → (is_of c p ≡ true) × (index_of p ≡ n) × (n < cells_of c)
  place_home n valid same x =
      let home : IsOf c p = subst (λ (k : Class). IsOf k p) same is in
      let laws = chess_class c held closed in
      let q = laws.numbered p (record { valid = valid; of_class = inl home }) (is_of-IsOf c p home) in
      let small = laws.below (index_of p) q.0 q.1 in
      let number : index_of p ≡ n = sym (index_of-only p n valid x) in
      (is_of-IsOf c p home, number, subst (λ (m : ℕ). m < cells_of c) number small)

  pub place_away : (d ≡ c → ⊥) → is_of c p ≡ false
  place_away other = false_from_ne_true (is_of c p) (λ h. other (one_class d c p is (IsOf-is_of c p h)))

  pub table_class : (t : Table) → Some t ≡ table_of held d → IsOf t.class p
  table_class t e = subst (λ (k : Class). IsOf k p) (sym (closed.class d t (sym e))) is

  pub table_value : (t : Table) (v : Value) → Some t ≡ table_of held d → v ≡ value_of (slice_index t.cells (index_of p)) → value_in held p ≡ v
  table_value t v e f = value_in-held held d t p is (sym e) ∙ sym f

  pub table_held : (d ≡ c → ⊥) → IsReady held c → LeadsOn c p → None ≡ table_of held d → ⊥
  table_held other ready known none = elim known.of_class [
    | inl h ↦ other (one_class d c p is h)
    | inr h ↦
        let same : h.0 ≡ d = one_class h.0 d p h.2 is in
        let there : is_some (table_of held d) ≡ true = subst (λ (k : Class). IsSome (table_of held k)) same (ready h.0 h.1) in
        false≢true (ap (λ (o : Option Table). is_some o) none ∙ there)
  ]

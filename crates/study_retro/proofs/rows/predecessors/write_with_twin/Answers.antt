use Rattle.std.proofs.Common.{◌≡◌, ◌+◌, ◌<◌, ℕ, Some, inl, inr, sym, ◌∙◌, subst}
use Rattle.std.proofs.lemmas.Bool.{false≢true}
use Rattle.study_index.proofs.ClassLaws.{below}
use Rattle.study_index.proofs.ComputedIndex.{decoded_of_numbered}
use Rattle.study_index.specs.Computed.{position_numbered}
use Rattle.study_levels.specs.Propagation.{IsSetWhere}
use Rattle.study_retro.specs.RowBack.{IsItOrTwin}
use Rattle.study_retro.proofs.BackLemmas.{set-then, set-kept, set-why}
use Rattle.study_retro.proofs.rows.predecessors.write_with_twin.Goals as goal

pub write_cell-requires-then-has_en_passant-clause-number : goal.write_cell-requires-then-has_en_passant-clause-number
write_cell-requires-then-has_en_passant-clause-number g c =
    let p = c.has_en_passant.ensures.0 c.if-has_en_passant.true in
    subst (λ (m : ℕ). c.args.number + 16777216 < m) (sym (c.write_cell.ensures.size ∙ c.requires.cells))
    (below c.args.class (c.args.number + 16777216) p.0 (decoded_of_numbered c.args.class (c.args.number + 16777216) p.0 p.1))

pub returns-then-has_en_passant-clause-rise : goal.returns-then-has_en_passant-clause-rise
returns-then-has_en_passant-clause-rise g c =
    let cell = c.args.change.cell in
    let over = c.args.change.over in
    let k = c.args.number in
    let class = c.args.class in
    let p = c.has_en_passant.ensures.0 c.if-has_en_passant.true in
    let old = c.args.cells.now in
    let mid = c.write_cell.new.cells in
    let new = c.write_cell-then-has_en_passant.new.cells in
    set-then cell over (IsItOrTwin class k) old mid new
    (set-why cell over (λ i. i ≡ k) (IsItOrTwin class k) old mid (λ i e. inl e) c.write_cell.ensures.rise)
    (set-why cell over (λ i. i ≡ k + 16777216) (IsItOrTwin class k) mid new
    (λ i e. inr (e, (p.0, subst (λ (m : ℕ). position_numbered class m ≡ Some p.0) (sym e) p.1))) c.write_cell-then-has_en_passant.ensures.rise)

pub returns-else-has_en_passant-clause-rise : goal.returns-else-has_en_passant-clause-rise
returns-else-has_en_passant-clause-rise g c =
    set-why c.args.change.cell c.args.change.over (λ i. i ≡ c.args.number) (IsItOrTwin c.args.class c.args.number) c.args.cells.now c.write_cell.new.cells
    (λ i e. inl e) c.write_cell.ensures.rise

pub returns-then-has_en_passant-clause-done : goal.returns-then-has_en_passant-clause-done
returns-then-has_en_passant-clause-done g c = λ n w.
    let cell = c.args.change.cell in
    let over = c.args.change.over in
    let k = c.args.number in
    let mid = c.write_cell.new.cells in
    let new = c.write_cell-then-has_en_passant.new.cells in
    elim w [
      | inl e ↦ set-kept cell over (λ i. i ≡ k + 16777216) mid new c.write_cell-then-has_en_passant.ensures.rise c.requires.cell n
          (subst (λ (x : ℕ). IsSetWhere cell over mid x) (sym e) c.write_cell.ensures.done)
      | inr s ↦ subst (λ (x : ℕ). IsSetWhere cell over new x) (sym s.0) c.write_cell-then-has_en_passant.ensures.done
    ]

pub returns-else-has_en_passant-clause-done : goal.returns-else-has_en_passant-clause-done
returns-else-has_en_passant-clause-done g c = λ n w. elim w [
  | inl e ↦ subst (λ (x : ℕ). IsSetWhere c.args.change.cell c.args.change.over c.write_cell.new.cells x) (sym e) c.write_cell.ensures.done
  | inr s ↦ absurd (false≢true (sym c.if-has_en_passant.false
      ∙ c.has_en_passant.ensures.1 (s.1.0, subst (λ (x : ℕ). position_numbered c.args.class x ≡ Some s.1.0) s.0 s.1.1)))
]

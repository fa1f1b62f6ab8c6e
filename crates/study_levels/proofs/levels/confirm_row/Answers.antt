use Rattle.std.proofs.Common.{◌≡◌, ℕ, ◌+◌, ◌*◌, true, slice_index, Some, inl, inr, arith, sym, ◌∙◌, ap, subst}
use Rattle.std.proofs.lemmas.Bool.{false≢true}
use Rattle.study_board.specs.Sets.{has}
use Rattle.study_table.specs.Forced.{Mated}
use Rattle.study_levels.specs.Numbered.{leads_in}
use Rattle.study_table.proofs.ClassLemmas.{true_or_false}
use Rattle.study_levels.proofs.HeldLemmas.{lost-sound, lost-complete}
use Rattle.study_levels.proofs.SquaresLeft.{in-one, not-other, in-one-alone}
use Rattle.study_levels.proofs.levels.confirm_row.Goals as goal
use Rattle.study_levels.proofs.levels.confirm_row.Goals.{then-is_empty, else-is_empty}

pub lost_in_row-lost-requires-clause-numbered : goal.lost_in_row-lost-requires-clause-numbered
lost_in_row-lost-requires-clause-numbered g c = λ y on e.
    c.requires.numbered (64 * c.args.row + y) (λ z. let h = ((rw c.as_slice.ensures at c.row_with-candidates.ensures).here y on e).1 in omega (arith, h, z))

pub clear_in_row-requires-clause-squares : goal.clear_in_row-requires-clause-squares
clear_in_row-requires-clause-squares g c = λ y on e.
    ((rw c.as_slice.ensures at c.row_with-candidates.ensures).here y on (in-one _ _ (sym (c.without.ensures y on) ∙ e))).0

pub returns-clause-fall : goal.returns-clause-fall
returns-clause-fall g c =
    let same : c.if-is_empty.cells ≡ c.clear_in_row.new.cells = elim c.if-is_empty.branch [
      | then-is_empty w ↦ w.cells-is ∙ w.look_at.ensures
      | else-is_empty w ↦ w.cells-is
    ] in
    rw same (λ i. elim (c.clear_in_row.ensures.each i) [
      | inl e ↦ inl e
      | inr x ↦
          let w = x.0 in
          inr (
            ap (λ (j : ℕ). slice_index c.args.cells.now j) w.3
                ∙ ((rw c.as_slice.ensures at c.row_with-candidates.ensures).here w.0 w.1 (in-one _ _ (sym (c.without.ensures w.0 w.1) ∙ w.2))).1,
            x.1,
          )
    ])

pub returns-clause-other : goal.returns-clause-other
returns-clause-other g c =
    let same : c.if-is_empty.cells ≡ c.clear_in_row.new.cells = elim c.if-is_empty.branch [
      | then-is_empty w ↦ w.cells-is ∙ w.look_at.ensures
      | else-is_empty w ↦ w.cells-is
    ] in
    rw same (λ i out. elim (c.clear_in_row.ensures.each i) [
      | inl e ↦ e
      | inr x ↦ absurd (let on = x.0.1 in let is = x.0.3 in elim out [ inl l ↦ omega (arith, l, on, is) | inr l ↦ omega (arith, l, on, is) ])
    ])

pub returns-clause-lost : goal.returns-clause-lost
returns-clause-lost g c =
    let same : c.if-is_empty.cells ≡ c.clear_in_row.new.cells = elim c.if-is_empty.branch [
      | then-is_empty w ↦ w.cells-is ∙ w.look_at.ensures
      | else-is_empty w ↦ w.cells-is
    ] in
    rw same (λ outer tells y on p e o.
    let n = 64 * c.args.row + y in
    let k = c.args.level in
    let was : slice_index c.args.cells.now n ≡ k + 2 = elim (c.clear_in_row.ensures.each n) [
      | inl same ↦ sym same ∙ o
      | inr x ↦ absurd (let z = x.1 in omega (arith, z, o))
    ] in
    let low = c.requires.laws.below n p e in
    let here : has c.row_with-candidates.result y ≡ true =
    (rw c.as_slice.ensures at c.row_with-candidates.ensures).all y on (let s = c.requires.cells in omega (arith, low, s)) was in
    elim (true_or_false (has c.lost_in_row-lost.result y)) [
      | inr f ↦ absurd (
          let z = c.clear_in_row.ensures.done y on (c.without.ensures y on ∙ in-one-alone _ _ here f) in
          omega (arith, z, o))
      | inl t ↦
          let q = (rw c.as_slice-2.ensures at c.lost_in_row-lost.ensures).yes y on t in
          let d = c.requires.laws.decoded n q.0 q.1 in
          let m = lost-sound c.requires.laws c.args.cells.now outer k tells q.0 d.0 d.1 q.2 in
          subst (λ (x : g.row.G-Position.Denot). Mated (leads_in (g.G.Game.numbered c.args.game.now))
          (g.G.Game.numbered c.args.game.now).mate x (k + 1)) (let s : Some q.0 ≡ Some p = sym q.1 ∙ e in cc) m
    ])

pub returns-clause-kept : goal.returns-clause-kept
returns-clause-kept g c =
    let same : c.if-is_empty.cells ≡ c.clear_in_row.new.cells = elim c.if-is_empty.branch [
      | then-is_empty w ↦ w.cells-is ∙ w.look_at.ensures
      | else-is_empty w ↦ w.cells-is
    ] in
    rw same (λ outer tells y on p q e l o m.
    let n = 64 * c.args.row + y in
    let low = c.requires.laws.below n p e in
    let d = c.requires.laws.decoded n p e in
    let here : has c.row_with-candidates.result y ≡ true =
    (rw c.as_slice.ensures at c.row_with-candidates.ensures).all y on (let s = c.requires.cells in omega (arith, low, s)) o in
    elim (true_or_false (has c.lost_in_row-lost.result y)) [
      | inr f ↦ absurd ((rw c.as_slice-2.ensures at c.lost_in_row-lost.ensures).no y on here f p e
          (lost-complete c.requires.laws c.args.cells.now outer c.args.level tells p q d.0 d.1 l m))
      | inl t ↦ elim (c.clear_in_row.ensures.each n) [
        | inl same ↦ same ∙ o
        | inr x ↦ absurd (
            let w = x.0 in
            let is = w.3 in
            let same : w.0 ≡ y = omega (arith, is) in
            let f = not-other _ _ (sym (c.without.ensures w.0 w.1) ∙ w.2) in
            false≢true (sym f ∙ (ap (λ (x : ℕ). has c.lost_in_row-lost.result x) same ∙ t)))
      ]
    ])

use Rattle.std.proofs.Common.{◌≡◌, ℕ, ◌+◌, ◌*◌, slice_index, inl, inr, ap, sym, ◌∙◌, arith}
use Rattle.study_board.proofs.SquareLists.{first-of, none-of-empty}
use Rattle.study_levels.proofs.SquaresLeft.{still-among, taken-too}
use Rattle.study_levels.proofs.propagate.clear_in_row.Goals as goal

pub clear_cell-requires : goal.clear_cell-requires
clear_cell-requires g c =
    let f = first-of _ _ _ c.in-Some.ensures.steps in
    let inv = c.loop-square.invariant in
    let same : c.from.result ≡ c.in-Some.square = c.from.ensures ∙ c.number.ensures.value in
    let low = c.requires.squares c.in-Some.square f.inside (inv.among c.in-Some.square f.inside f.there) in
    omega (arith, same, low, inv.size)

pub loop-square-preserved : goal.loop-square-preserved
loop-square-preserved g c =
    let f = first-of _ _ _ c.in-Some.ensures.steps in
    let inv = c.loop-square.invariant in
    let x = c.in-Some.square in
    let set = c.loop-square.square-iterator in
    let new = c.clear_cell.new.cells in
    let number = 64 * c.args.row + c.from.result in
    let same : c.from.result ≡ x = c.from.ensures ∙ c.number.ensures.value in
    record {
      among = still-among c.args.squares set x c.next.new.self f inv.among;
      size = c.clear_cell.ensures.size ∙ inv.size;
      each = λ i. elim (c.clear_cell.ensures.each i) [
        | inl stays ↦ elim (inv.each i) [ inl before ↦ inl (stays ∙ before) | inr before ↦ inr (before.0, stays ∙ before.1) ]
        | inr here ↦ inr ((x, f.inside, inv.among x f.inside f.there, here.0 ∙ ap (λ (k : ℕ). 64 * c.args.row + k) same), here.1)
      ];
      done = taken-too c.args.squares set x c.next.new.self f (λ (y : ℕ). slice_index new (64 * c.args.row + y) ≡ 0)
          (λ y on e gone. elim (c.clear_cell.ensures.each (64 * c.args.row + y)) [
            | inl stays ↦ stays ∙ inv.done y on e gone
            | inr here ↦ here.1
          ])
          (ap (λ (k : ℕ). slice_index new (64 * c.args.row + k)) (sym same) ∙ c.clear_cell.ensures.here);
    }

pub returns-clause-done : goal.returns-clause-done
returns-clause-done g c = λ y on e. c.loop-square.invariant.done y on e (none-of-empty _ c.in-None.ensures.steps.0 y on)

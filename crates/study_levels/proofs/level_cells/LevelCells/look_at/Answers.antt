use Rattle.std.proofs.Common.{arith, ℕ, ◌*◌, ◌<◌, ◌≤◌, List, slice_index, ap, sym, length, subst}
use Rattle.std.proofs.Math.ListN.{length-set}
use Rattle.study_levels.proofs.BlockLemmas.{in_part}
use Rattle.study_levels.proofs.DueLemmas.{looked_at}
use Rattle.study_levels.proofs.level_cells.LevelCells.look_at.Goals as goal

pub invariant_of-self : goal.invariant_of-self
invariant_of-self g c =
    let inv = c.self.invariant in
    let cells = c.self.inside.cells.items in
    let row = c.args.row in
    let there : 64 * row < length cells = subst (λ (n : ℕ). 64 * row < n) (sym (ap length c.self.view_is)) c.requires in
    record {
      small = inv.small;
      rows = (let r = inv.rows in simp length-set r);
      bytes = inv.bytes;
      pending = looked_at c.self.inside.level c.self.inside.looked c.max-self-inside.result row c.least_above.result cells
          c.self.inside.due.items inv there (let e = c.max-self-inside.ensures in omega (arith, e)) (let e = c.max-self-inside.ensures in omega (arith, e))
          (λ i a b l h.
          let xs = c.as_slice.result.now in
          let level = c.saturating_add-level.result in
          let same = c.as_slice.ensures.value in
          let end = c.min-end.ensures in
          let far = c.saturating_add.ensures in
          let all = c.len-len.ensures in
          let in-reach : i < c.min-end.result = omega (arith, l, b, end, far, all) in
          let whole : c.min-end.result ≤ length xs = omega (arith, end, all, ap length same) in
          let high : level < slice_index xs i = subst (λ (ys : List ℕ). level < slice_index ys i) (sym same)
          (let e = c.saturating_add-level.ensures in omega (arith, e, h)) in
          subst (λ (ys : List ℕ). c.least_above.result < slice_index ys i) same
          (in_part xs (λ x. level < x → c.least_above.result < x) (64 * row) c.min-end.result i a in-reach whole c.least_above.ensures high));
    }

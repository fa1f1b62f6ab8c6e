use Rattle.std.proofs.Common.{arith, rules, ◌≤◌, ◌+◌, inl, inr}
use Rattle.study_levels.proofs.BlockLemmas.{in_part, below_or}
use Rattle.study_levels.proofs.level_cells.next_below.Goals as goal

pub loop-at-preserved : goal.loop-at-preserved
loop-at-preserved c =
    let inv = c.loop-at.invariant in
    let fits = c.loop-at-test.true in
    record {
      above = (let a = inv.above in omega (arith, a));
      within = fits;
      none = λ i a b. elim (below_or i c.loop-at.at) [
        | inl l ↦ inv.none i a l
        | inr g ↦ in_part c.args.bytes.now (λ x. c.args.byte ≤ x) c.loop-at.at (c.loop-at.at + 64) i g b fits (c.has_below.ensures (search rules))
      ];
    }

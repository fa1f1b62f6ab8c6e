use Rattle.std.proofs.Common.{◌≡◌, ℕ, ◌+◌, ◌*◌, ◌<◌, ◌≤◌, ◌≢◌, length, slice_index, arith, inl, inr, ◌∙◌}
use Rattle.study_levels.specs.Numbered.{HasPosition, StepLeads}
use Rattle.study_levels.specs.Propagation.{AreLowered}
use Rattle.study_levels.proofs.BlockLemmas.{below_rows}
use Rattle.study_levels.proofs.CellsLemmas.{lowered-then, lowered-back, lowered-same, lowered-set, lowered-has}
use Rattle.study_levels.proofs.levels.propagate_losses.Goals as goal

pub lower_before-more-requires-clause-numbered : goal.lower_before-more-requires-clause-numbered
lower_before-more-requires-clause-numbered g c = λ y on e.
    c.loop-row.invariant.numbered (64 * c.loop-row.row + y) (λ z. let h = ((rw c.as_slice.ensures at c.row_with-decided.ensures).here y on e).1 in omega (arith, h, z))

pub loop-row-preserved : goal.loop-row-preserved
loop-row-preserved g c =
    let inv = c.loop-row.invariant in
    let k = c.args.level in
    let old = c.args.cells.now in
    let mid = c.loop-row.cells in
    let new = c.lower_before-more.new.cells in
    let row = c.loop-row.row in
    let in-row = rw c.as_slice.ensures at c.row_with-decided.ensures in
    let next = rw c.look_at.ensures at c.next_due_row-row-in-loop-row.ensures in
    let size : length new ≡ (g.G.Game.numbered c.args.game.now).size = c.lower_before-more.ensures.size ∙ inv.size in
    let Why : ℕ → Type 0 = λ i. (j : ℕ) × (slice_index old j ≡ k + 1) × StepLeads (g.G.Game.numbered c.args.game.now) i j in
    let more : AreLowered Why k mid new = λ i. elim (c.lower_before-more.ensures.rise i) [
      | inl e ↦ inl e
      | inr x ↦
          let y = x.0.0 in
          inr ((64 * row + y, lowered-back k Why old mid inv.rise (64 * row + y) (in-row.here y x.0.1 x.0.2).1, x.0.3), x.1, x.2)
    ] in
    let all : AreLowered Why k old new = lowered-then k Why old mid new inv.rise more in
    rw c.look_at.ensures (record {
      there = next.within;
      size = size;
      numbered = lowered-has k (HasPosition (g.G.Game.numbered c.args.game.now)) old new c.requires.numbered Why (λ i w. (w.2.0, w.2.2)) all;
      rise = all;
      done = below_rows (λ (j : ℕ). j < (g.G.Game.numbered c.args.game.now).size → (i : ℕ) → slice_index old j ≡ k + 1
          → StepLeads (g.G.Game.numbered c.args.game.now) i j → (slice_index new i ≢ 0) × (slice_index new i ≤ k + 2))
          row c.next_due_row-row-in-loop-row.result
          (λ j b n i s t. lowered-set k Why mid new more i (inv.done j b n i s t))
          (λ y on n i s t. c.lower_before-more.ensures.done i y on
          (in-row.all y on (let m = inv.size in omega (arith, n, m)) (lowered-same k Why old mid inv.rise (64 * row + y) s)) t)
          (λ j a b n i s t. absurd (next.none j a b (lowered-same k Why old new all j s)));
    })

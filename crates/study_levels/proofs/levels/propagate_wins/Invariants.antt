use Rattle.std.proofs.Common.{◌≡◌, ◌≢◌, ℕ, ◌+◌, ◌*◌, ◌<◌, length, slice_index, ◌-◌}
use Rattle.study_levels.specs.Propagation.{AreAdded}
use Rattle.study_levels.specs.Numbered.{CellsHavePositions, StepLeads}
use Rattle.study_levels.proofs.levels.propagate_wins.Given as goal

abbrev pub invariant-loop-row : goal.invariant-loop-row
invariant-loop-row g l = record {
  there : 64 * l.row < length l.cells + 64;
  size : length l.cells ≡ (g.G.Game.numbered l.game).size;
  numbered : CellsHavePositions (g.G.Game.numbered l.game) l.cells;
  rise : AreAdded (λ i. (j : ℕ) × StepLeads (g.G.Game.numbered l.game) i j) l.level l.initial.cells l.cells;
  done : (j : ℕ) → j < 64 * l.row → j < (g.G.Game.numbered l.game).size → (i : ℕ) → slice_index l.initial.cells j ≡ l.level + 1
      → StepLeads (g.G.Game.numbered l.game) i j → slice_index l.cells i ≢ 0;
}

abbrev pub decreases-loop-row : goal.decreases-loop-row
decreases-loop-row g l = l.rows - l.row

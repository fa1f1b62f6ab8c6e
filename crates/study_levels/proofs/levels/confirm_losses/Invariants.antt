use Rattle.std.proofs.Common.{◌≡◌, ℕ, ◌+◌, ◌*◌, ◌<◌, ◌≤◌, length, slice_index, Some, ◌-◌}
use Rattle.study_table.specs.Forced.{LeadsBy}
use Rattle.study_levels.specs.Propagation.{AreDropped}
use Rattle.study_levels.specs.Numbered.{CellsHavePositions, OutsideIsRight, TellWins, IsMatedWithin}
use Rattle.study_levels.proofs.levels.confirm_losses.Given as goal

abbrev pub invariant-loop-row : goal.invariant-loop-row
invariant-loop-row g l = record {
  there : 64 * l.row < length l.cells + 64;
  size : length l.cells ≡ (g.G.Game.numbered l.game).size;
  numbered : CellsHavePositions (g.G.Game.numbered l.game) l.cells;
  fall : AreDropped l.level l.initial.cells l.cells;
  rest : (j : ℕ) → 64 * l.row ≤ j → slice_index l.cells j ≡ slice_index l.initial.cells j;
  lost : OutsideIsRight (g.G.Game.numbered l.game) → TellWins (g.G.Game.numbered l.game) l.level l.initial.cells
      → (j : ℕ) → j < 64 * l.row → (p : g.row.G-Position.Denot) → (g.G.Game.numbered l.game).position j ≡ Some p
      → slice_index l.cells j ≡ l.level + 2 → IsMatedWithin (g.G.Game.numbered l.game) (l.level + 1) p;
  kept : OutsideIsRight (g.G.Game.numbered l.game) → TellWins (g.G.Game.numbered l.game) l.level l.initial.cells
      → (j : ℕ) → j < 64 * l.row → (p q : g.row.G-Position.Denot) → (g.G.Game.numbered l.game).position j ≡ Some p
      → LeadsBy (g.G.Game.numbered l.game).legal (g.G.Game.numbered l.game).after p q
      → slice_index l.initial.cells j ≡ l.level + 2 → IsMatedWithin (g.G.Game.numbered l.game) (l.level + 1) p
      → slice_index l.cells j ≡ l.level + 2;
}

abbrev pub decreases-loop-row : goal.decreases-loop-row
decreases-loop-row g l = l.rows - l.row

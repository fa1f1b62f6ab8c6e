use Rattle.std.proofs.Common.{◌≡◌, ℕ, ◌<◌, ◌≤◌, length, slice_index, Bool}
use Rattle.study_levels.specs.Numbered.{CellsHavePositions, OutsideIsRight, CellsAreHeld}
use Rattle.study_levels.proofs.levels.all_levels.Given as goal

abbrev pub invariant-loop-level : goal.invariant-loop-level
invariant-loop-level g l = record {
  size : length l.cells ≡ (g.G.Game.numbered l.game).size;
  numbered : CellsHavePositions (g.G.Game.numbered l.game) l.cells;
  bytes : 0 < l.level → (i : ℕ) → slice_index l.cells i ≤ 255;
  held : OutsideIsRight (g.G.Game.numbered l.game) → (far : Bool)
      → CellsAreHeld (g.G.Game.numbered l.game) far 0 l.initial.cells
      → CellsAreHeld (g.G.Game.numbered l.game) far l.level l.cells;
}

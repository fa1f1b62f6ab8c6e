use Rattle.std.proofs.Common.{◌≡◌, ◌≢◌, ℕ, ◌+◌, ◌*◌, ◌<◌, ◌≤◌, ◌⊎◌, true, false, length, slice_index}
use Rattle.study_board.specs.Sets.{has}
use Rattle.study_levels.specs.Propagation.{IsHeldCell}
use Rattle.study_levels.specs.Numbered.{HasPosition, OutsideIsRight, leads_in}
use Rattle.study_levels.proofs.initial.write_each_first.Given as goal

abbrev pub invariant-loop-square : goal.invariant-loop-square
invariant-loop-square g l = record {
  among : (y : ℕ) → y < 64 → has l.square-iterator y ≡ true → has l.fn.squares y ≡ true;
  size : length l.cells ≡ (g.G.Game.numbered l.game).size;
  other : (i : ℕ) → (i < 64 * l.row) ⊎ (64 * l.row + 64 ≤ i) → slice_index l.cells i ≡ slice_index l.initial.cells i;
  kept : (y : ℕ) → y < 64 → has l.fn.squares y ≡ false → slice_index l.cells (64 * l.row + y) ≡ slice_index l.initial.cells (64 * l.row + y);
  held : OutsideIsRight (g.G.Game.numbered l.game) → (y : ℕ) → y < 64 → has l.fn.squares y ≡ true → has l.square-iterator y ≡ false
      → 64 * l.row + y < (g.G.Game.numbered l.game).size
      → IsHeldCell (leads_in (g.G.Game.numbered l.game)) (g.G.Game.numbered l.game).mate
      (g.G.Game.numbered l.game).home l.far 0 ((g.G.Game.numbered l.game).position (64 * l.row + y)) (slice_index l.cells (64 * l.row + y));
  numbered : (y : ℕ) → y < 64 → has l.fn.squares y ≡ true → has l.square-iterator y ≡ false → 64 * l.row + y < (g.G.Game.numbered l.game).size
      → slice_index l.cells (64 * l.row + y) ≢ 0 → HasPosition (g.G.Game.numbered l.game) (64 * l.row + y);
}

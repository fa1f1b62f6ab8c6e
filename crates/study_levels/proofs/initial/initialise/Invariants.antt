use Rattle.std.proofs.Common.{◌≡◌, ◌≢◌, ℕ, ◌*◌, ◌<◌, ◌≤◌, ◌/◌, ◌-◌, length, slice_index}
use Rattle.study_levels.specs.Propagation.{IsHeldCell}
use Rattle.study_levels.specs.Numbered.{HasPosition, OutsideIsRight, leads_in}
use Rattle.study_levels.proofs.initial.initialise.Given as goal

abbrev pub invariant-loop-number : goal.invariant-loop-number
invariant-loop-number g l = record {
  there : l.number ≤ (g.G.Game.numbered l.game).size;
  size : length l.cells ≡ (g.G.Game.numbered l.game).size;
  begins : l.number < (g.G.Game.numbered l.game).size → l.number ≡ 64 * (l.number / 64);
  zero : (j : ℕ) → l.number ≤ j → slice_index l.cells j ≡ 0;
  numbered : (j : ℕ) → j < l.number → slice_index l.cells j ≢ 0 → HasPosition (g.G.Game.numbered l.game) j;
  held : OutsideIsRight (g.G.Game.numbered l.game) → (j : ℕ) → j < l.number
      → IsHeldCell (leads_in (g.G.Game.numbered l.game)) (g.G.Game.numbered l.game).mate
      (g.G.Game.numbered l.game).home l.far 0 ((g.G.Game.numbered l.game).position j) (slice_index l.cells j);
}

abbrev pub decreases-loop-number : goal.decreases-loop-number
decreases-loop-number g l = (g.G.Game.numbered l.game).size - l.number

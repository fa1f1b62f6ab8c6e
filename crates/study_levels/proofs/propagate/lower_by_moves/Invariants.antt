use Rattle.std.proofs.Common.{◌≡◌, ◌≢◌, ℕ, ◌+◌, ◌<◌, ◌≤◌, length, slice_index}
use Rattle.study_levels.specs.Propagation.{AreLowered}
use Rattle.study_levels.specs.Numbered.{StepLeads}
use Rattle.study_levels.proofs.propagate.lower_by_moves.Given as goal

abbrev pub invariant-loop-from : goal.invariant-loop-from
invariant-loop-from g l = record {
  size : length l.cells ≡ (g.G.Game.numbered l.game).size;
  rise : AreLowered (λ i. StepLeads (g.G.Game.numbered l.game) i l.number) l.level l.initial.cells l.cells;
  done : (t : ℕ) → t < l.from-index → (slice_index l.cells (slice_index l.from-items t) ≢ 0) × (slice_index l.cells (slice_index l.from-items t) ≤ l.level + 2);
}

use Rattle.std.proofs.Common.{◌≡◌, ℕ, ◌≤◌, take, Contains}
use Rattle.study_values.specs.declared.value.Value.TheVariants.{Win}
use Rattle.study_levels.specs.Numbered.{label_by}
use Rattle.study_levels.proofs.propagate.is_lost.Given as goal

abbrev pub invariant-loop-by : goal.invariant-loop-by
invariant-loop-by g l = (m : _) → Contains (take l.by-index l.by-items) m → (n : ℕ)
    × (label_by (g.G.Game.numbered l.game) l.cells ((g.G.Game.numbered l.game).after l.at m) ≡ Win n) × (n ≤ l.level)

use Rattle.std.proofs.Common.{ℕ, ◌<◌, slice_index}
use Rattle.study_table.specs.Right.{IsGivenCell}
use Rattle.study_levels.specs.Numbered.{label_by, leads_in}
use Rattle.study_levels.proofs.consistency.first_inconsistent.Given as goal

abbrev pub invariant-loop-number : goal.invariant-loop-number
invariant-loop-number g l =
    (k : ℕ) → k < l.number →
    IsGivenCell (leads_in (g.G.Game.numbered l.game)) (g.G.Game.numbered l.game).mate
    (label_by (g.G.Game.numbered l.game) l.cells) ((g.G.Game.numbered l.game).position k) (slice_index l.cells k)

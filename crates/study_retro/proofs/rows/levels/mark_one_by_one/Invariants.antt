use Rattle.std.proofs.Common.{◌≡◌, ◌+◌, ◌*◌, false, length}
use Rattle.study_levels.specs.Numbered.{StepLeads}
use Rattle.study_retro.proofs.RowSets.{AreSetExcept}
use Rattle.study_retro.proofs.rows.levels.mark_one_by_one.Given as goal

abbrev pub invariant-loop-square : goal.invariant-loop-square
invariant-loop-square g l = record {
  size : length l.cells ≡ (g.G.Game.numbered l.game).size;
  set : AreSetExcept l.fn.decided (λ y n. StepLeads (g.G.Game.numbered l.game) n (64 * l.row + y)) (l.level + 2) false
      l.square-iterator l.initial.cells l.cells;
}

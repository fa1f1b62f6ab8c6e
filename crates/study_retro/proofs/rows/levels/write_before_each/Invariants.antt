use Rattle.std.proofs.Common.{◌≡◌, ◌+◌, ◌*◌, length}
use Rattle.study_values.specs.Number.{cells_of}
use Rattle.study_retro.specs.Predecessors.{IsBefore}
use Rattle.study_retro.proofs.RowSets.{AreSetExcept}
use Rattle.study_retro.proofs.rows.levels.write_before_each.Given as goal

abbrev pub invariant-loop-square : goal.invariant-loop-square
invariant-loop-square g l = record {
  size : length l.cells ≡ cells_of l.class;
  set : AreSetExcept l.fn.decided (λ y n. IsBefore l.class (64 * l.row + y) n) l.change.cell l.change.over
      l.square-iterator l.initial.cells l.cells;
}

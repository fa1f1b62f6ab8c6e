use Rattle.std.proofs.Common.{◌≡◌, ◌+◌, ◌*◌, length}
use Rattle.study_values.specs.Number.{cells_of}
use Rattle.study_retro.specs.Predecessors.{IsBeforeFrom}
use Rattle.study_retro.proofs.RowSets.{AreSetExcept}
use Rattle.study_retro.proofs.rows.predecessors.write_predecessors_one_by_one.Given as goal

abbrev pub invariant-loop-square : goal.invariant-loop-square
invariant-loop-square g l = record {
  size : length l.cells ≡ cells_of l.departure.class;
  set : AreSetExcept l.fn.led (λ y n. IsBeforeFrom l.departure.class (64 * l.departure.row + y) l.man l.origin n) l.change.cell l.change.over
      l.square-iterator l.initial.cells l.cells;
}

use Rattle.std.proofs.Common.{◌≡◌, length}
use Rattle.study_values.specs.Number.{cells_of}
use Rattle.study_retro.specs.Predecessors.{IsBeforeFrom}
use Rattle.study_retro.proofs.RowSets.{AreSetExcept}
use Rattle.study_retro.proofs.numbers.predecessors.write_before_man.Given as goal

abbrev pub invariant-loop-origin : goal.invariant-loop-origin
invariant-loop-origin g l = record {
  size : length l.cells ≡ cells_of l.fn.class;
  set : AreSetExcept l.all (λ a n. IsBeforeFrom l.fn.class l.number l.mover.man.now a n) l.change.cell l.change.over
      l.origin-iterator l.initial.cells l.cells;
}

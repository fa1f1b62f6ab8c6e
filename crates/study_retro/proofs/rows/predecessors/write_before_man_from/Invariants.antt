use Rattle.std.proofs.Common.{◌≡◌, length}
use Rattle.study_values.specs.Number.{cells_of}
use Rattle.study_retro.specs.RowBack.{IsBeforeRowFrom}
use Rattle.study_retro.proofs.RowSets.{AreSetExcept}
use Rattle.study_retro.proofs.rows.predecessors.write_before_man_from.Given as goal

abbrev pub invariant-loop-origin : goal.invariant-loop-origin
invariant-loop-origin g l = record {
  size : length l.cells ≡ cells_of l.row.class;
  set : AreSetExcept l.initial.origin-iterator (λ a n. IsBeforeRowFrom l.row.class l.row.number l.decided l.man a n) l.change.cell l.change.over
      l.origin-iterator l.initial.cells l.cells;
}

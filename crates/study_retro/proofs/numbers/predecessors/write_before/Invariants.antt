use Rattle.std.proofs.Common.{◌≡◌, ℕ, length, take, Contains}
use Rattle.study_board.specs.declared.men.Man.{Man}
use Rattle.study_values.specs.Number.{cells_of}
use Rattle.study_retro.specs.Predecessors.{IsBefore, IsBeforeBy}
use Rattle.study_levels.specs.Propagation.{AreSet, IsSetWhere}
use Rattle.study_retro.proofs.numbers.predecessors.write_before.Given as goal

abbrev pub invariant-loop-slot : goal.invariant-loop-slot
invariant-loop-slot g l = record {
  size : length l.cells ≡ cells_of l.class;
  rise : AreSet (IsBefore l.class l.number) l.change.cell l.change.over l.initial.cells l.cells;
  done : (m : Man) → Contains (take l.slot l.man-items) m → (n : ℕ) → IsBeforeBy l.class l.number m n
      → IsSetWhere l.change.cell l.change.over l.cells n;
}

use Rattle.std.proofs.Common.{◌≡◌, ◌+◌, ◌*◌, ◌<◌, ℕ, true, length, take, Contains}
use Rattle.study_board.specs.declared.men.Man.{Man}
use Rattle.study_board.specs.Sets.{has}
use Rattle.study_values.specs.Number.{cells_of}
use Rattle.study_retro.specs.Predecessors.{IsBeforeBy}
use Rattle.study_levels.specs.Propagation.{AreSet, IsSetWhere}
use Rattle.study_retro.specs.RowLevels.{IsBeforeRow}
use Rattle.study_retro.specs.Still.{on_square}
use Rattle.study_retro.proofs.rows.predecessors.write_before_men.Given as goal

abbrev pub invariant-loop-slot : goal.invariant-loop-slot
invariant-loop-slot g l = record {
  size : length l.cells ≡ cells_of l.row.class;
  rise : AreSet (IsBeforeRow l.row.class l.row.number l.fn.decided) l.change.cell l.change.over l.fn.cells l.cells;
  last : (n y : ℕ) → y < 64 → has l.fn.decided y ≡ true → IsBeforeBy l.row.class (64 * l.row.number + y) (on_square l.row.last y) n
      → IsSetWhere l.change.cell l.change.over l.cells n;
  done : (m : Man) → Contains (take l.slot l.man-items) m → (n y : ℕ) → y < 64 → has l.fn.decided y ≡ true
      → IsBeforeBy l.row.class (64 * l.row.number + y) m n → IsSetWhere l.change.cell l.change.over l.cells n;
}

use Rattle.study_retro.specs.RowEscapes.{goes_beside}
use Rattle.study_retro.proofs.SquaresKept.{AreGatheredExcept}
use Rattle.study_retro.proofs.rows.quiet_moves.targets_in_row.Given as goal

abbrev pub invariant-loop-square : goal.invariant-loop-square
invariant-loop-square l = AreGatheredExcept l.fn.set (λ y x. goes_beside l.row.others.items l.row.last l.row.to_move y x) l.square-iterator l.squares

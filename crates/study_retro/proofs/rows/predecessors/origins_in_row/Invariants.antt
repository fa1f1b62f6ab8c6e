use Rattle.std.proofs.Common.{◌∷◌, ◌++◌, []}
use Rattle.study_moves.specs.Unmoves.{is_unmove_origin}
use Rattle.study_retro.specs.Still.{on_square}
use Rattle.study_retro.proofs.SquaresKept.{AreGatheredExcept}
use Rattle.study_retro.proofs.rows.predecessors.origins_in_row.Given as goal

abbrev pub invariant-loop-square : goal.invariant-loop-square
invariant-loop-square l = AreGatheredExcept l.fn.decided
    (λ y a. is_unmove_origin (l.row.others.items ++ on_square l.row.last y ∷ []) l.row.to_move (on_square l.row.last y) a) l.square-iterator l.squares

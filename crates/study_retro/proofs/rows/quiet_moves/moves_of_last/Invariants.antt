use Rattle.std.proofs.Common.{◌≡◌, ◌<◌, ◌⊎◌, ℕ, true}
use Rattle.study_board.specs.Sets.{has}
use Rattle.study_retro.specs.RowEscapes.{Goes, GoesOutside, goes_beside}
use Rattle.study_retro.proofs.SquaresKept.{AreKeptExcept}
use Rattle.study_retro.proofs.rows.quiet_moves.moves_of_last.Given as goal

abbrev pub invariant-loop-square : goal.invariant-loop-square
invariant-loop-square l = record {
  kept : AreKeptExcept l.fn.so_far.losing
      (λ y. (x : ℕ) → x < 64 → goes_beside l.row.others.items l.row.last l.row.to_move y x ≡ true → has l.lost x ≡ true)
      (λ y. GoesOutside l.row.others.items l.row.last l.row.to_move l.lost y) l.square-iterator l.seen.losing;
  some : (y : ℕ) → y < 64 → has l.seen.some y ≡ true
      → (has l.fn.so_far.some y ≡ true) ⊎ (has l.fn.so_far.losing y ≡ true) × Goes l.row.others.items l.row.last l.row.to_move y;
}

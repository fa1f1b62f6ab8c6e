-- The start after a legal move.
use Rattle.std.specs.Prelude.{if◌then◌else◌}
use Rattle.study_moves.specs.declared.moves.Move.{Move}
use Rattle.study_notation.specs.declared.start.Start.{Start}
use Rattle.study_notation.specs.StartAfter.{one_more, resets_clock, number_after}
use Rattle.study_wide.specs.Rules.{wide_after, widen}
use Rattle.study_wide_text.specs.declared.start.WideStart.{WideStart}

-- castling is neither a capture nor a pawn's move
unfoldable pub wide_start_after : WideStart → Move → WideStart
wide_start_after s m = record {
  position = wide_after s.position m;
  clock = if resets_clock s.position.board m then 0 else one_more s.clock;
  number = number_after s.position.board.to_move s.number;
}

-- the same start, with no right to castle
abbrev pub widen_start : Start → WideStart
widen_start s = record { position = widen s.position; clock = s.clock; number = s.number }

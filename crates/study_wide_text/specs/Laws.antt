-- Where four men and no right to castle are left, the texts are those of four men.
use Rattle.std.specs.Prelude.{◌≡◌, ◌↔◌, ℕ, true, List, Result, Ok, Err}
use Rattle.study_board.specs.Position.{Position, IsValid}
use Rattle.study_moves.specs.declared.moves.Move.{Move}
use Rattle.study_moves.specs.Rules.{is_legal}
use Rattle.study_notation.specs.declared.start.Start.{Start}
use Rattle.study_notation.specs.declared.fault.FenFault.{FenFault}
use Rattle.study_notation.specs.declared.fault.FenFault.TheVariants.{TooManyMen, Castling}
use Rattle.study_notation.specs.declared.fault.SanFault.{SanFault}
use Rattle.study_notation.specs.declared.fault.SanFault.TheVariants.{NotSan, CastlingLeftOut, NoSuchMove, Ambiguous}
use Rattle.study_notation.specs.Fen.{start_of}
use Rattle.study_notation.specs.FenSpelling.{fen_text}
use Rattle.study_notation.specs.StartAfter.{start_after}
use Rattle.study_notation.specs.Matching.{move_of}
use Rattle.study_notation.specs.SanSpelling.{move_text}
use Rattle.study_wide.specs.Rules.{widen}
use Rattle.study_wide_text.specs.StartAfter.{wide_start_after, widen_start}
use Rattle.study_wide_text.specs.Fen.{wide_start_of, wide_fen_text}
use Rattle.study_wide_text.specs.Matching.{wide_move_of}
use Rattle.study_wide_text.specs.SanSpelling.{wide_move_text}

-- a text is read as a start of four men exactly if it is read as that start, widened; and a fault that is neither the number of men nor a right to castle is
-- the same
pub record FenAgrees : Type 0 where
  pub read : (text : List ℕ) (s : Start) → IsValid s.position → (start_of text ≡ Ok s) ↔ (wide_start_of text ≡ Ok (widen_start s))
  pub fault : (text : List ℕ) (e : FenFault) → ¬ (e ≡ TooManyMen) → ¬ (e ≡ Castling) → start_of text ≡ Err e → wide_start_of text ≡ Err e
  pub written : (s : Start) → wide_fen_text (widen_start s) ≡ fen_text s
  pub after : (s : Start) (m : Move) → wide_start_after (widen_start s) m ≡ widen_start (start_after s m)

-- castling, which four men leave out, is no legal move without a right
abbrev pub castling_is_no_move : Result Move SanFault → Result Move SanFault
castling_is_no_move (Ok m) = Ok m
castling_is_no_move (Err NotSan) = Err NotSan
castling_is_no_move (Err CastlingLeftOut) = Err NoSuchMove
castling_is_no_move (Err NoSuchMove) = Err NoSuchMove
castling_is_no_move (Err Ambiguous) = Err Ambiguous

-- a text means the same move, or has the same fault, and a move has the same text
pub record SanAgrees : Type 0 where
  pub read : (p : Position) (text : List ℕ) → wide_move_of (widen p) text ≡ castling_is_no_move (move_of p text)
  pub written : (p : Position) (m : Move) → IsValid p → is_legal p m ≡ true → wide_move_text (widen p) m ≡ move_text p m

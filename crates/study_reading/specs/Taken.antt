-- The effect of a token.
use Rattle.std.specs.Prelude.{◌≡◌, ℕ, Bool, true, false, ◌==◌, nat_le, List, length, codes, Result, Ok, Err, if◌then◌else◌}
use Rattle.std.specs.Str.{bytes_eq}
use Rattle.study_reading.specs.declared.lines.Waiting.{Waiting}
use Rattle.study_reading.specs.declared.lines.LineFault.{LineFault}
use Rattle.study_reading.specs.declared.lines.LineFault.TheVariants as line_fault
use Rattle.study_reading.specs.declared.moves.MoveFault.{MoveFault}
use Rattle.study_reading.specs.declared.moves.MoveFault.TheVariants as move_fault
use Rattle.study_games.specs.declared.symbols.Said.{Said}
use Rattle.study_games.specs.declared.symbols.Said.TheVariants as say
use Rattle.study_reading.specs.declared.token_effects.Reason.{Reason}
use Rattle.study_reading.specs.declared.token_effects.Reason.TheVariants as reason
use Rattle.study_reading.specs.Lines.{Lines, lines_of, begin_line, end_line}
use Rattle.study_reading.specs.Followed.{Rules}
use Rattle.study_reading.specs.Reading.{Reading, symbol_played}
use Rattle.study_games.specs.Symbols.{said_of}
use Rattle.study_games.specs.Tokens.{Token, blank, aside, opening, closing, star, tag, comment, rest, sign, symbol}

abbrev pub reading_of : {S : Type 0} → S → List ℕ → ℕ → List Waiting → ℕ → List ℕ → Reading S
reading_of study path begun waiting cut inserts = record { study = study; lines = lines_of path begun waiting cut; inserts = inserts }

-- the state of reading, and whether the game ends here
pub record Taken (S : Type 0) : Type 0 where
  pub reading : Reading S
  pub ended : Bool

-- after a null move the line is cut
abbrev pub cut_line : Lines → Lines
cut_line l = record { path = l.path; begun = l.begun; waiting = l.waiting; cut = if nat_le 1 l.cut then l.cut else 1 }

module _ {S : Type 0} where
  abbrev pub going_on : Reading S → Result (Taken S) Reason
  going_on r = Ok (record { reading = r; ended = false })

  abbrev pub on_line : Reading S → Result Lines LineFault → Result (Taken S) Reason
  on_line r (Ok l) = going_on (record { study = r.study; lines = l; inserts = r.inserts })
  on_line r (Err fault) = Err (reason.Line fault)

  -- a result ends the game if no line waits
  abbrev pub at_result : Reading S → Result (Taken S) Reason
  at_result r = Ok (record { reading = r; ended = length r.lines.waiting == 0 })

  -- a null move ends its variation. The main line has none
  abbrev pub at_null_move : Reading S → Result (Taken S) Reason
  at_null_move r =
      if length r.lines.waiting == 0 then Err reason.NullMove
      else going_on (record { study = r.study; lines = cut_line r.lines; inserts = r.inserts })

  abbrev pub on_move : Result (Reading S) MoveFault → Result (Taken S) Reason
  on_move (Ok r) = going_on r
  on_move (Err fault) = Err (reason.Move fault)

  abbrev pub taken_symbol : Rules S → Reading S → List ℕ → Said → Result (Taken S) Reason
  taken_symbol rules r text say.Number = going_on r
  taken_symbol rules r text (say.Result outcome) = at_result r
  taken_symbol rules r text say.NullMove = at_null_move r
  taken_symbol rules r text say.Passing = going_on r
  taken_symbol rules r text say.Aside = going_on r
  taken_symbol rules r text say.Word = going_on r
  taken_symbol rules r text say.Move = on_move (symbol_played rules r text)

  abbrev pub taken_sign : Reading S → Bool → Result (Taken S) Reason
  taken_sign r true = at_null_move r
  taken_sign r false = going_on r

  abbrev pub after_token : Rules S → Reading S → Token → Result (Taken S) Reason
  after_token rules r blank = going_on r
  after_token rules r aside = going_on r
  after_token rules r (comment text) = going_on r
  after_token rules r (rest text) = going_on r
  after_token rules r opening = on_line r (begin_line r.lines)
  after_token rules r closing = on_line r (end_line r.lines)
  after_token rules r star = at_result r
  after_token rules r (tag name value) = Err reason.TagInMoves
  after_token rules r (sign text) = taken_sign r (bytes_eq text (codes "--"))
  after_token rules r (symbol text) = taken_symbol rules r text (said_of text)

-- the result, and the state after it, unless there was no memory, which ends the run
abbrev pub Takes : {S : Type 0} → Result Bool Reason → Result (Taken S) Reason → Reading S → Type 0
Takes (Ok ended) expected new = expected ≡ Ok (record { reading = new; ended = ended })
Takes (Err (reason.Move move_fault.OutOfMemory)) expected new = Unit {0}
Takes (Err (reason.Line line_fault.OutOfMemory)) expected new = Unit {0}
Takes (Err fault) expected new = expected ≡ Err fault

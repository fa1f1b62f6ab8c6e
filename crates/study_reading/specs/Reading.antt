-- The state of reading a game's moves, and the effect of a move.
use Rattle.std.specs.Prelude.{◌≡◌, ℕ, nat_le, nat_lt, List, [], ◌∷◌, ◌++◌, length, Result, Ok, Err, if◌then◌else◌}
use Rattle.std.specs.List.{list_all}
use Rattle.study_notation.specs.declared.fault.SanFault.TheVariants.{NotSan}
use Rattle.study_marks.specs.Edits.{is_printable}
use Rattle.study_games.specs.Symbols.{san_in}
use Rattle.study_reading.specs.declared.moves.MoveFault.{MoveFault}
use Rattle.study_reading.specs.declared.moves.MoveFault.TheVariants.{San, OutOfMemory}
use Rattle.study_reading.specs.Lines.{Lines}
use Rattle.study_reading.specs.Followed.{After, Rules}

-- the study so far, the current line with the waiting ones, and the lines of the script that make the tree
pub record Reading (S : Type 0) : Type 0 where
  pub study : S
  pub lines : Lines
  pub inserts : List ℕ

module _ {S : Type 0} where
  abbrev pub gone_on : Rules S → Reading S → After S → Reading S
  gone_on rules r a = record {
    study = a.study;
    lines = record { path = r.lines.path ++ a.step.place ∷ []; begun = r.lines.begun; waiting = r.lines.waiting; cut = r.lines.cut };
    inserts = r.inserts ++ rules.inserted r.study r.lines.path a.step.added;
  }

  abbrev pub read_on : Rules S → Reading S → Result (After S) MoveFault → Result (Reading S) MoveFault
  read_on rules r (Err fault) = Err fault
  read_on rules r (Ok a) = Ok (gone_on rules r a)

  -- the text for a move is read at the current node
  unfoldable pub after_move : Rules S → Reading S → List ℕ → Result (Reading S) MoveFault
  after_move rules r san = read_on rules r (rules.played r.study r.lines.path san)

  -- a symbol for a move. After a null move it is ignored; a symbol that is too long, or whose SAN is not printable, is not a move
  unfoldable pub symbol_played : Rules S → Reading S → List ℕ → Result (Reading S) MoveFault
  symbol_played rules r symbol =
      if nat_le 1 r.lines.cut then Ok r
      else (if nat_lt 32 (length symbol) then Err (San NotSan)
      else (if list_all is_printable (san_in symbol) then after_move rules r (san_in symbol) else Err (San NotSan)))

-- the result, and the state after it, unless there was no memory, which ends the run
abbrev pub Reads : {T S : Type 0} → Result T MoveFault → Result (Reading S) MoveFault → Reading S → Type 0
Reads (Ok x) expected new = expected ≡ Ok new
Reads (Err OutOfMemory) expected new = Unit {0}
Reads (Err fault) expected new = expected ≡ Err fault

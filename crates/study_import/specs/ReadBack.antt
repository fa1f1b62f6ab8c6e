-- The study that the lines `#> ` of a block spell.
use Rattle.std.specs.Prelude.{◌≡◌, ℕ, List, [], ◌∷◌, drop, codes, Option, Some, None, Result, Ok, Err}
use Rattle.study_board.specs.declared.men.Side.TheVariants.{White}
use Rattle.study_notation.specs.declared.fault.FenFault.{FenFault}
use Rattle.study_marks.specs.declared.stipulation.Goal.TheVariants.{Win}
use Rattle.study_wide_text.specs.declared.start.WideStart.{WideStart}
use Rattle.study_wide_text.specs.Fen.{wide_start_of}
use Rattle.study_command.specs.declared.command.FenCommand.TheVariants.{Position}
use Rattle.study_command.specs.Parser.{Asked, Asks, fen_command, stipulate, insert, tag, command_of}
use Rattle.study_command.specs.Lines.{script_lines}
use Rattle.study_games.specs.Header.{Pair}
use Rattle.study_reading.specs.declared.aims.Aim.{Aim}
use Rattle.study_reading.specs.declared.moves.MoveFault.{MoveFault}
use Rattle.study_tails.specs.Study.{WideStudy, with_wide_stipulation, with_wide_tag}
use Rattle.study_tails.specs.Moves.{WideAfter, wide_after_move_text}
use Rattle.study_tails.specs.Followed.{bare_study}
use Rattle.study_tails.specs.Lines.{study_lines}
use Rattle.study_import.specs.declared.importer.Choice.{Choice}
use Rattle.study_import.specs.Blocks.{WideRead, wide_read, wide_study, aim_of_game}
use Rattle.study_import.specs.Laws.{IsGiven}

-- a study that begins, with the root alone
abbrev pub study_begun : Result WideStart FenFault → Option WideStudy
study_begun (Ok start) = Some (bare_study start (record { hero = White; goal = Win }))
study_begun (Err fault) = None

abbrev pub study_moved : Result WideAfter MoveFault → Option WideStudy
study_moved (Ok x) = Some x.study
study_moved (Err fault) = None

-- the study after a command for it
abbrev pub study_with : WideStudy → Asked → Option WideStudy
study_with s (stipulate aim) = Some (with_wide_stipulation s aim)
study_with s (tag name text) = Some (with_wide_tag s name text)
study_with s (insert at san) = study_moved (wide_after_move_text s at san)
study_with s other = None

abbrev pub study_continued : Option WideStudy → Asked → Option WideStudy
study_continued None asked = None
study_continued (Some s) asked = study_with s asked

-- `position` begins a study; every other command is one for the study before it
abbrev pub study_after : Option WideStudy → Asked → Option WideStudy
study_after before (fen_command Position fen) = study_begun (wide_start_of fen)
study_after before asked = study_continued before asked

abbrev pub study_asked : Option WideStudy → Asks → Option WideStudy
study_asked before (Ok (Some asked)) = study_after before asked
study_asked before other = None

-- the study after these lines, each behind the three bytes `#> `
abbrev pub study_told : Option WideStudy → List (List ℕ) → Option WideStudy
study_told before [] = before
study_told before (line ∷ lines) = study_told (study_asked before (command_of (drop 3 line))) lines

-- the study of a game with more than four men, or a right to castle, is the one that its lines `#> ` spell: start, stipulation, tags and moves
abbrev pub AreWideReadBack : Type 0
AreWideReadBack =
    (c : Choice) → IsGiven c.given → (tags : List Pair) (fen text : List ℕ) (start : WideStart) (x : WideRead) (aim : Aim)
    → wide_start_of fen ≡ Ok start → wide_read text start ≡ Ok x → aim_of_game c.given tags start.position.board.to_move x.notes ≡ Some aim
    → study_told None (script_lines (study_lines (codes "#> ") (wide_study tags aim.stipulation x.study))) ≡ Some (wide_study tags aim.stipulation x.study)

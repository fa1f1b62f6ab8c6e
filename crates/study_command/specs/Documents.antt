-- The document of a script, and what a command makes of it by the rules alone: apart from tables and memory.
use Rattle.std.specs.Prelude.{◌≡◌, ℕ, List, [], ◌∷◌, Option, Some, None, Result, Ok, Err}
use Rattle.study_moves.specs.declared.moves.Move.{Move}
use Rattle.study_notation.specs.declared.start.Start.{Start}
use Rattle.study_notation.specs.declared.fault.FenFault.{FenFault}
use Rattle.study_notation.specs.declared.fault.SanFault.{SanFault}
use Rattle.study_notation.specs.Fen.{start_of}
use Rattle.study_notation.specs.Matching.{move_of}
use Rattle.study_tree.specs.Forest.{none}
use Rattle.study_marks.specs.declared.stipulation.Stipulation.{Stipulation}
use Rattle.study_marks.specs.declared.tag.TagName.{TagName}
use Rattle.study_marks.specs.declared.refusal.Refusal.{Refusal}
use Rattle.study_marks.specs.Study.{position_at}
use Rattle.study_marks.specs.Edits.{PlainStudy, with_position, with_start, with_stipulation, with_insertion, with_deletion, with_promotion, with_tag}
use Rattle.study_marks.specs.Edits.{shift_refusal, insert_refusal, delete_refusal, promote_refusal, tag_refusal}
use Rattle.study_command.specs.declared.command.FenCommand.TheVariants.{Position, Shift}
use Rattle.study_command.specs.declared.command.NodeCommand.TheVariants.{Delete, Promote, Mark}
use Rattle.study_command.specs.Parser.{Asked, fen_command, node_query, node_command, table_command, stipulate, insert, tag, solve, pgn, Asks, command_of}

-- nothing, a start, or a study, which has no marks here: they are computed anew at each line
pub data Document : Type 0 where
  empty : Document
  start : Start → Document
  study : PlainStudy → Document

-- a study with only the root, and no tag known
abbrev pub new_study : Start → Stipulation → PlainStudy
new_study from stipulation = record {
  start = from;
  stipulation = stipulation;
  tags = None ∷ None ∷ None ∷ None ∷ None ∷ None ∷ [];
  tree = record { label = tt; below = none };
}

-- an edit that a rule refuses gives no document
abbrev pub unless_refused : Option (Refusal (Unit {0})) → PlainStudy → Option Document
unless_refused None new = Some (study new)
unless_refused (Some refusal) new = None

-- `position` keeps stipulation and tags of the study before
abbrev pub with_start_of : Document → Start → Document
with_start_of empty new = start new
with_start_of (start old) new = start new
with_start_of (study old) new = study (with_position old new)

abbrev pub after_position : Document → Result Start FenFault → Option Document
after_position d (Err fault) = None
after_position d (Ok new) = Some (with_start_of d new)

abbrev pub after_shift : Document → Result Start FenFault → Option Document
after_shift empty read = None
after_shift (start old) read = None
after_shift (study old) (Err fault) = None
after_shift (study old) (Ok new) = unless_refused (shift_refusal old new) (with_start old new)

abbrev pub after_stipulate : Document → Stipulation → Option Document
after_stipulate empty new = None
after_stipulate (start old) new = Some (study (new_study old new))
after_stipulate (study old) new = Some (study (with_stipulation old new))

abbrev pub after_tag : Document → TagName → List ℕ → Option Document
after_tag empty name text = None
after_tag (start old) name text = None
after_tag (study old) name text = unless_refused (tag_refusal text) (with_tag old name text)

abbrev pub after_move : PlainStudy → List ℕ → Result Move SanFault → Option Document
after_move old at (Err fault) = None
after_move old at (Ok m) = unless_refused (insert_refusal old at m) (with_insertion old at m)

abbrev pub after_insert : Document → List ℕ → List ℕ → Option Document
after_insert empty at san = None
after_insert (start old) at san = None
after_insert (study old) at san = after_move old at (move_of (position_at old at) san)

abbrev pub after_delete : Document → List ℕ → Option Document
after_delete empty at = None
after_delete (start old) at = None
after_delete (study old) at = unless_refused (delete_refusal old at) (with_deletion old at)

abbrev pub after_promote : Document → List ℕ → Option Document
after_promote empty at = None
after_promote (start old) at = None
after_promote (study old) at = unless_refused (promote_refusal old at) (with_promotion old at)

-- the PGN of a study can be asked for
abbrev pub after_pgn : Document → Option Document
after_pgn empty = None
after_pgn (start old) = None
after_pgn (study old) = Some (study old)

-- The document after an edit or `pgn`; `None` if a rule refuses it. Other commands leave the document, and are not covered.
abbrev pub after_command : Document → Asked → Option Document
after_command d (fen_command Position fen) = after_position d (start_of fen)
after_command d (fen_command Shift fen) = after_shift d (start_of fen)
after_command d (stipulate new) = after_stipulate d new
after_command d (tag name text) = after_tag d name text
after_command d (insert at san) = after_insert d at san
after_command d (node_command Delete at) = after_delete d at
after_command d (node_command Promote at) = after_promote d at
after_command d (node_command Mark at) = None
after_command d pgn = after_pgn d
after_command d (node_query word at) = None
after_command d (table_command word name) = None
after_command d (solve count at) = None

-- the document after an accepted command: an edit makes that of the rules, and any other command leaves it
abbrev pub IsAfter : Document → Asked → Document → Type 0
IsAfter old (fen_command word fen) new = after_command old (fen_command word fen) ≡ Some new
IsAfter old (stipulate aim) new = after_command old (stipulate aim) ≡ Some new
IsAfter old (tag name text) new = after_command old (tag name text) ≡ Some new
IsAfter old (insert at san) new = after_command old (insert at san) ≡ Some new
IsAfter old (node_command Delete at) new = after_command old (node_command Delete at) ≡ Some new
IsAfter old (node_command Promote at) new = after_command old (node_command Promote at) ≡ Some new
IsAfter old (node_command Mark at) new = new ≡ old
IsAfter old pgn new = new ≡ old
IsAfter old (node_query word at) new = new ≡ old
IsAfter old (table_command word name) new = new ≡ old
IsAfter old (solve count at) new = new ≡ old

-- ---- lines

-- the same for a line, which may have no command
abbrev pub after_line : Document → Asks → Option Document
after_line d (Ok None) = Some d
after_line d (Ok (Some command)) = after_command d command
after_line d (Err fault) = None

-- after these lines, if none is refused
abbrev pub after_lines : Option Document → List (List ℕ) → Option Document
after_lines d [] = d
after_lines None (line ∷ lines) = None
after_lines (Some d) (line ∷ lines) = after_lines (after_line d (command_of line)) lines

-- the document after an accepted line
abbrev pub IsAfterLine : Document → Asks → Document → Type 0
IsAfterLine old (Ok None) new = new ≡ old
IsAfterLine old (Ok (Some command)) new = IsAfter old command new
IsAfterLine old (Err fault) new = ⊥

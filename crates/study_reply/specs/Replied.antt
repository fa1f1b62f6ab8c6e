-- The text of a reply, by the outcome of a command.
use Rattle.std.specs.Prelude.{ℕ, List, [], ◌∷◌, ◌++◌, Option, Some, None, Result, Ok, Err, codes}
use Rattle.study_notation.specs.FenSpelling.{fen_text}
use Rattle.study_marks.specs.Study.{tag_name}
use Rattle.study_text.specs.Paths.{path_text}
use Rattle.study_reply.specs.declared.reply.Reply.{Reply}
use Rattle.study_reply.specs.declared.reply.Reply.TheVariants as done
use Rattle.study_reply.specs.declared.reply.LineRefusal.{LineRefusal}
use Rattle.study_reply.specs.declared.reply.LineRefusal.TheVariants.{Line, Edit}
use Rattle.study_reply.specs.Names.{words_of, edit_words}
use Rattle.study_reply.specs.TableReply.{table_text}
use Rattle.study_reply.specs.Words.{reply_line, stipulation_words, insert_text, mark_text, moves_text, solve_text, path_after_move_up}

-- the reply to a successful command
abbrev pub reply_text : {A : Type 0} → Reply A → List ℕ
reply_text (done.Position start) = reply_line (codes "position ") (fen_text start)
reply_text (done.Shift start) = reply_line (codes "shift ") (fen_text start)
reply_text (done.Stipulated stipulation) = stipulation_words stipulation
reply_text (done.Inserted steps place san) = insert_text (steps ++ place ∷ []) san.bytes
reply_text (done.Deleted steps) = reply_line (codes "delete ") (path_text steps)
reply_text (done.Promoted steps) = reply_line (codes "promote ") (path_text (path_after_move_up steps))
reply_text (done.Tagged name) = reply_line (codes "tag ") (tag_name name)
reply_text (done.Mark steps mark) = mark_text steps mark
reply_text (done.Moves start) = moves_text start.position
reply_text (done.Fen start) = reply_line (codes "fen ") (fen_text start)
reply_text (done.Solved plies) = solve_text plies
reply_text (done.Pgn game) = game.text.items
reply_text (done.Table reported) = table_text reported

abbrev pub refused_words : {A : Type 0} → LineRefusal A → List ℕ
refused_words (Line refusal) = words_of refusal
refused_words (Edit refusal) = edit_words refusal

-- the reply to a refused line: `error NoTable KRK`
abbrev pub error_text : {A : Type 0} → LineRefusal A → List ℕ
error_text refused = reply_line (codes "error ") (refused_words refused)

abbrev pub answer_text : {A : Type 0} → Result (Reply A) (LineRefusal A) → List ℕ
answer_text (Ok reply) = reply_text reply
answer_text (Err refused) = error_text refused

-- the outcome of the line of a command
abbrev pub of_command : {A : Type 0} → Result (Reply A) (LineRefusal A) → Result (Option (Reply A)) (LineRefusal A)
of_command (Ok reply) = Ok (Some reply)
of_command (Err refused) = Err refused

-- the reply to a line: none to a line without a command
abbrev pub line_text : {A : Type 0} → Result (Option (Reply A)) (LineRefusal A) → List ℕ
line_text (Ok None) = []
line_text (Ok (Some reply)) = reply_text reply
line_text (Err refused) = error_text refused

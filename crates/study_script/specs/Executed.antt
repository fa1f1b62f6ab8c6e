-- The outcome of a command, before its reply is written.
use Rattle.std.specs.Prelude.{◌≡◌, ℕ, is_err, List, Option, Some, Result, Ok, Err, if◌then◌else◌}
use Rattle.study_command.specs.Documents.{Document, empty, IsAfter, IsAfterLine}
use Rattle.study_command.specs.Parser.{Asked, Asks, command_of}
use Rattle.study_reply.specs.declared.reply.Reply.{Reply as Done}
use Rattle.study_reply.specs.declared.reply.LineRefusal.{LineRefusal}
use Rattle.study_reply.specs.Replied.{answer_text, line_text}
use Rattle.study_script.specs.State.{State, Environment}
use Rattle.study_script.specs.Replies.{Reply, begins_position}
use Rattle.study_script.specs.Written.{Piece}

-- the reply with this state after it
abbrev pub reply_of : {A : Type 0} → State → Result (Done A) (LineRefusal A) → Reply
reply_of s answer = record { text = answer_text answer; state = s; refused = is_err answer }

-- the reply has the property, in some environment, and the code is then in the state after it
abbrev pub Executed : {A : Type 0} → (Environment → Reply → Type 0) → (State → Type 0) → Result (Done A) (LineRefusal A) → Type 0
Executed IsIt HoldsIt answer = (o : Environment) × (t : State) × IsIt o (reply_of t answer) × HoldsIt t

-- the same for a line, which may have no command
abbrev pub line_reply : {A : Type 0} → State → Result (Option (Done A)) (LineRefusal A) → Reply
line_reply s answer = record { text = line_text answer; state = s; refused = is_err answer }

abbrev pub ExecutedLine : {A : Type 0} → (Environment → Reply → Type 0) → (State → Type 0) → Result (Option (Done A)) (LineRefusal A) → Type 0
ExecutedLine IsIt HoldsIt answer = (o : Environment) × (t : State) × IsIt o (line_reply t answer) × HoldsIt t

-- what is written for it, and whether it counts as refused
abbrev pub line_piece : {A : Type 0} → Result (Option (Done A)) (LineRefusal A) → Piece
line_piece answer = record { text = line_text answer; refused = is_err answer }

-- ---- the document, whatever the tables say

-- an accepted command leaves the document of the rules, and a refused one the document as it was
abbrev pub Leaves : {T E : Type 0} → Result T E → Asked → Document → Document → Type 0
Leaves (Ok done) asked old new = IsAfter old asked new
Leaves (Err refusal) asked old new = new ≡ old

abbrev pub LeavesLine : {T E : Type 0} → Result T E → Asks → Document → Document → Type 0
LeavesLine (Ok done) asks old new = IsAfterLine old asks new
LeavesLine (Err refusal) asks old new = new ≡ old

-- the same of a part of a command, to which the rules give this document
abbrev pub LeavesRuled : {T E : Type 0} → Result T E → Option Document → Document → Document → Type 0
LeavesRuled (Ok done) ruled old new = ruled ≡ Some new
LeavesRuled (Err refusal) ruled old new = new ≡ old

-- the same for a line if studies are kept apart: a refused `position` leaves no document
abbrev pub LeavesApart : {T E : Type 0} → Result T E → List ℕ → Document → Document → Type 0
LeavesApart (Ok done) line old new = IsAfterLine old (command_of line) new
LeavesApart (Err refusal) line old new = new ≡ (if begins_position line then empty else old)

-- Laws of every script.
use Rattle.std.specs.Prelude.{◌≡◌, ◌⊎◌, ℕ, Bool, true, false, List, map, Option, Some, None, Ok}
use Rattle.study_command.specs.declared.command.NodeCommand.TheVariants.{Delete, Promote}
use Rattle.study_command.specs.Documents.{Document, after_line}
use Rattle.study_command.specs.Parser.{Asks, fen_command, node_command, stipulate, insert, tag, pgn, command_of}
use Rattle.study_reply.specs.declared.refusal.Refusal.{Refusal}
use Rattle.study_reply.specs.declared.refusal.Refusal.TheVariants.{NoTable, TableRead, OutOfMemory}
use Rattle.study_script.specs.State.{State, Environment}
use Rattle.study_script.specs.Replies.{Reply, refused_reply, IsReply, Answer, AreReplies}

-- lines have exactly one list of replies, given the state before them and the environment of each of them, whether studies are kept apart or not
abbrev pub AreUnique : Type 0
AreUnique =
    (separate : Bool) (s : State) (lines : List (List ℕ)) (first second : List Answer) → map (λ a. a.0) first ≡ map (λ a. a.0) second
    → AreReplies separate s lines first → AreReplies separate s lines second → first ≡ second

-- ---- the rules

-- a line that edits the study, or asks for its PGN
abbrev pub is_ruled : Asks → Bool
is_ruled (Ok (Some (fen_command word fen))) = true
is_ruled (Ok (Some (stipulate aim))) = true
is_ruled (Ok (Some (insert at san))) = true
is_ruled (Ok (Some (tag name text))) = true
is_ruled (Ok (Some (node_command Delete at))) = true
is_ruled (Ok (Some (node_command Promote at))) = true
is_ruled (Ok (Some pgn)) = true
is_ruled _ = false

-- a table or memory is wanting
abbrev pub is_wanting : Refusal → Bool
is_wanting (NoTable c) = true
is_wanting (TableRead fault) = true
is_wanting OutOfMemory = true
is_wanting _ = false

-- what the rules allow is accepted, and then the document is theirs and nothing else has changed; or a table or memory is wanting; what they refuse is
-- refused, and changes nothing
abbrev pub IsByTheRules : State → Option Document → Reply → Type 0
IsByTheRules s (Some d) reply =
    ((reply.refused ≡ false) × (reply.state ≡ record s { document = d }))
    ⊎ ((why : Refusal) × (is_wanting why ≡ true) × (reply ≡ refused_reply s why))
IsByTheRules s None reply = (reply.refused ≡ true) × (reply.state ≡ s)

abbrev pub AreByTheRules : Type 0
AreByTheRules =
    (s : State) (line : List ℕ) (o : Environment) (reply : Reply) → is_ruled (command_of line) ≡ true → IsReply s line o reply
    → IsByTheRules s (after_line s.document (command_of line)) reply

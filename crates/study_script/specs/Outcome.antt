-- The outcome of a run over a script.
use Rattle.std.specs.Prelude.{◌≡◌, ℕ, ◌+◌, ◌-◌, ◌<◌, ◌≤◌, Bool, List, [], ◌∷◌, length, take, drop}
use Rattle.std.specs.Prelude.{slice_get, Option, Some, None, Result, Ok, Err, count_by, IsSomeAnd}
use Rattle.std.specs.List.{AllByRecursion}
use Rattle.std.specs.Io.KnownBytes.{Appends, Keeps}
use Rattle.study_text.specs.Taken.{TakesPrefix}
use Rattle.study_script.specs.declared.running.Summary.{Summary}
use Rattle.study_script.specs.declared.running.RunFault.{RunFault}
use Rattle.study_script.specs.declared.running.RunFault.TheVariants.{ReadDevice, WriteDevice, LineTooLong, TooManyLines, OutOfMemory}
use Rattle.study_command.specs.Lines.{script_lines, GaveFeeds}
use Rattle.study_command.specs.Documents.{empty}
use Rattle.study_script.specs.State.{State, StoreKnowledge, Environment}
use Rattle.study_script.specs.Replies.{Reply, Answer, IsReplyIn, AreReplies, replies_text}

-- the state before the first line: no document and no table
abbrev pub initial_state : StoreKnowledge → Bool → State
initial_state shelf paged = record { document = empty; classes = []; paged = paged; shelf = shelf }

-- no line has more than 1,024 bytes
abbrev pub AreShort : List (List ℕ) → Type 0
AreShort lines = AllByRecursion (λ line. length line ≤ 1024) lines

-- the number of replies that are errors
abbrev pub error_count : List Answer → ℕ
error_count replies = count_by (λ answer. answer.1.refused) replies

-- the replies to the lines are written
abbrev pub AreAnswered : Bool → State → List (List ℕ) → Option (List ℕ) → Option (List ℕ) → Type 0
AreAnswered separate first lines old new =
    AreShort lines × (replies : List Answer) × AreReplies separate first lines replies × Appends old new (replies_text replies)

-- the state after replies
abbrev pub state_after : State → List Answer → State
state_after s [] = s
state_after s (answer ∷ more) = state_after answer.1.state more

-- the replies to the lines are written, then a prefix of the reply to one more line, with at least one byte left out
abbrev pub AreBrokenOff : Bool → State → List (List ℕ) → List ℕ → Option (List ℕ) → Option (List ℕ) → Type 0
AreBrokenOff separate first lines line old new =
    AreShort lines × (length line ≤ 1024) × (replies : List Answer) × AreReplies separate first lines replies
    × (mid : Option (List ℕ)) × Appends old mid (replies_text replies)
    × (o : Environment) × (reply : Reply) × IsReplyIn separate (state_after first replies) line o reply × TakesPrefix mid new reply.text

-- these lines are left in a reader
abbrev pub AreLeft : Option (List ℕ) → List (List ℕ) → Type 0
AreLeft None lines = ⊥
AreLeft (Some rest) lines = script_lines rest ≡ lines

-- the outcome, given whether studies are kept apart, the first state, the bytes of a script, the bytes left in the reader, the writer's bytes
-- before and after, and the result of the run
abbrev pub Outcome : Bool → State → List ℕ → Option (List ℕ) → Option (List ℕ) → Option (List ℕ) → Result Summary RunFault → Type 0
Outcome separate first script left old new (Ok summary) =
    (length (script_lines script) ≤ 100000) × AreShort (script_lines script)
    × (replies : List Answer) × AreReplies separate first (script_lines script) replies × Appends old new (replies_text replies)
    × (summary.lines ≡ length (script_lines script)) × (summary.refused ≡ error_count replies)
-- exactly the lines whose ends were read are answered: the device failed within the next line
Outcome separate first script left old new (Err ReadDevice) = (n : ℕ) × (n ≤ 100000) × (n ≤ length (script_lines script))
    × GaveFeeds (Some script) left n
    × (rest : List ℕ) × (drop n (script_lines script) ≡ script_lines rest) × GaveFeeds (Some rest) left 0
    × AreAnswered separate first (take n (script_lines script)) old new
-- if the writer failed, the lines after the one whose reply is incomplete are left
Outcome separate first script left old new (Err WriteDevice) =
    (n : ℕ) × (n < 100000) × GaveFeeds (Some script) left (n + 1) × AreLeft left (drop (n + 1) (script_lines script))
    × IsSomeAnd (slice_get (script_lines script) n) (λ line. AreBrokenOff separate first (take n (script_lines script)) line old new)
Outcome separate first script left old new (Err (LineTooLong n)) = (0 < n) × (n ≤ 100000)
    × IsSomeAnd (slice_get (script_lines script) (n - 1)) (λ line. 1024 < length line)
    × AreAnswered separate first (take (n - 1) (script_lines script)) old new
Outcome separate first script left old new (Err TooManyLines) = (100000 < length (script_lines script))
    × AreAnswered separate first (take 100000 (script_lines script)) old new
-- memory is allocated before anything is read or written
Outcome separate first script left old new (Err OutOfMemory) = Keeps old new × (left ≡ Some script)

-- the outcome without the replies, for any interpreter and any store: the bytes of a script, the bytes left in the reader, and the result of the run
abbrev pub Shape : List ℕ → Option (List ℕ) → Result Summary RunFault → Type 0
Shape script left (Ok summary) = (length (script_lines script) ≤ 100000) × AreShort (script_lines script)
    × (summary.lines ≡ length (script_lines script)) × (summary.refused ≤ summary.lines)
Shape script left (Err ReadDevice) = (n : ℕ) × (n ≤ 100000) × (n ≤ length (script_lines script)) × GaveFeeds (Some script) left n
    × AreShort (take n (script_lines script))
Shape script left (Err WriteDevice) = (n : ℕ) × (n < 100000) × (n < length (script_lines script))
    × AreShort (take (n + 1) (script_lines script)) × AreLeft left (drop (n + 1) (script_lines script))
Shape script left (Err (LineTooLong n)) = (0 < n) × (n ≤ 100000) × AreShort (take (n - 1) (script_lines script))
    × IsSomeAnd (slice_get (script_lines script) (n - 1)) (λ line. 1024 < length line)
Shape script left (Err TooManyLines) = (100000 < length (script_lines script)) × AreShort (take 100000 (script_lines script))
Shape script left (Err OutOfMemory) = left ≡ Some script

-- The command in a line of a script.
use Rattle.std.specs.Prelude.{ℕ, ◌-◌, Bool, not, ◌&&◌, ◌==◌, nat_le, false, List, [], ◌∷◌, length}
use Rattle.std.specs.Prelude.{Option, Some, None, Result, Ok, Err, if◌then◌else◌, codes}
use Rattle.std.specs.List.{list_all}
use Rattle.std.specs.Str.{bytes_eq}
use Rattle.study_text.specs.Words.{words, is_space, begun_word, behind_word}
use Rattle.study_board.specs.declared.men.Side.{Side}
use Rattle.study_board.specs.declared.men.Side.TheVariants.{White, Black}
use Rattle.study_marks.specs.Edits.{is_printable}
use Rattle.study_marks.specs.declared.stipulation.Goal.{Goal}
use Rattle.study_marks.specs.declared.stipulation.Goal.TheVariants.{Win, Draw, MateIn}
use Rattle.study_marks.specs.declared.stipulation.Stipulation.{Stipulation}
use Rattle.study_marks.specs.declared.tag.TagName.{TagName}
use Rattle.study_marks.specs.declared.tag.TagName.TheVariants as tag_named
use Rattle.study_command.specs.declared.command.Keyword.{Keyword}
use Rattle.study_command.specs.declared.command.Keyword.TheVariants.{FromFen, Query, Node, Table, Stipulate, Insert, Tag, Solve, Pgn}
use Rattle.study_command.specs.declared.command.FenCommand.{FenCommand}
use Rattle.study_command.specs.declared.command.FenCommand.TheVariants.{Position, Shift}
use Rattle.study_command.specs.declared.command.NodeQuery.{NodeQuery}
use Rattle.study_command.specs.declared.command.NodeQuery.TheVariants.{Moves, Fen}
use Rattle.study_command.specs.declared.command.NodeCommand.{NodeCommand}
use Rattle.study_command.specs.declared.command.NodeCommand.TheVariants.{Delete, Promote, Mark}
use Rattle.study_command.specs.declared.command.TableCommand.{TableCommand}
use Rattle.study_command.specs.declared.command.TableCommand.TheVariants.{Build, Load, Save, Verify}
use Rattle.study_command.specs.declared.command.SyntaxFault.{SyntaxFault}
use Rattle.study_command.specs.declared.command.SyntaxFault.TheVariants.{BadByte, UnknownCommand, BadArguments, UnknownStipulation, UnknownTag}
use Rattle.study_command.specs.declared.command.Command.{Command}
use Rattle.study_command.specs.declared.command.Command.TheVariants as command
use Rattle.study_command.specs.declared.command.SolveDepth.{SolveDepth}
use Rattle.study_command.specs.declared.command.PathText.{PathText}
use Rattle.study_command.specs.Paths.{place_parsed, is_path_word, steps_of}

-- a command with its arguments read; a class is still a word, since the mode is checked before it
pub data Asked : Type 0 where
  fen_command : FenCommand → (fen : List ℕ) → Asked
  node_query : NodeQuery → (steps : List ℕ) → Asked
  node_command : NodeCommand → (steps : List ℕ) → Asked
  table_command : TableCommand → (name : List ℕ) → Asked
  stipulate : (stipulation : Stipulation) → Asked
  insert : (steps san : List ℕ) → Asked
  tag : (name : TagName) (text : List ℕ) → Asked
  solve : (count : ℕ) (steps : List ℕ) → Asked
  pgn : Asked

-- no command, a command, or the first fault of form
abbrev pub Asks : Type 0
Asks = Result (Option Asked) SyntaxFault

-- ---- words and texts

-- without the spaces at the end
abbrev pub trim_end : List ℕ → List ℕ
trim_end [] = []
trim_end (b ∷ bs) = if list_all is_space (b ∷ bs) then [] else b ∷ trim_end bs

-- without the spaces at both ends
unfoldable pub trim : List ℕ → List ℕ
trim text = trim_end (begun_word text)

-- the only word, if there is exactly one
abbrev pub one_word : List (List ℕ) → Option (List ℕ)
one_word (word ∷ []) = Some word
one_word _ = None

-- the two words, if there are exactly two
abbrev pub two_words : List (List ℕ) → Option (List ℕ × List ℕ)
two_words (first ∷ second ∷ []) = Some (first, second)
two_words _ = None

-- ---- the arguments

-- a text that is not empty
abbrev pub text_parsed : List ℕ → Option (List ℕ)
text_parsed rest = if length (trim rest) == 0 then None else Some (trim rest)

-- the places of a path
abbrev pub path_of : List ℕ → Option (List ℕ)
path_of word = if is_path_word word then Some (steps_of word) else None

-- a path, if there is exactly one word and it is a path
abbrev pub path_in : Option (List ℕ) → Option (List ℕ)
path_in None = None
path_in (Some word) = path_of word

-- `1`, `2` or `3`
abbrev pub count_parsed : List ℕ → Option ℕ
count_parsed (b ∷ []) = if nat_le 49 b && nat_le b 51 then Some (b - 48) else None
count_parsed _ = None

abbrev pub few_moves : Option ℕ → Option ℕ
few_moves None = None
few_moves (Some n) = if nat_le 1 n && nat_le n 127 then Some n else None

-- one to three digits, with a value from 1 to 127
abbrev pub mate_moves_of : List ℕ → Option ℕ
mate_moves_of word = few_moves (place_parsed word)

abbrev pub side_parsed : List ℕ → Option Side
side_parsed word = if bytes_eq word (codes "white") then Some White else (if bytes_eq word (codes "black") then Some Black else None)

abbrev pub mate_in : Option ℕ → Option Goal
mate_in None = None
mate_in (Some count) = Some (MateIn count)

-- `win`, `draw` or `mate K`
abbrev pub goal_of : List (List ℕ) → Option Goal
goal_of (word ∷ []) = if bytes_eq word (codes "win") then Some Win else (if bytes_eq word (codes "draw") then Some Draw else None)
goal_of (word ∷ count ∷ []) = if bytes_eq word (codes "mate") then mate_in (mate_moves_of count) else None
goal_of _ = None

abbrev pub stipulation_by : Option Side → Option Goal → Option Stipulation
stipulation_by (Some hero) (Some goal) = Some (record { hero = hero; goal = goal })
stipulation_by _ _ = None

-- `SIDE GOAL`
abbrev pub stipulation_of : List (List ℕ) → Option Stipulation
stipulation_of [] = None
stipulation_of (side ∷ goal) = stipulation_by (side_parsed side) (goal_of goal)

-- the name of a tag that can be set
abbrev pub tag_parsed : List ℕ → Option TagName
tag_parsed word =
    if bytes_eq word (codes "Event") then Some tag_named.Event
    else (if bytes_eq word (codes "Site") then Some tag_named.Site
    else (if bytes_eq word (codes "Date") then Some tag_named.Date
    else (if bytes_eq word (codes "Round") then Some tag_named.Round
    else (if bytes_eq word (codes "White") then Some tag_named.White
    else (if bytes_eq word (codes "Black") then Some tag_named.Black
    else None)))))

-- ---- the commands

-- the arguments of a command, or the fault that they are missing or wrong
abbrev pub arguments_needed : Option Asked → Asks
arguments_needed None = Err BadArguments
arguments_needed (Some asked) = Ok (Some asked)

abbrev pub with_text : (List ℕ → Asked) → Option (List ℕ) → Option Asked
with_text asked None = None
with_text asked (Some text) = Some (asked text)

abbrev pub stipulate_asked : Option Stipulation → Asks
stipulate_asked None = Err UnknownStipulation
stipulate_asked (Some stipulation) = Ok (Some (stipulate stipulation))

-- `insert PATH SAN`
abbrev pub insert_at : Option (List ℕ) → List ℕ → Option Asked
insert_at None san = None
insert_at (Some steps) san = Some (insert steps san)

abbrev pub insert_asked : Option (List ℕ × List ℕ) → Option Asked
insert_asked None = None
insert_asked (Some pair) = insert_at (path_of pair.0) pair.1

-- `solve K PATH`
abbrev pub solve_at : Option ℕ → Option (List ℕ) → Option Asked
solve_at (Some count) (Some steps) = Some (solve count steps)
solve_at _ _ = None

abbrev pub solve_asked : Option (List ℕ × List ℕ) → Option Asked
solve_asked None = None
solve_asked (Some pair) = solve_at (count_parsed pair.0) (path_of pair.1)

-- `tag NAME TEXT`: the name is checked before the text
abbrev pub tag_named_asked : Option TagName → Option (List ℕ) → Asks
tag_named_asked None text = Err UnknownTag
tag_named_asked (Some name) None = Err BadArguments
tag_named_asked (Some name) (Some text) = Ok (Some (tag name text))

abbrev pub tag_asked : List ℕ → List (List ℕ) → Asks
tag_asked rest [] = Err BadArguments
tag_asked rest (name ∷ more) = tag_named_asked (tag_parsed name) (text_parsed (behind_word rest))

abbrev pub pgn_asked : List (List ℕ) → Option Asked
pgn_asked [] = Some pgn
pgn_asked (word ∷ more) = None

-- the command of the first word of a line and the rest
unfoldable pub word_asked : Keyword → List ℕ → Asks
word_asked (FromFen word) rest = arguments_needed (with_text (fen_command word) (text_parsed rest))
word_asked (Query word) rest = arguments_needed (with_text (node_query word) (path_in (one_word (words rest))))
word_asked (Node word) rest = arguments_needed (with_text (node_command word) (path_in (one_word (words rest))))
word_asked (Table word) rest = arguments_needed (with_text (table_command word) (one_word (words rest)))
word_asked Stipulate rest = stipulate_asked (stipulation_of (words rest))
word_asked Insert rest = arguments_needed (insert_asked (two_words (words rest)))
word_asked Tag rest = tag_asked rest (words rest)
word_asked Solve rest = arguments_needed (solve_asked (two_words (words rest)))
word_asked Pgn rest = arguments_needed (pgn_asked (words rest))

unfoldable pub word_of : List ℕ → Option Keyword
word_of word =
    if bytes_eq word (codes "position") then Some (FromFen Position)
    else (if bytes_eq word (codes "shift") then Some (FromFen Shift)
    else (if bytes_eq word (codes "stipulate") then Some Stipulate
    else (if bytes_eq word (codes "insert") then Some Insert
    else (if bytes_eq word (codes "delete") then Some (Node Delete)
    else (if bytes_eq word (codes "promote") then Some (Node Promote)
    else (if bytes_eq word (codes "tag") then Some Tag
    else (if bytes_eq word (codes "mark") then Some (Node Mark)
    else (if bytes_eq word (codes "moves") then Some (Query Moves)
    else (if bytes_eq word (codes "fen") then Some (Query Fen)
    else (if bytes_eq word (codes "solve") then Some Solve
    else (if bytes_eq word (codes "build") then Some (Table Build)
    else (if bytes_eq word (codes "load") then Some (Table Load)
    else (if bytes_eq word (codes "save") then Some (Table Save)
    else (if bytes_eq word (codes "verify") then Some (Table Verify)
    else (if bytes_eq word (codes "pgn") then Some Pgn
    else None)))))))))))))))

-- ---- the line

abbrev pub begins_comment : List ℕ → Bool
begins_comment [] = false
begins_comment (b ∷ bs) = b == 35

abbrev pub asked_with : Option Keyword → List ℕ → Asks
asked_with None rest = Err UnknownCommand
asked_with (Some word) rest = word_asked word rest

abbrev pub line_asked : List ℕ → List (List ℕ) → Asks
line_asked line [] = Ok None
line_asked line (first ∷ arguments) =
    if begins_comment first then Ok None
    else (if not (list_all is_printable line) then Err BadByte
    else asked_with (word_of first) (behind_word line))

-- a line of spaces has no command, nor has one that begins, after spaces, with `#`
unfoldable pub command_of : List ℕ → Asks
command_of line = line_asked line (words line)

-- ---- a command as contracts see it

abbrev pub count_seen : SolveDepth → ℕ
count_seen count = count.number

abbrev pub path_seen : PathText → List ℕ
path_seen path = steps_of path.word.now

abbrev pub command_seen : Command → Asked
command_seen (command.FromFen word text) = fen_command word text.now
command_seen (command.Query word path) = node_query word (path_seen path)
command_seen (command.Node word path) = node_command word (path_seen path)
command_seen (command.Table word name) = table_command word name.now
command_seen (command.Stipulate stipulation) = stipulate stipulation
command_seen (command.Insert path text) = insert (path_seen path) text.now
command_seen (command.Tag name text) = tag name text.now
command_seen (command.Solve count path) = solve count.number (path_seen path)
command_seen command.Pgn = pgn

abbrev pub line_seen : Result (Option Command) SyntaxFault → Asks
line_seen (Ok None) = Ok None
line_seen (Ok (Some command)) = Ok (Some (command_seen command))
line_seen (Err fault) = Err fault

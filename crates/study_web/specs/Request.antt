-- The request that a line of words spells.
use Rattle.std.specs.Prelude.{ℕ, ◌+◌, ◌*◌, ◌-◌, Bool, true, false, ◌&&◌, nat_le, List, [], ◌∷◌, codes, Option, Some, None, Result, Ok, Err, if◌then◌else◌}
use Rattle.std.specs.List.{list_all}
use Rattle.std.specs.Str.{bytes_eq}
use Rattle.study_board.specs.declared.men.Side.{Side}
use Rattle.study_material.specs.declared.class.Class.{Class}
use Rattle.study_notation.specs.declared.fault.FenFault.{FenFault}
use Rattle.study_notation.specs.declared.start.Start.{Start}
use Rattle.study_notation.specs.Fen.{start_of}
use Rattle.study_text.specs.Words.{words, behind_word}
use Rattle.study_marks.specs.Edits.{is_printable}
use Rattle.study_marks.specs.declared.stipulation.Goal.{Goal}
use Rattle.study_marks.specs.declared.stipulation.Goal.TheVariants.{Win, Draw}
use Rattle.study_marks.specs.declared.stipulation.Stipulation.{Stipulation}
use Rattle.study_command.specs.Parser.{one_word, path_of, path_seen, side_parsed, mate_in, mate_moves_of}
use Rattle.study_command.specs.declared.command.SyntaxFault.TheVariants.{BadByte, UnknownCommand, BadArguments, UnknownStipulation}
use Rattle.study_reply.specs.declared.refusal.Refusal.{Refusal}
use Rattle.study_reply.specs.declared.refusal.Refusal.TheVariants.{Form, NotAClass, Fen}
use Rattle.study_script.specs.Replies.{class_parsed}
use Rattle.study_search.specs.declared.only_moves.Outcome.{Outcome}
use Rattle.study_listing.specs.Requests.{outcome_named}
use Rattle.study_import.specs.Imported.{whole_file}
use Rattle.study_web.specs.Asked.{Asked, Asks, run, review, report, tables, wording, remarks, make, view, survey, passed, find, unread, row, bring}
use Rattle.study_web.specs.FindWords.{find_asked}
use Rattle.study_web.specs.declared.request.Request.{Request}
use Rattle.study_web.specs.declared.request.Request.TheVariants as request

-- nothing follows the word
abbrev pub without_arguments : Asked → List (List ℕ) → Asks
without_arguments asked [] = Ok asked
without_arguments asked (word ∷ more) = Err (Form BadArguments)

-- ---- the arguments

abbrev pub make_of : Option Class → Asks
make_of None = Err NotAClass
make_of (Some c) = Ok (make c)

abbrev pub make_asked : Option (List ℕ) → Asks
make_asked None = Err (Form BadArguments)
make_asked (Some name) = make_of (class_parsed name)

abbrev pub view_of : Option (List ℕ) → Asks
view_of None = Err (Form BadArguments)
view_of (Some steps) = Ok (view steps)

abbrev pub view_asked : Option (List ℕ) → Asks
view_asked None = Err (Form BadArguments)
view_asked (Some word) = view_of (path_of word)

-- a start, or the first fault of its FEN
abbrev pub with_start : (Start → Asked) → Result Start FenFault → Asks
with_start asked (Ok start) = Ok (asked start)
with_start asked (Err fault) = Err (Fen fault)

-- a file and a rank
abbrev pub square_parsed : List ℕ → Option ℕ
square_parsed (file ∷ rank ∷ []) =
    if nat_le 97 file && nat_le file 104 && (nat_le 49 rank && nat_le rank 56) then Some (8 * (rank - 49) + (file - 97)) else None
square_parsed _ = None

-- `win`, `draw` or `mate K`, and the rest
abbrev pub with_rest : Option Goal → List ℕ → Option (Goal × List ℕ)
with_rest None rest = None
with_rest (Some goal) rest = Some (goal, rest)

abbrev pub mate_begun : List (List ℕ) → List ℕ → Option (Goal × List ℕ)
mate_begun [] text = None
mate_begun (count ∷ more) text = with_rest (mate_in (mate_moves_of count)) (behind_word text)

abbrev pub goal_begun : List (List ℕ) → List ℕ → Option (Goal × List ℕ)
goal_begun [] text = None
goal_begun (word ∷ more) text =
    if bytes_eq word (codes "win") then Some (Win, behind_word text)
    else (if bytes_eq word (codes "draw") then Some (Draw, behind_word text)
    else (if bytes_eq word (codes "mate") then mate_begun (words (behind_word text)) (behind_word text)
    else None))

-- `SIDE GOAL`, and the rest
abbrev pub aimed_at : Option Side → Option (Goal × List ℕ) → Option (Stipulation × List ℕ)
aimed_at (Some hero) (Some (goal, rest)) = Some (record { hero = hero; goal = goal }, rest)
aimed_at _ _ = None

abbrev pub stipulation_begun : List (List ℕ) → List ℕ → Option (Stipulation × List ℕ)
stipulation_begun [] text = None
stipulation_begun (side ∷ more) text = aimed_at (side_parsed side) (goal_begun (words (behind_word text)) (behind_word text))

-- `SQUARE SIDE GOAL FEN`
abbrev pub survey_for : ℕ → Option (Stipulation × List ℕ) → Asks
survey_for square None = Err (Form UnknownStipulation)
survey_for square (Some (stipulation, fen)) = with_start (survey square stipulation) (start_of fen)

abbrev pub survey_at : Option ℕ → List ℕ → Asks
survey_at None text = Err (Form BadArguments)
survey_at (Some square) text = survey_for square (stipulation_begun (words text) text)

abbrev pub survey_asked : List (List ℕ) → List ℕ → Asks
survey_asked [] text = Err (Form BadArguments)
survey_asked (square ∷ more) text = survey_at (square_parsed square) (behind_word text)

-- `win FEN` or `draw FEN`
abbrev pub row_for : Option Outcome → List ℕ → Asks
row_for None fen = Err (Form BadArguments)
row_for (Some o) fen = with_start (row o) (start_of fen)

abbrev pub row_asked : List (List ℕ) → List ℕ → Asks
row_asked [] text = Err (Form BadArguments)
row_asked (outcome ∷ more) text = row_for (outcome_named outcome) (behind_word text)

-- nothing, or `SIDE GOAL`
abbrev pub brought_for : Bool → Option (Stipulation × List ℕ) → Asks
brought_for up_to_faults None = Err (Form UnknownStipulation)
brought_for up_to_faults (Some (stipulation, rest)) = without_arguments (bring (whole_file (Some stipulation) up_to_faults)) (words rest)

abbrev pub import_asked : Bool → List (List ℕ) → List ℕ → Asks
import_asked up_to_faults [] text = Ok (bring (whole_file None up_to_faults))
import_asked up_to_faults (side ∷ more) text = brought_for up_to_faults (stipulation_begun (side ∷ more) text)

-- ---- the request

-- the first word, and the text after it
unfoldable pub word_asked : List ℕ → List ℕ → Asks
word_asked word rest =
    if bytes_eq word (codes "run") then without_arguments run (words rest)
    else (if bytes_eq word (codes "view") then view_asked (one_word (words rest))
    else (if bytes_eq word (codes "review") then without_arguments review (words rest)
    else (if bytes_eq word (codes "report") then without_arguments report (words rest)
    else (if bytes_eq word (codes "survey") then survey_asked (words rest) rest
    else (if bytes_eq word (codes "tables") then without_arguments tables (words rest)
    else (if bytes_eq word (codes "passed") then with_start passed (start_of rest)
    else (if bytes_eq word (codes "make") then make_asked (one_word (words rest))
    else (if bytes_eq word (codes "find") then find_asked (words rest)
    else (if bytes_eq word (codes "import") then import_asked false (words rest) rest
    else (if bytes_eq word (codes "import-up-to-faults") then import_asked true (words rest) rest
    else (if bytes_eq word (codes "row") then row_asked (words rest) rest
    else (if bytes_eq word (codes "words") then without_arguments wording (words rest)
    else (if bytes_eq word (codes "remarks") then without_arguments remarks (words rest)
    else Err (Form UnknownCommand))))))))))))))

abbrev pub words_asked : List (List ℕ) → List ℕ → Asks
words_asked [] line = Err (Form UnknownCommand)
words_asked (word ∷ more) line = word_asked word (behind_word line)

-- the request of the line, or the first reason why it is not valid
unfoldable pub request_of : List ℕ → Asks
request_of line = if list_all is_printable line then words_asked (words line) line else Err (Form BadByte)

-- ---- the parts of a request that contracts name

abbrev pub request_seen : Request → Asked
request_seen request.Run = run
request_seen (request.Make c) = make c
request_seen (request.View path) = view (path_seen path)
request_seen request.Review = review
request_seen request.Report = report
request_seen (request.Survey s) = survey s.square s.stipulation s.start
request_seen request.Tables = tables
request_seen (request.Passed start) = passed start
request_seen (request.Find piece) = find piece
request_seen (request.Unread fault) = unread fault
request_seen (request.Import choice) = bring choice
request_seen (request.Row r) = row r.outcome r.start
request_seen request.Words = wording
request_seen request.Remarks = remarks

abbrev pub asks_seen : Result Request Refusal → Asks
asks_seen (Ok r) = Ok (request_seen r)
asks_seen (Err refusal) = Err refusal

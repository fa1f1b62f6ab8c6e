-- Words that a page shows without a reply that has them, a line each.
use Rattle.std.specs.Prelude.{ℕ, false, true, List, [], ◌++◌, Option, Some, None, codes}
use Rattle.std.specs.List.{flat_map}
use Rattle.study_board.specs.declared.men.Side.TheVariants as side
use Rattle.study_values.specs.declared.value.Value.TheVariants.{Win, Loss, Draw}
use Rattle.study_text.specs.Words.{words}
use Rattle.study_command.specs.declared.command.Keyword.{Keyword}
use Rattle.study_command.specs.declared.command.CommandKind.{CommandKind}
use Rattle.study_command.specs.declared.command.CommandKind.TheVariants as kind
use Rattle.study_command.specs.Kinds.{kind_of}
use Rattle.study_command.specs.Parser.{word_of}
use Rattle.study_reply.specs.Reasons.{reason_of}
use Rattle.study_print.specs.LeftOut.{game_reason}
use Rattle.study_pgn.specs.Values.{value_text}
use Rattle.study_facts.specs.declared.zugzwang.Zugzwang.{Zugzwang}
use Rattle.study_facts.specs.declared.zugzwang.Zugzwang.TheVariants.{Full, Half}
use Rattle.study_marks.specs.declared.stipulation.Goal.TheVariants as goals
use Rattle.study_head.specs.declared.verdict.Stamp.TheVariants.{Wins, Mates, Misses, Correct, Sound, NotRead, Refuted, Works}
use Rattle.study_head.specs.Verdict.{stamp_words, sentence, start_words}
use Rattle.study_head.specs.Head.{title_words}
use Rattle.study_page.specs.Page.{tries_title, zugzwangs_title, missing_title, ends_title}
use Rattle.study_page.specs.Rows.{later_words, by_words, loses_time, gives_up_goal, points_words, to_move_words, keeps_draw_words}
use Rattle.study_web.specs.declared.answers.core_words.Group.{Group}
use Rattle.study_web.specs.declared.answers.core_words.Group.TheVariants as group
use Rattle.study_web.specs.Reported.{line_of}

-- `refused BadByte a letter outside plain ASCII`
abbrev pub word_line : List ℕ → List ℕ → List ℕ → List ℕ
word_line group name words = group ++ (codes " " ++ (name ++ (codes " " ++ line_of words)))

-- ---- by names

-- the names of refusals that have reasons of their own
unfoldable pub refusal_names : List ℕ
refusal_names =
    codes "BadByte UnknownCommand BadArguments UnknownStipulation UnknownTag TagText NoPosition NoStudy NoSuchNode NotSan CastlingLeftOut "
    ++ (codes "NoSuchMove Ambiguous AlreadyThere RootNotAllowed AlreadyFirst TooDeep TreeFull ShiftBroken FieldCount Placement TooManyMen KingCount "
    ++ codes "PawnOnEndRank SideField OpponentInCheck Castling EnPassantField EnPassantImpossible Clock MoveNumber NotAClass NoTable TableRead OutOfMemory")

-- the names of faults for which only a game is left out
unfoldable pub game_names : List ℕ
game_names =
    codes "GameTooLarge TagForm OpenString NoStipulation StipulationUnread TagTwice TagInMoves Numbering NullMove BehindWord BehindResult Byte OpenComment "
    ++ codes "NoMoveBefore NotOpened OpenVariation TooNested"

-- the first words of commands
unfoldable pub command_names : List ℕ
command_names = codes "position shift stipulate insert delete promote tag mark moves fen solve build load save verify pgn"

abbrev pub kind_name : CommandKind → List ℕ
kind_name kind.Edit = codes "edit"
kind_name kind.Question = codes "question"
kind_name kind.Table = codes "table"

abbrev pub keyword_kind : Option Keyword → List ℕ
keyword_kind None = []
keyword_kind (Some word) = kind_name (kind_of word)

abbrev pub group_name : Group → List ℕ
group_name group.Refused = codes "refused"
group_name group.LeftOut = codes "left-out"
group_name group.Command = codes "command"

-- what is said of a name: why a line is refused, why a game is left out, or what a command is for
abbrev pub group_words : Group → List ℕ → List ℕ
group_words group.Refused name = reason_of name
group_words group.LeftOut name = game_reason name
group_words group.Command name = keyword_kind (word_of name)

abbrev pub name_line : Group → List ℕ → List ℕ
name_line g name = word_line (group_name g) name (group_words g name)

unfoldable pub name_lines : Group → List ℕ → List ℕ
name_lines g names = flat_map (name_line g) (words names)

-- ---- words and examples, whose names and numbers a page replaces

abbrev pub said_line : List ℕ → List ℕ → List ℕ
said_line name words = word_line (codes "word") name words

unfoldable pub value_lines : List ℕ
value_lines =
    said_line (codes "draw") (value_text side.White Draw) ++ (said_line (codes "mate") (value_text side.White (Loss 0))
    ++ (said_line (codes "mates") (value_text side.White (Win 1)) ++ said_line (codes "start") (start_words side.White Draw)))

unfoldable pub stamp_lines : List ℕ
stamp_lines =
    said_line (codes "correct") (stamp_words Correct)
    ++ (said_line (codes "time") (stamp_words (Sound true None)) ++ said_line (codes "unread") (stamp_words (NotRead 1)))

unfoldable pub wrong_lines : List ℕ
wrong_lines =
    said_line (codes "wins") (stamp_words (Wins side.White)) ++ (said_line (codes "sooner") (stamp_words (Mates side.White (Win 1)))
    ++ said_line (codes "misses") (stamp_words (Misses (record { hero = side.White; goal = goals.Win }))))

-- of a try
unfoldable pub try_lines : List ℕ
try_lines = said_line (codes "refuted") (stamp_words Refuted) ++ said_line (codes "works") (stamp_words Works)

unfoldable pub sentence_lines : List ℕ
sentence_lines =
    said_line (codes "unread-sentence") (sentence false (NotRead 1))

unfoldable pub verdict_lines : List ℕ
verdict_lines = value_lines ++ (stamp_lines ++ (wrong_lines ++ (try_lines ++ sentence_lines)))

-- of the parts of a printed page
unfoldable pub title_lines : List ℕ
title_lines =
    said_line (codes "untitled") (title_words []) ++ (said_line (codes "root") (codes "the start")
    ++ (said_line (codes "tries") tries_title ++ said_line (codes "zugzwangs") zugzwangs_title))

unfoldable pub last_title_lines : List ℕ
last_title_lines =
    said_line (codes "defences") missing_title
    ++ (said_line (codes "ends") ends_title ++ said_line (codes "list") (codes "Entries and verdicts"))

-- of their tables, with tabs between them
unfoldable pub head_lines : List ℕ
head_lines =
    said_line (codes "tries-heads") (codes "After\tResult\tRefuted by")
    ++ (said_line (codes "zugzwangs-heads") (codes "After\tWhite to move\tBlack to move")
    ++ (said_line (codes "ends-heads") (codes "After\tValue\tContinuation")
    ++ said_line (codes "list-heads") (codes "No.\tTitle\tAuthor\tStipulation\tVerdict")))

unfoldable pub page_lines : List ℕ
page_lines = title_lines ++ (last_title_lines ++ head_lines)

-- what is said of moves
unfoldable pub said_lines : List ℕ
said_lines =
    said_line (codes "as-quick") (later_words 1 1) ++ (said_line (codes "loses-time") loses_time
    ++ (said_line (codes "lets-go") gives_up_goal ++ said_line (codes "stalemate") (codes "stalemate")))

unfoldable pub keep_line : List ℕ
keep_line = said_line (codes "keep") keeps_draw_words

-- how much later another move mates, and how many answers there are
unfoldable pub later_lines : List ℕ
later_lines =
    said_line (codes "longer") (by_words 1 (codes "longer"))
    ++ (said_line (codes "quicker") (by_words 1 (codes "quicker")) ++ said_line (codes "answers") (codes "2 answers"))

unfoldable pub move_lines : List ℕ
move_lines = said_lines ++ (keep_line ++ later_lines)

-- how much of a point a mutual zugzwang is, and what comes of it with White and with Black to move
unfoldable pub zugzwang_words : Zugzwang → List ℕ
zugzwang_words z = points_words z ++ (codes "\t" ++ (to_move_words z side.White ++ (codes "\t" ++ to_move_words z side.Black)))

unfoldable pub zugzwang_lines : List ℕ
zugzwang_lines =
    said_line (codes "full") (zugzwang_words Full) ++ (said_line (codes "half-white") (zugzwang_words (Half side.White))
    ++ said_line (codes "half-black") (zugzwang_words (Half side.Black)))

-- ---- the answer

unfoldable pub explained_lines : List ℕ
explained_lines =
    name_lines group.Refused refusal_names ++ (name_lines group.LeftOut game_names ++ name_lines group.Command command_names)

unfoldable pub core_words : List ℕ
core_words = explained_lines ++ (verdict_lines ++ (page_lines ++ (move_lines ++ zugzwang_lines)))

-- The text written for a game.
use Rattle.std.specs.Prelude.{ℕ, ◌+◌, ◌-◌, ◌^◌, min, Bool, true, false, not, ◌&&◌, ◌||◌, ◌==◌, nat_le, List, [], ◌∷◌, ◌++◌, length, take, drop, map}
use Rattle.std.specs.Prelude.{codes, decimal, count_by}
use Rattle.std.specs.Prelude.{Option, Some, None, Result, Ok, Err, is_ok, if◌then◌else◌}
use Rattle.std.specs.List.{flat_map}
use Rattle.std.specs.Str.{bytes_eq}
use Rattle.study_board.specs.declared.men.Side.{Side}
use Rattle.study_board.specs.declared.men.Side.TheVariants.{White, Black}
use Rattle.study_notation.specs.declared.start.Start.{Start}
use Rattle.study_notation.specs.declared.fault.FenFault.{FenFault}
use Rattle.study_notation.specs.declared.fault.FenFault.TheVariants as fen
use Rattle.study_notation.specs.Fen.{start_of}
use Rattle.study_notation.specs.FenSpelling.{fen_text}
use Rattle.study_tree.specs.Forest.{none}
use Rattle.study_tree.specs.Tree.{size_of}
use Rattle.study_marks.specs.declared.stipulation.Goal.{Goal}
use Rattle.study_marks.specs.declared.stipulation.Goal.TheVariants.{Win, Draw, MateIn}
use Rattle.study_marks.specs.declared.stipulation.Stipulation.{Stipulation}
use Rattle.study_marks.specs.declared.tag.TagName.{TagName}
use Rattle.study_marks.specs.declared.tag.TagName.TheVariants as tag_named
use Rattle.study_marks.specs.Study.{tag_name}
use Rattle.study_marks.specs.Edits.{PlainStudy, is_printable}
use Rattle.study_reply.specs.Names.{fen_name, san_name}
use Rattle.study_games.specs.Bytes.{is_blank, is_letter, is_digit, is_symbol_byte}
use Rattle.study_games.specs.Tokens.{front, behind}
use Rattle.study_games.specs.Words.{first_word, trim}
use Rattle.study_games.specs.Games.{Game, one_more}
use Rattle.study_games.specs.Header.{Pair, tags_of, header_fault, value_of, named_count, unescape}
use Rattle.study_games.specs.Ascii.{spelled_out, short_text}
use Rattle.study_games.specs.Characters.{is_utf8}
use Rattle.study_games.specs.declared.language.Language.{Language}
use Rattle.study_games.specs.declared.language.Language.TheVariants.{German, French, Spanish, Dutch}
use Rattle.study_games.specs.Languages.{language_name, in_english}
use Rattle.study_games.specs.Closed.{closed_text}
use Rattle.study_games.specs.declared.header.HeaderFault.{HeaderFault}
use Rattle.study_games.specs.declared.symbols.Outcome.{Outcome}
use Rattle.study_games.specs.declared.token.TokenFault.{TokenFault}
use Rattle.study_games.specs.declared.token.TokenFault.TheVariants as token
use Rattle.study_remark.specs.declared.remark.Doubt.{Doubt}
use Rattle.study_remark.specs.declared.remark.Doubt.TheVariants as doubt
use Rattle.study_remark.specs.declared.remark.Original.{Original}
use Rattle.study_remark.specs.declared.remark.Original.TheVariants as original
use Rattle.study_remark.specs.Remarks as told
use Rattle.study_reading.specs.declared.lines.LineFault.{LineFault}
use Rattle.study_reading.specs.declared.lines.LineFault.TheVariants as line_fault
use Rattle.study_reading.specs.declared.moves.MoveFault.{MoveFault}
use Rattle.study_reading.specs.declared.moves.MoveFault.TheVariants as move_fault
use Rattle.study_reading.specs.declared.token_effects.Reason.{Reason}
use Rattle.study_reading.specs.declared.token_effects.Reason.TheVariants as reason
use Rattle.study_reading.specs.declared.movetext.MovesFault.{MovesFault}
use Rattle.study_reading.specs.declared.movetext.Stop.{Stop}
use Rattle.study_reading.specs.declared.movetext.Stop.TheVariants as stop
use Rattle.study_reading.specs.declared.aims.Aim.{Aim}
use Rattle.study_reading.specs.declared.aims.Doubts.{Doubts}
use Rattle.study_reading.specs.declared.aims.Sources.{Sources}
use Rattle.study_reading.specs.declared.notes.Notes.{Notes}
use Rattle.study_import.specs.declared.block.Reported.{Reported as ReportedRead}
use Rattle.study_import.specs.declared.counts.Count.{Count}
use Rattle.study_import.specs.declared.importer.Choice.{Choice}
use Rattle.study_import.specs.declared.places.Place.{Place}
use Rattle.study_import.specs.declared.places.Entry.{Entry as EntryRead}
use Rattle.study_reading.specs.Aims.{or_stipulation, signed_by, aim_stated, is_unread_tag, outcome_of_tag, aim_by_sources, unaimed_words}
use Rattle.study_reading.specs.Notes.{none_yet}
use Rattle.study_reading.specs.Taken.{reading_of}
use Rattle.study_import.specs.FewMen.{GameRead, Ended, read_moves}
use Rattle.study_reading.specs.Behind.{to_the_end}
use Rattle.study_reading.specs.Movetext as movetext
use Rattle.study_wide_text.specs.declared.start.WideStart.{WideStart}
use Rattle.study_wide_text.specs.Fen.{wide_start_of}
use Rattle.study_tails.specs.declared.blocks.GameLeftOut.{GameLeftOut}
use Rattle.study_tails.specs.Study.{WideStudy, with_wide_stipulation, with_wide_tag}
use Rattle.study_tails.specs.Followed.{wide_men, no_wide_moves}
use Rattle.study_tails.specs.Tails.{tails, tail}
use Rattle.study_tails.specs.Blocks.{wide_text, game_reason, game_words}
use Rattle.study_import.specs.Tails.{Tail, position_text, tail_in}

-- ---- places

abbrev pub moved_on : Place → ℕ → Place
moved_on p b = if b == 10 then record { line = one_more p.line; column = 1 } else record { line = p.line; column = one_more p.column }

-- the place after a text that begins at a place; columns are counted in bytes
abbrev pub place_behind : Place → List ℕ → Place
place_behind p [] = p
place_behind p (b ∷ bs) = place_behind (moved_on p b) bs

-- a game of a file: its number, the number of its first line, and its bytes
pub record Entry : Type 0 where
  pub number : ℕ
  pub line : ℕ
  pub text : List ℕ

-- the entry as contracts see it
abbrev pub entry_seen : EntryRead → Entry
entry_seen e = record { number = e.number; line = e.line; text = e.text.now }

-- the text from a place on, given the number of bytes left
abbrev pub text_at : Entry → ℕ → List ℕ
text_at e left = drop (length e.text - left) e.text

abbrev pub place_in : Entry → ℕ → Place
place_in e left = place_behind (record { line = e.line; column = 1 }) (take (length e.text - left) e.text)

-- ---- names of faults

abbrev pub token_name : TokenFault → List ℕ
token_name token.OpenComment = codes "OpenComment"
token_name token.TagForm = codes "TagForm"
token_name token.OpenString = codes "OpenString"
token_name token.Byte = codes "Byte"

abbrev pub move_name : MoveFault → List ℕ
move_name move_fault.NoSuchNode = codes "NoSuchNode"
move_name (move_fault.San fault) = san_name fault
move_name move_fault.TooDeep = codes "TooDeep"
move_name move_fault.TreeFull = codes "TreeFull"
move_name move_fault.OutOfMemory = codes "OutOfMemory"

abbrev pub line_name : LineFault → List ℕ
line_name line_fault.NoMoveBefore = codes "NoMoveBefore"
line_name line_fault.TooNested = codes "TooNested"
line_name line_fault.NotOpened = codes "NotOpened"
line_name line_fault.OutOfMemory = codes "OutOfMemory"

abbrev pub reason_name : Reason → List ℕ
reason_name (reason.Move fault) = move_name fault
reason_name (reason.Line fault) = line_name fault
reason_name reason.TagInMoves = codes "TagInMoves"
reason_name reason.NullMove = codes "NullMove"
reason_name reason.BehindWord = codes "BehindWord"

abbrev pub stop_name : Stop → List ℕ
stop_name (stop.Token fault) = token_name fault
stop_name (stop.Taking why) = reason_name why
stop_name stop.OpenVariation = codes "OpenVariation"
stop_name stop.Numbering = codes "Numbering"
stop_name stop.BehindResult = codes "BehindResult"

abbrev pub run_words : (ℕ → Bool) → List ℕ → List ℕ
run_words p text = codes " at " ++ take 40 (front p text)

-- a move that cannot be read, or stands behind a word, is reported with its symbol, and a number that does not fit with its digits, 40 bytes at most
abbrev pub symbol_words : Stop → List ℕ → List ℕ
symbol_words (stop.Taking (reason.Move (move_fault.San fault))) text = run_words is_symbol_byte text
symbol_words (stop.Taking reason.BehindWord) text = run_words is_symbol_byte text
symbol_words stop.Numbering text = run_words is_digit text
symbol_words other text = []

-- ---- lines of remarks

-- the text of a tag in the script
abbrev pub tag_text : List ℕ → List ℕ
tag_text value = short_text (spelled_out value)

-- a colon ends the place of a remark, so a name has a comma in place of one
abbrev pub no_colon : ℕ → ℕ
no_colon b = if b == 58 then 44 else b

-- a name, if it is known
abbrev pub name_words : List ℕ → List ℕ
name_words text = if bytes_eq text (codes "?") then [] else map no_colon text

abbrev pub name_of : Option (List ℕ) → List ℕ
name_of None = []
name_of (Some value) = name_words (tag_text (unescape value))

abbrev pub quoted : List ℕ → List ℕ
quoted text = codes "\"" ++ (text ++ codes "\"")

-- `Author; "Title"`, as far as they are known
abbrev pub both_names : List ℕ → List ℕ → List ℕ
both_names author title =
    if length title == 0 then author else (if length author == 0 then quoted title else author ++ (codes "; " ++ quoted title))

-- the author of a study is its tag White, and its title its tag Event
unfoldable pub entry_names : List Pair → List ℕ
entry_names tags = both_names (name_of (value_of (tag_name tag_named.White) tags)) (name_of (value_of (tag_name tag_named.Event) tags))

-- the remark on a game without a block, and an empty line
unfoldable pub told_words : ℕ → ℕ → Option ℕ → List ℕ → List ℕ → List ℕ
told_words number line column author words =
    told.remark_text (told.left_out (record { game = number; line = line; column = column; author = author }) words) ++ codes "\n"

-- a place in a game, with author and title
abbrev pub subject_at : Entry → Place → told.Game
subject_at e p = record { game = e.number; line = p.line; column = Some p.column; author = entry_names (tags_of e.text) }

-- a game without a block, and why
abbrev pub left_out : Entry → List ℕ → List ℕ
left_out e words = told_words e.number e.line None (entry_names (tags_of e.text)) words

-- the same at the place of a fault
abbrev pub fault_words : Entry → Place → List ℕ → List ℕ
fault_words e p words = told_words e.number p.line (Some p.column) (entry_names (tags_of e.text)) words

-- the text written for a game, and the number of studies in it
pub record Block : Type 0 where
  pub text : List ℕ
  pub studies : ℕ

abbrev pub no_study : List ℕ → Block
no_study text = record { text = text; studies = 0 }

-- below a remark
abbrev pub under_remark : List ℕ → Block → Block
under_remark remark block = record { text = remark ++ block.text; studies = block.studies }

-- ---- counts

abbrev pub separator : Bool → List ℕ
separator first = if first then [] else codes ", "

-- `NAME N`, after a comma if it is not the first
abbrev pub count_words : Bool → List ℕ → ℕ → List ℕ
count_words first name n = if n == 0 then [] else separator first ++ (name ++ (codes " " ++ decimal n))

-- a count as contracts see it
abbrev pub count_seen : Count → List ℕ × ℕ
count_seen c = (c.name.now, c.number)

abbrev pub counts_words : Bool → List (List ℕ × ℕ) → List ℕ
counts_words first [] = []
counts_words first (c ∷ cs) = count_words first c.0 c.1 ++ counts_words (first && c.1 == 0) cs

abbrev pub counts_line : List ℕ → List ℕ
counts_line words = if length words == 0 then [] else told.remark_text (told.not_taken_over words)

-- tags that a study does not have, and repeated tags
abbrev pub known_names : List (List ℕ)
known_names = codes "Event" ∷ codes "Site" ∷ codes "Date" ∷ codes "Round" ∷ codes "White" ∷ codes "Black"
    ∷ codes "FEN" ∷ codes "SetUp" ∷ codes "Result" ∷ codes "Stipulation" ∷ []

abbrev pub found_count : Option (List ℕ) → ℕ
found_count None = 0
found_count (Some value) = 1

abbrev pub known_count : List (List ℕ) → List Pair → ℕ
known_count [] tags = 0
known_count (name ∷ names) tags = found_count (value_of name tags) + known_count names tags

-- as a u32 can hold it
abbrev pub at_most : ℕ → ℕ
at_most n = min n (2 ^ 32 - 1)

abbrev pub other_tags : List Pair → ℕ
other_tags tags = at_most (length tags - known_count known_names tags)

-- played moves that are not new nodes
abbrev pub repeated_moves : Notes → PlainStudy → ℕ
repeated_moves n s = n.moves - (size_of s.tree - 1)

abbrev pub move_counts : Notes → ℕ → List (List ℕ × ℕ)
move_counts n repeated =
    (codes "repeated", repeated) ∷ (codes "null moves", n.null_moves) ∷ (codes "moves behind", n.moves_behind)
    ∷ (codes "wrong signs", n.wrong_signs) ∷ []

unfoldable pub counted_words : Notes → ℕ → ℕ → List ℕ
counted_words n tags repeated =
    counts_words true ((codes "comments", n.comments) ∷ (codes "words", n.words) ∷ (codes "NAGs", n.asides) ∷ (codes "tags", tags) ∷ move_counts n repeated)

abbrev pub behind_words : Place → List ℕ
behind_words p = told.remark_text (told.behind_result p.line p.column)

-- text after the result, if it has no moves, is ignored, and reported by its place
unfoldable pub behind_line : Entry → List ℕ → List ℕ
behind_line e text = if length (behind is_blank text) == 0 then [] else behind_words (place_in e (length (behind is_blank text)))

-- ---- tags

abbrev pub six_names : List TagName
six_names = tag_named.Event ∷ tag_named.Site ∷ tag_named.Date ∷ tag_named.Round ∷ tag_named.White ∷ tag_named.Black ∷ []

-- a byte of an original in a remark
abbrev pub remark_byte : ℕ → ℕ
remark_byte b = if nat_le b 31 || b == 127 then 32 else b

-- the tag of a remark on an original
abbrev pub original_named : TagName → Original
original_named tag_named.Event = original.Event
original_named tag_named.Site = original.Site
original_named tag_named.Date = original.Date
original_named tag_named.Round = original.Round
original_named tag_named.White = original.White
original_named tag_named.Black = original.Black

-- the original of a tag, if the text differs from the value without spaces at its ends; at most 255 bytes of it
abbrev pub was_words : TagName → List ℕ → List ℕ → List ℕ
was_words name value text =
    if bytes_eq text (trim value) then [] else told.remark_text (told.original_of (original_named name) (map remark_byte (take 255 value)))

abbrev pub was_text : TagName → List ℕ → List ℕ
was_text name value = was_words name value (tag_text value)

-- a tag whose bytes fit no UTF-8 is read as Latin 1, which may be wrong
abbrev pub latin_line : TagName → List ℕ → List ℕ
latin_line name value = if is_utf8 value then [] else told.remark_text (told.latin_1 (original_named name))

abbrev pub was_of : TagName → Option (List ℕ) → List ℕ
was_of name None = []
was_of name (Some value) = was_text name (unescape value) ++ latin_line name (unescape value)

unfoldable pub was_line : List Pair → TagName → List ℕ
was_line tags name = was_of name (value_of (tag_name name) tags)

abbrev pub unknown_text : TagName → List ℕ
unknown_text tag_named.Date = codes "????.??.??"
unknown_text other = codes "?"

abbrev pub text_or_unknown : TagName → List ℕ → List ℕ
text_or_unknown name text = if length text == 0 then unknown_text name else text

abbrev pub tag_value_text : TagName → Option (List ℕ) → List ℕ
tag_value_text name None = unknown_text name
tag_value_text name (Some value) = text_or_unknown name (tag_text (unescape value))

-- `tag NAME TEXT`
unfoldable pub tag_line : List Pair → TagName → List ℕ
tag_line tags name = codes "tag " ++ (tag_name name ++ (codes " " ++ (tag_value_text name (value_of (tag_name name) tags) ++ codes "\n")))

-- ---- a block

abbrev pub side_text : Side → List ℕ
side_text White = codes "white "
side_text Black = codes "black "

abbrev pub goal_text : Goal → List ℕ
goal_text Win = codes "win\n"
goal_text Draw = codes "draw\n"
goal_text (MateIn count) = codes "mate " ++ (decimal count ++ codes "\n")

unfoldable pub stipulation_line : Stipulation → List ℕ
stipulation_line s = codes "stipulate " ++ (side_text s.hero ++ goal_text s.goal)

abbrev pub doubt_line : Bool → Doubt → List ℕ
doubt_line doubted why = if doubted then told.remark_text (told.doubted why) else []

-- a line for each source that is not understood, or states another result
unfoldable pub doubt_lines : Doubts → List ℕ
doubt_lines d =
    doubt_line d.comment_unread doubt.CommentUnread
    ++ (doubt_line d.tag_unread doubt.TagUnread
    ++ (doubt_line d.tag_differs doubt.TagDiffers
    ++ (doubt_line d.result_tag_differs doubt.ResultTagDiffers ++ doubt_line d.result_differs doubt.ResultDiffers)))

-- above a block stands where its stipulation is from
abbrev pub source_line : Entry → Aim → List ℕ
source_line e aim = told.remark_text (told.stipulated (record { game = e.number; line = e.line; column = None; author = [] }) aim.source)

abbrev pub head_line : Entry → Aim → List ℕ
head_line e aim = source_line e aim ++ doubt_lines aim.doubts

unfoldable pub position_line : Start → List ℕ
position_line start = codes "position " ++ (fen_text start ++ codes "\n")

-- what was read of a game, but for its start: the language of its letters, if it is not English, the notes, the number of played moves that are not new
-- nodes, the text after the result, and the lines that make the tree
pub record Reported : Type 0 where
  pub language : Option Language
  pub notes : Notes
  pub repeated : ℕ
  pub behind : List ℕ
  pub inserts : List ℕ

abbrev pub reported_of : Option Language → Ended → Reported
reported_of language x = record {
  language = language;
  notes = x.game.notes;
  repeated = repeated_moves x.game.notes x.game.reading.study;
  behind = x.behind;
  inserts = x.game.reading.inserts;
}

abbrev pub reported_seen : ReportedRead → Reported
reported_seen t = record { language = t.language; notes = t.notes; repeated = t.repeated; behind = t.behind.now; inserts = t.inserts.now }

abbrev pub letters_line : Option Language → List ℕ
letters_line None = []
letters_line (Some language) = told.remark_text (told.letters (language_name language))

unfoldable pub remark_lines : Entry → Reported → List ℕ
remark_lines e t =
    letters_line t.language
    ++ (counts_line (counted_words t.notes (other_tags (tags_of e.text)) t.repeated)
    ++ (behind_line e t.behind ++ flat_map (was_line (tags_of e.text)) six_names))

unfoldable pub study_lines : Entry → Start → Stipulation → List ℕ → List ℕ
study_lines e start stipulation inserts =
    position_line start ++ (stipulation_line stipulation ++ (flat_map (tag_line (tags_of e.text)) six_names ++ (inserts ++ codes "pgn\n\n")))

unfoldable pub block_lines : Entry → Start → Aim → Reported → List ℕ
block_lines e start aim t = head_line e aim ++ (remark_lines e t ++ study_lines e start aim.stipulation t.inserts)

-- ---- a game

abbrev pub tag_aim : Side → Option (List ℕ) → Option Stipulation
tag_aim to_move None = None
tag_aim to_move (Some value) = aim_stated (unescape value) to_move

abbrev pub tag_unread : Option (List ℕ) → Bool
tag_unread None = false
tag_unread (Some value) = is_unread_tag (unescape value)

abbrev pub result_of : Option (List ℕ) → Option Outcome
result_of None = None
result_of (Some value) = outcome_of_tag value

-- what the opening comment, the tags Stipulation and Result, the result and the caller state
unfoldable pub sources_of : Option Stipulation → List Pair → Side → Notes → Sources
sources_of given tags to_move n = record {
  comment = or_stipulation n.opening (signed_by to_move n.opening_goal);
  comment_unread = n.opening_unread;
  tag = tag_aim to_move (value_of (codes "Stipulation") tags);
  tag_unread = tag_unread (value_of (codes "Stipulation") tags);
  result_tag = result_of (value_of (codes "Result") tags);
  result = n.outcome;
  given = given;
}

abbrev pub aim_of_game : Option Stipulation → List Pair → Side → Notes → Option Aim
aim_of_game given tags to_move n = aim_by_sources (sources_of given tags to_move n)

-- a game that states no stipulation is left out, with the source that is not understood
abbrev pub aimed_block : Entry → Start → Reported → Sources → Option Aim → Block
aimed_block e start t s None = no_study (left_out e (unaimed_words s))
aimed_block e start t s (Some aim) = record { text = block_lines e start aim t; studies = 1 }

abbrev pub sourced_block : Entry → Start → Reported → Sources → Block
sourced_block e start t s = aimed_block e start t s (aim_by_sources s)

-- the name of a fault, and the symbol or the number at its place
abbrev pub stop_words : Entry → MovesFault → List ℕ
stop_words e fault = stop_name fault.why ++ symbol_words fault.why (text_at e fault.left)

abbrev pub stopped_block : Entry → MovesFault → Block
stopped_block e fault = no_study (fault_words e (place_in e fault.left) (stop_words e fault))

-- before the first move. The stipulation has no effect here
abbrev pub no_moves : Start → GameRead
no_moves start = record {
  reading = reading_of (record {
    start = start;
    stipulation = record { hero = White; goal = Win };
    tags = None ∷ None ∷ None ∷ None ∷ None ∷ None ∷ [];
    tree = record { label = tt; below = none };
  }) [] 0 [] 0 [];
  notes = none_yet;
}

-- up to the result, behind which there are no moves
unfoldable pub game_read : List ℕ → Start → Result Ended MovesFault
game_read text start = to_the_end (read_moves (length text) true text (no_moves start))

-- ---- a game that is read only up to its first fault

-- its text before the place with so many bytes left, with the variations closed that are open there
unfoldable pub text_up_to : List ℕ → ℕ → List ℕ
text_up_to text left = closed_text (take (length text - left) text)

-- above its block stands where it breaks off, and why
unfoldable pub not_read_line : Entry → MovesFault → List ℕ
not_read_line e fault = told.remark_text (told.not_read (subject_at e (place_in e fault.left)) (stop_words e fault))

abbrev pub fault_line : Entry → Option MovesFault → List ℕ
fault_line e None = []
fault_line e (Some fault) = not_read_line e fault

abbrev pub reported_up_to : Ended → Reported
reported_up_to x = record (reported_of None x) { behind = [] }

-- without a stipulation it is left out for its fault
abbrev pub aimed_up_to : Entry → Start → MovesFault → Reported → Option Aim → Block
aimed_up_to e start fault t None = stopped_block e fault
aimed_up_to e start fault t (Some aim) = record { text = fault_line e (Some fault) ++ block_lines e start aim t; studies = 1 }

abbrev pub block_up_to : Option Stipulation → Entry → Start → MovesFault → Result Ended MovesFault → Block
block_up_to given e start fault (Err other) = stopped_block e fault
block_up_to given e start fault (Ok x) =
    aimed_up_to e start fault (reported_up_to x) (aim_of_game given (tags_of e.text) start.position.to_move x.game.notes)

unfoldable pub faulty_block : Choice → Entry → Start → MovesFault → Block
faulty_block c e start fault =
    if c.up_to_faults then block_up_to c.given e start fault (game_read (text_up_to e.text fault.left) start) else stopped_block e fault

abbrev pub read_block : Choice → Entry → Start → Option Language → Result Ended MovesFault → Block
read_block c e start language (Err fault) = faulty_block c e start fault
read_block c e start language (Ok x) =
    sourced_block e start (reported_of language x) (sources_of c.given (tags_of e.text) start.position.to_move x.game.notes)

-- ---- letters of another language

abbrev pub languages : List Language
languages = German ∷ French ∷ Spanish ∷ Dutch ∷ []

-- a symbol that is no legal move in English letters
abbrev pub is_unknown_move : Stop → Bool
is_unknown_move (stop.Taking (reason.Move (move_fault.San fault))) = true
is_unknown_move other = false

abbrev pub is_read : Result Ended MovesFault → Bool
is_read (Ok x) = true
is_read (Err fault) = false

-- the first of these languages in whose letters the moves of a game are read to the end
abbrev pub first_readable : List Language → List ℕ → Start → Option Language
first_readable [] text start = None
first_readable (l ∷ ls) text start = if is_read (game_read (in_english l text) start) then Some l else first_readable ls text start

abbrev pub language_by : List ℕ → Start → Result Ended MovesFault → Option Language
language_by text start (Ok x) = None
language_by text start (Err fault) = if is_unknown_move fault.why then first_readable languages text start else None

-- the language of a game's letters, if it is read in them and not in English
unfoldable pub language_of : List ℕ → Start → Option Language
language_of text start = language_by text start (game_read text start)

-- the text in English letters
abbrev pub text_in : Option Language → List ℕ → List ℕ
text_in None text = text
text_in (Some language) text = in_english language text

abbrev pub moves_block : Choice → Entry → Start → Option Language → Block
moves_block c e start language = read_block c e start language (game_read (text_in language e.text) start)

-- the number of men that a FEN places
abbrev pub men_in : Option (List ℕ × List ℕ) → ℕ
men_in None = 0
men_in (Some found) = count_by is_letter found.0

abbrev pub fen_words : List ℕ → FenFault → List ℕ
fen_words text fen.TooManyMen = codes "left out: " ++ (decimal (at_most (men_in (first_word text))) ++ codes " men")
fen_words text fault = fen_name fault

-- ---- a game whose start has more than four men, or a right to castle

-- what was read of it: the study, the notes, and the text behind the result
pub record WideRead : Type 0 where
  pub study : WideStudy
  pub notes : Notes
  pub behind : List ℕ

abbrev pub wide_ended : Result (movetext.Ended WideStudy) MovesFault → Result WideRead MovesFault
wide_ended (Err fault) = Err fault
wide_ended (Ok x) = Ok (record { study = x.game.reading.study; notes = x.game.notes; behind = x.behind })

-- up to the result, behind which there are no moves. The stipulation has no effect here
unfoldable pub wide_read : List ℕ → WideStart → Result WideRead MovesFault
wide_read text start =
    wide_ended (to_the_end (movetext.read_moves wide_men (length text) true text (no_wide_moves start (record { hero = White; goal = Win }))))

-- with these tags of the game
abbrev pub with_tags : List Pair → List TagName → WideStudy → WideStudy
with_tags tags [] s = s
with_tags tags (name ∷ names) s = with_tags tags names (with_wide_tag s name (tag_value_text name (value_of (tag_name name) tags)))

-- with its stipulation and its six tags
unfoldable pub wide_study : List Pair → Stipulation → WideStudy → WideStudy
wide_study tags stipulation s = with_tags tags six_names (with_wide_stipulation s stipulation)

abbrev pub wide_reported : Option Language → WideRead → Reported
wide_reported language x = record {
  language = language;
  notes = x.notes;
  repeated = x.notes.moves - (size_of x.study.tree - 1);
  behind = x.behind;
  inserts = [];
}

-- how many of its tails are studies
abbrev pub studies_among : WideStudy → List (List ℕ) → ℕ
studies_among s paths = count_by (λ path. is_ok (tail s path)) paths

-- the study in remarks and the blocks of its tails
unfoldable pub tails_block : Entry → Aim → Reported → WideStudy → Block
tails_block e aim t s = record { text = head_line e aim ++ (remark_lines e t ++ wide_text s e.number); studies = studies_among s (tails s) }

abbrev pub no_tails_words : WideStudy → GameLeftOut → List ℕ
no_tails_words s why = codes "left out: " ++ game_words (length s.start.position.board.men) why

-- a game without a tail, or with too many, is left out
abbrev pub tailed_block : Entry → Aim → Reported → WideStudy → Option GameLeftOut → Block
tailed_block e aim t s (Some why) = no_study (left_out e (no_tails_words s why))
tailed_block e aim t s None = tails_block e aim t s

abbrev pub followed_block : Entry → Aim → Reported → WideStudy → Block
followed_block e aim t s = tailed_block e aim t s (game_reason s)

abbrev pub wide_aimed : Entry → Reported → WideStudy → Sources → Option Aim → Block
wide_aimed e t study s None = no_study (left_out e (unaimed_words s))
wide_aimed e t study s (Some aim) = followed_block e aim t (wide_study (tags_of e.text) aim.stipulation study)

abbrev pub wide_sourced : Entry → Reported → WideStudy → Sources → Block
wide_sourced e t study s = wide_aimed e t study s (aim_by_sources s)

-- up to a fault: without a stipulation, or without a tail before the fault, the game is left out for the fault
abbrev pub tailed_up_to : Entry → MovesFault → Aim → Reported → WideStudy → Option GameLeftOut → Block
tailed_up_to e fault aim t s (Some why) = stopped_block e fault
tailed_up_to e fault aim t s None = under_remark (fault_line e (Some fault)) (tails_block e aim t s)

abbrev pub followed_up_to : Entry → MovesFault → Aim → Reported → WideStudy → Block
followed_up_to e fault aim t s = tailed_up_to e fault aim t s (game_reason s)

abbrev pub wide_aimed_up_to : Entry → MovesFault → WideRead → Option Aim → Block
wide_aimed_up_to e fault x None = stopped_block e fault
wide_aimed_up_to e fault x (Some aim) =
    followed_up_to e fault aim (record (wide_reported None x) { behind = [] }) (wide_study (tags_of e.text) aim.stipulation x.study)

abbrev pub wide_up_to : Option Stipulation → Entry → WideStart → MovesFault → Result WideRead MovesFault → Block
wide_up_to given e start fault (Err other) = stopped_block e fault
wide_up_to given e start fault (Ok x) =
    wide_aimed_up_to e fault x (aim_of_game given (tags_of e.text) start.position.board.to_move x.notes)

unfoldable pub wide_faulty : Choice → Entry → WideStart → MovesFault → Block
wide_faulty c e start fault =
    if c.up_to_faults then wide_up_to c.given e start fault (wide_read (text_up_to e.text fault.left) start) else stopped_block e fault

abbrev pub wide_read_block : Choice → Entry → WideStart → Option Language → Result WideRead MovesFault → Block
wide_read_block c e start language (Err fault) = wide_faulty c e start fault
wide_read_block c e start language (Ok x) =
    wide_sourced e (wide_reported language x) x.study (sources_of c.given (tags_of e.text) start.position.board.to_move x.notes)

-- the first of these languages in whose letters the moves are read to the end
abbrev pub first_wide_readable : List Language → List ℕ → WideStart → Option Language
first_wide_readable [] text start = None
first_wide_readable (l ∷ ls) text start = if is_ok (wide_read (in_english l text) start) then Some l else first_wide_readable ls text start

abbrev pub wide_language_by : List ℕ → WideStart → Result WideRead MovesFault → Option Language
wide_language_by text start (Ok x) = None
wide_language_by text start (Err fault) = if is_unknown_move fault.why then first_wide_readable languages text start else None

-- the language of its letters, if it is read in them and not in English
unfoldable pub wide_language_of : List ℕ → WideStart → Option Language
wide_language_of text start = wide_language_by text start (wide_read text start)

abbrev pub wide_moves_block : Choice → Entry → WideStart → Option Language → Block
wide_moves_block c e start language = wide_read_block c e start language (wide_read (text_in language e.text) start)

abbrev pub wide_block : Choice → Entry → List ℕ → Result WideStart FenFault → Block
wide_block c e text (Err fault) = no_study (left_out e (fen_words text fault))
wide_block c e text (Ok start) = wide_moves_block c e start (wide_language_of e.text start)

-- ---- a game by its start

-- with more men, or with rights to castle, it is read by the rules for any number of men
abbrev pub start_block : Choice → Entry → List ℕ → Result Start FenFault → Block
start_block c e text (Err fen.TooManyMen) = wide_block c e text (wide_start_of text)
start_block c e text (Err fen.Castling) = wide_block c e text (wide_start_of text)
start_block c e text (Err fault) = no_study (left_out e (fen_words text fault))
start_block c e text (Ok start) = moves_block c e start (language_of e.text start)

-- an unprintable byte is read as `?`, which no field of a FEN has
abbrev pub printable_byte : ℕ → ℕ
printable_byte b = if is_printable b then b else 63

abbrev pub fen_in : List ℕ → List ℕ
fen_in value = map printable_byte (unescape value)

-- the initial position of a game
abbrev pub initial_fen : List ℕ
initial_fen = codes "rnbqkbnr/pppppppp/8/8/8/8/PPPPPPPP/RNBQKBNR w KQkq - 0 1"

-- a game without a FEN begins from the initial position
abbrev pub fen_block : Choice → Entry → Option (List ℕ) → Block
fen_block c e None = wide_block c e initial_fen (wide_start_of initial_fen)
fen_block c e (Some value) = start_block c e (fen_in value) (start_of (fen_in value))

-- two games that run together have a second tag of a name that each game has once
unfoldable pub repeated_name : List Pair → Option (List ℕ)
repeated_name tags =
    if nat_le 2 (named_count (codes "FEN") tags) then Some (codes "FEN")
    else (if nat_le 2 (named_count (codes "White") tags) then Some (codes "White")
    else (if nat_le 2 (named_count (codes "Result") tags) then Some (codes "Result") else None))

unfoldable pub repeated_words : List ℕ → List ℕ
repeated_words name = codes "TagTwice at " ++ name

abbrev pub single_block : Choice → Entry → List Pair → Option (List ℕ) → Block
single_block c e tags (Some name) = no_study (left_out e (repeated_words name))
single_block c e tags None = fen_block c e (value_of (codes "FEN") tags)

abbrev pub tagged_block : Choice → Entry → List Pair → Block
tagged_block c e tags =
    if length tags == 0 then no_study (left_out e (codes "left out: no tags")) else single_block c e tags (repeated_name tags)

abbrev pub header_block : Choice → Entry → Option HeaderFault → Block
header_block c e (Some fault) = no_study (fault_words e (place_in e fault.left) (token_name fault.why))
header_block c e None = tagged_block c e (tags_of e.text)

abbrev pub sized_block : Choice → ℕ → ℕ → Option (List ℕ) → Block
sized_block c number line None =
    no_study (fault_words (record { number = number; line = line; text = [] }) (record { line = line; column = 1 }) (codes "GameTooLarge"))
sized_block c number line (Some text) =
    header_block c (record { number = number; line = line; text = text }) (header_fault text)

-- the text written for the game with this number, from its own start
unfoldable pub block_of : Choice → ℕ → Game → Block
block_of c number game = sized_block c number game.line game.text

-- ---- a game with more men, from a position on that a comment states, if that is chosen

abbrev pub has_more : Result Start FenFault → Bool
has_more (Err fen.TooManyMen) = true
has_more other = false

-- more than four men: by its FEN, or 32 without one
abbrev pub has_more_men : Option (List ℕ) → Bool
has_more_men None = true
has_more_men (Some value) = has_more (start_of (fen_in value))

-- a text without tags is not a game
unfoldable pub tail_of_game : List ℕ → Option Tail
tail_of_game text = if not (length (tags_of text) == 0) && has_more_men (value_of (codes "FEN") (tags_of text)) then tail_in text else None

-- for a game that may have too many bytes; tails: whether tails are taken
abbrev pub tail_of : Bool → Option (List ℕ) → Option Tail
tail_of true (Some text) = tail_of_game text
tail_of tails text = None

-- the remark above a tail: the number of moves before it, and that its position is taken from the comment
abbrev pub tail_line : ℕ → List ℕ
tail_line skipped = told.remark_text (told.tail skipped)

-- the block of the tail, as for a game that begins there
abbrev pub tail_block : Choice → ℕ → ℕ → Tail → Block
tail_block c number line t =
    under_remark (tail_line t.skipped)
    (start_block c (record { number = number; line = line; text = t.text }) (position_text t.position) (start_of (position_text t.position)))

abbrev pub block_or_tail : Choice → ℕ → Game → Option Tail → Block
block_or_tail c number game None = block_of c number game
block_or_tail c number game (Some t) = tail_block c number game.line t

-- ---- a file

-- the text written for the game with this number
abbrev pub block_by : Choice → ℕ → Game → Block
block_by c number game = block_or_tail c number game (tail_of c.tails game.text)

abbrev pub last_line : ℕ → ℕ → List ℕ
last_line games studies = told.remark_text (told.total games studies)

abbrev pub one_if : Bool → ℕ → ℕ
one_if counts n = if counts then one_more n else n

-- the games with these numbers are written
abbrev pub is_chosen : Choice → ℕ → Bool
is_chosen c number = nat_le c.from number && nat_le number c.to

-- the numbers of games so far, of those written, of those among these that have a study, and of their studies
pub record Tally : Type 0 where
  pub met : ℕ
  pub reported : ℕ
  pub with_study : ℕ
  pub studies : ℕ

-- with the next game
abbrev pub tally_with_game : Choice → Tally → Game → Tally
tally_with_game c t g =
    if is_chosen c (one_more t.met)
    then record {
      met = one_more t.met;
      reported = one_more t.reported;
      with_study = one_if (not ((block_by c (one_more t.met) g).studies == 0)) t.with_study;
      studies = at_most (t.studies + (block_by c (one_more t.met) g).studies);
    }
    else record { met = one_more t.met; reported = t.reported; with_study = t.with_study; studies = t.studies }

-- the text written for it
abbrev pub reported_text : Choice → Tally → Game → List ℕ
reported_text c t g = if is_chosen c (one_more t.met) then (block_by c (one_more t.met) g).text else []

-- the text written for these games, and the last line
abbrev pub blocks : Choice → Tally → List Game → List ℕ
blocks c t [] = last_line t.reported t.studies
blocks c t (g ∷ gs) = reported_text c t g ++ blocks c (tally_with_game c t g) gs

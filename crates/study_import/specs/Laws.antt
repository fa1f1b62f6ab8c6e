-- Laws of an import.
use Rattle.std.specs.Prelude.{◌≡◌, ℕ, ◌≤◌, Bool, List, [], ◌∷◌, ◌++◌, length, codes, count_by, Option, Some, None, is_some, is_none, Result, Ok, Err}
use Rattle.std.specs.Prelude.{true, false, not, ◌&&◌, ◌==◌, if◌then◌else◌}
use Rattle.std.specs.List.{AllByRecursion}
use Rattle.study_board.specs.Position.{IsValid}
use Rattle.study_board.specs.declared.men.Side.TheVariants.{White}
use Rattle.study_notation.specs.declared.start.Start.{Start}
use Rattle.study_notation.specs.declared.fault.FenFault.{FenFault}
use Rattle.study_notation.specs.declared.fault.FenFault.TheVariants as fen
use Rattle.study_notation.specs.Fen.{start_of}
use Rattle.study_wide_text.specs.declared.start.WideStart.{WideStart}
use Rattle.study_tails.specs.Study.{WideStudy}
use Rattle.study_tails.specs.Followed.{wide_men, no_wide_moves}
use Rattle.study_reading.specs.Movetext as movetext
use Rattle.study_marks.specs.declared.stipulation.Goal.{Goal}
use Rattle.study_marks.specs.declared.stipulation.Goal.TheVariants.{Win, MateIn}
use Rattle.study_marks.specs.declared.stipulation.Stipulation.{Stipulation}
use Rattle.study_marks.specs.declared.tag.TagName.{TagName}
use Rattle.study_marks.specs.Study.{tag_name}
use Rattle.study_marks.specs.Edits.{PlainStudy, tag_refusal}
use Rattle.study_command.specs.Documents.{Document, study as composed, after_lines}
use Rattle.study_command.specs.Lines.{script_lines}
use Rattle.study_command.specs.Parser.{Asks, pgn, command_of}
use Rattle.study_games.specs.Header.{Pair, tags_in, fault_in, tags_of, header_fault, value_of}
use Rattle.study_games.specs.Games.{Game, games_of, games_from, one_more}
use Rattle.study_games.specs.Laws.{number_behind, EndsWithMoves, BeginsWithTag, lines_of}
use Rattle.study_import.specs.declared.importer.Choice.{Choice}
use Rattle.study_import.specs.Blocks.{Tally, is_chosen, tally_with_game, reported_text, blocks, no_moves, game_read, tag_value_text, Entry, Reported}
use Rattle.study_import.specs.Blocks.{Block, block_lines, fault_line}
use Rattle.study_import.specs.Blocks.{tail_of, tail_line, under_remark, block_by, fen_in, repeated_name, WideRead, wide_ended, wide_read, tails_block}
use Rattle.study_import.specs.Insertions.{Leads, AllReadAgain}
use Rattle.study_reading.specs.declared.aims.Aim.{Aim}
use Rattle.study_reading.specs.declared.lines.LineFault.TheVariants as line_fault
use Rattle.study_reading.specs.declared.moves.MoveFault.TheVariants as move_fault
use Rattle.study_reading.specs.declared.token_effects.Reason.TheVariants as reason
use Rattle.study_reading.specs.declared.movetext.MovesFault.{MovesFault}
use Rattle.study_reading.specs.declared.movetext.Stop.{Stop}
use Rattle.study_reading.specs.declared.movetext.Stop.TheVariants as stop
use Rattle.study_import.specs.FewMen.{Ended, read_moves}
use Rattle.study_reading.specs.Behind.{moves_left, moves_in, to_the_end}
use Rattle.study_import.specs.Imported.{no_game, script_of, tally_of}
use Rattle.study_import.specs.Tails.{Tail, position_text, tail_from, not_begun, tail_in}
use Rattle.study_import.specs.Meant.{studies_by}

-- the blocks of these games after a tally, without the last line
abbrev pub reported_texts : Choice → Tally → List Game → List ℕ
reported_texts c t [] = []
reported_texts c t (g ∷ gs) = reported_text c t g ++ reported_texts c (tally_with_game c t g) gs

-- if a text ends with a whole line of moves, and is followed by one that begins with a line of a tag, the script of both is the blocks of the first, as
-- they are without the second, and then those of the second, whose numbers of games and lines continue
abbrev pub IsIsolated : Type 0
IsIsolated =
    (c : Choice) → (front b : List ℕ) → (a : List ℕ) → a ≡ front ++ 10 ∷ [] → EndsWithMoves 1 (lines_of a)
    → BeginsWithTag (number_behind 1 (lines_of a)) (lines_of b)
    → script_of c (a ++ b) ≡ reported_texts c no_game (games_of a) ++ blocks c (tally_of c a) (games_from (number_behind 1 (lines_of a)) None (lines_of b))

-- if the moves of a game are read to the end, its tree is made of insertions into the bare start, one after another: none of them is refused in its turn,
-- apart from tables and memory, the lines of the game's block have them in this order, and the text of each move in them reads in its turn as that move
abbrev pub AreAccepted : Type 0
AreAccepted =
    (text : List ℕ) → (start : Start) → (x : Ended) → game_read text start ≡ Ok x
    → (l : Leads (Unit {0}) (no_moves start).reading x.game.reading) × (IsValid start.position → AllReadAgain (no_moves start).reading.study l.insertions)

-- a study accepts the text of each tag line: 1 to 60 printable bytes
abbrev pub AreTaken : Type 0
AreTaken = (tags : List Pair) → (name : TagName) → tag_refusal {A = Unit {0}} (tag_value_text name (value_of (tag_name name) tags)) ≡ None

abbrev pub entry_of : ℕ → ℕ → List ℕ → Entry
entry_of number line text = record { number = number; line = line; text = text }

-- the remark above the block of a tail, and the text of the tail
abbrev pub remark_above : Option Tail → List ℕ
remark_above None = []
remark_above (Some t) = tail_line t.skipped

abbrev pub text_read : List ℕ → Option Tail → List ℕ
text_read text None = text
text_read text (Some t) = t.text

-- the block of a game that leads to a study, below the line of its fault, if it has one
abbrev pub study_block : Entry → Start → Aim → Reported → Option MovesFault → Block
study_block e start aim reported fault = record { text = fault_line e fault ++ block_lines e start aim reported; studies = 1 }

-- whether the moves of a game are read by the rules for any number of men: its FEN has more than four men or a right to castle, or it has none
abbrev pub is_beyond : Result Start FenFault → Bool
is_beyond (Err fen.TooManyMen) = true
is_beyond (Err fen.Castling) = true
is_beyond other = false

abbrev pub has_wide_fen : Option (List ℕ) → Bool
has_wide_fen None = true
has_wide_fen (Some value) = is_beyond (start_of (fen_in value))

-- of a game that may have too many bytes, and that may begin where a comment states its position
abbrev pub is_wide_by : Option (List ℕ) → Option Tail → Bool
is_wide_by text (Some t) = is_beyond (start_of (position_text t.position))
is_wide_by None None = false
is_wide_by (Some text) None =
    is_none (header_fault text)
    && (not (length (tags_of text) == 0) && (is_none (repeated_name (tags_of text)) && has_wide_fen (value_of (codes "FEN") (tags_of text))))

abbrev pub is_wide_game : Choice → Option (List ℕ) → Bool
is_wide_game c text = is_wide_by text (tail_of c.tails text)

-- blocks that are, under every number and at every line, those of one start, stipulation and moves, or of one study and its tails, of the same text; if the
-- text is read only up to its first fault, as the choice allows, the fault is the same
abbrev pub Alike : Bool → Choice → List ℕ → Option Tail → (ℕ → ℕ → Block) → Type 0
Alike false c text above make =
    (start : Start) × (aim : Aim) × (reported : Reported) × (fault : Option MovesFault)
    × (c.up_to_faults ≡ false → fault ≡ None) × ((number line : ℕ) → make number line
    ≡ under_remark (remark_above above) (study_block (entry_of number line (text_read text above)) start aim reported fault))
Alike true c text above make =
    (study : WideStudy) × (aim : Aim) × (reported : Reported) × (fault : Option MovesFault)
    × (c.up_to_faults ≡ false → fault ≡ None) × ((number line : ℕ) → make number line
    ≡ under_remark (remark_above above) (under_remark (fault_line (entry_of number line (text_read text above)) fault)
    (tails_block (entry_of number line (text_read text above)) aim reported study)))

-- a game leads to the same studies under every number and at every line
abbrev pub AreAlike : Type 0
AreAlike =
    (c : Choice) → (text : List ℕ) → (m k : ℕ) → 1 ≤ (block_by c m (record { line = k; text = Some text })).studies
    → Alike (is_wide_game c (Some text)) c text (tail_of c.tails (Some text)) (λ number line. block_by c number (record { line = line; text = Some text }))

-- a mate within 1 to 127 moves
abbrev pub IsCounted : Goal → Type 0
IsCounted (MateIn count) = (1 ≤ count) × (count ≤ 127)
IsCounted other = Unit {0}

abbrev pub IsGiven : Option Stipulation → Type 0
IsGiven None = Unit {0}
IsGiven (Some given) = IsCounted given.goal

-- a study has six tags, known or not
abbrev pub HasSixTags : Document → Type 0
HasSixTags (composed s) = length s.tags ≡ 6
HasSixTags other = Unit {0}

-- after these studies, one after the other; where there is none, the document stays
abbrev pub document_then : Document → List (Option PlainStudy) → Document
document_then d [] = d
document_then d (None ∷ os) = document_then d os
document_then d (Some s ∷ os) = document_then (composed s) os

-- a line that a script can have
abbrev pub IsShort : List ℕ → Type 0
IsShort line = length line ≤ 1024

-- a line that does not request the PGN
abbrev pub asks_pgn : Asks → Bool
asks_pgn (Ok (Some pgn)) = true
asks_pgn other = false

abbrev pub IsNoPgn : List ℕ → Type 0
IsNoPgn line = asks_pgn (command_of line) ≡ false

-- a line without a command
abbrev pub IsSilent : List ℕ → Type 0
IsSilent line = ◌≡◌ {A = Asks} (command_of line) (Ok None)

-- the part of a block with a study: its lines lead to it, whatever document is before them, and none of them requests a PGN; then the line that does follows,
-- and an empty one
pub record IsStudyIn (s : PlainStudy) (lines : List (List ℕ)) : Type 0 where
  pub front : List (List ℕ)
  pub cut : lines ≡ front ++ (codes "pgn" ∷ [] ∷ [])
  pub before : AllByRecursion IsNoPgn front
  pub leads : (d : Document) → HasSixTags d → after_lines (Some d) front ≡ Some (composed s)

-- where a game or a tail is left out, no line has a command
abbrev pub IsPart : Option PlainStudy → List (List ℕ) → Type 0
IsPart None lines = AllByRecursion IsSilent lines
IsPart (Some s) lines = IsStudyIn s lines

-- lines that are the parts for these studies, one after the other, and nothing more
abbrev pub AreParts : List (Option PlainStudy) → List (List ℕ) → Type 0
AreParts [] lines = lines ≡ []
AreParts (o ∷ os) lines = (first rest : List (List ℕ)) × (lines ≡ first ++ rest) × IsPart o first × AreParts os rest

-- the block of a game, as its bytes are, reads line by line as a script that no rule refuses, whatever document is before it: it is the parts for the
-- studies that the game or its tails lead to, and the last of these is the document after it; apart from tables and memory
pub record IsRead (c : Choice) (number : ℕ) (game : Game) : Type 0 where
  pub studies : (block_by c number game).studies ≡ count_by is_some (studies_by c game.text)
  pub short : AllByRecursion IsShort (script_lines (block_by c number game).text)
  pub parts : AreParts (studies_by c game.text) (script_lines (block_by c number game).text)
  pub study : (d : Document) → HasSixTags d
      → after_lines (Some d) (script_lines (block_by c number game).text) ≡ Some (document_then d (studies_by c game.text))

abbrev pub AreRead : Type 0
AreRead = (c : Choice) → IsGiven c.given → (number : ℕ) → (game : Game) → IsRead c number game

-- the document after the blocks of these games, after so many earlier ones
abbrev pub document_behind : Choice → ℕ → Document → List Game → Document
document_behind c met d [] = d
document_behind c met d (g ∷ gs) =
    document_behind c (one_more met) (if is_chosen c (one_more met) then document_then d (studies_by c g.text) else d) gs

-- the same for the whole script
pub record IsScriptRead (c : Choice) (text : List ℕ) : Type 0 where
  pub short : AllByRecursion IsShort (script_lines (script_of c text))
  pub study : (d : Document) → HasSixTags d → after_lines (Some d) (script_lines (script_of c text)) ≡ Some (document_behind c 0 d (games_of text))

abbrev pub AreScriptsRead : Type 0
AreScriptsRead = (c : Choice) → IsGiven c.given → (text : List ℕ) → IsScriptRead c text

-- a fault that a game can have: neither an internal one of the importer nor want of memory
abbrev pub IsListed : Stop → Type 0
IsListed (stop.Taking (reason.Move move_fault.NoSuchNode)) = ⊥
IsListed (stop.Taking (reason.Move move_fault.OutOfMemory)) = ⊥
IsListed (stop.Taking (reason.Line line_fault.OutOfMemory)) = ⊥
IsListed other = Unit {0}

abbrev pub AreListed : Type 0
AreListed = (text : List ℕ) → (start : Start) → (fault : MovesFault) → game_read text start ≡ Err fault → IsListed fault.why

-- a game is read to its end: with a larger bound no more of its moves, of the text behind its result and of its header is read, and the same tail is
-- found; and behind the result of a game that is read there are no moves
pub record IsWhole (text : List ℕ) (n : ℕ) : Type 0 where
  pub moves : (start : Start) → to_the_end (read_moves n true text (no_moves start)) ≡ game_read text start
  pub behind : moves_left n false text ≡ moves_in text
  pub ended : (start : Start) → (x : Ended) → game_read text start ≡ Ok x → moves_in x.behind ≡ None
  pub wide_moves : (start : WideStart)
      → wide_ended (to_the_end (movetext.read_moves wide_men n true text (no_wide_moves start (record { hero = White; goal = Win })))) ≡ wide_read text start
  pub wide_behind : (start : WideStart) → (x : WideRead) → wide_read text start ≡ Ok x → moves_in x.behind ≡ None
  pub tail : tail_from n true text (not_begun []) ≡ tail_in text
  pub tags : tags_in n true text ≡ tags_of text
  pub fault : fault_in n true text ≡ header_fault text

abbrev pub AreWhole : Type 0
AreWhole = (text : List ℕ) → (n : ℕ) → length text ≤ n → IsWhole text n

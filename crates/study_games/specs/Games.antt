-- The games of a PGN text, cut at lines.
use Rattle.std.specs.Prelude.{ℕ, ◌+◌, ◌-◌, ◌^◌, min, Bool, true, false, ◌&&◌, ◌||◌, ◌==◌, nat_le, List, [], ◌∷◌, ◌++◌, length, codes, Option, Some}
use Rattle.std.specs.Prelude.{None, if◌then◌else◌}
use Rattle.std.specs.List.{list_all}
use Rattle.std.specs.Option.{option_map}
use Rattle.std.specs.Str.{bytes_eq}
use Rattle.study_games.specs.Bytes.{is_blank, is_gap, is_letter, is_name_byte}
use Rattle.study_games.specs.Tokens.{front, behind}
use Rattle.study_games.specs.declared.games.LineKind.{LineKind}
use Rattle.study_games.specs.declared.games.LineKind.TheVariants.{Silent, Tag, EventTag, Moves}
use Rattle.study_games.specs.declared.games.Seen.{Seen}
use Rattle.study_games.specs.declared.gathering.Game.{Game as GameRead}

-- ---- lines

-- a line with one byte more. At most 1,048,580 bytes of a line are kept: with these its game is too large, even if three of them are a byte order mark
abbrev pub with_byte : List ℕ → ℕ → List ℕ
with_byte line b = if nat_le 1048580 (length line) then line else line ++ b ∷ []

-- the lines of a text, each with its line feed, after these bytes of the first one
abbrev pub lines_behind : List ℕ → List ℕ → List (List ℕ)
lines_behind line [] = if length line == 0 then [] else line ∷ []
lines_behind line (b ∷ bs) = if b == 10 then with_byte line b ∷ lines_behind [] bs else lines_behind (with_byte line b) bs

-- without a byte order mark in front: files that were joined have one within the text, too
abbrev pub without_mark : List ℕ → List ℕ
without_mark (a ∷ b ∷ c ∷ bs) = if a == 239 && (b == 187 && c == 191) then bs else a ∷ b ∷ c ∷ bs
without_mark bs = bs

-- ---- kinds of lines

-- after a tag's name, and gaps: a quotation mark
abbrev pub begins_value : List ℕ → Bool
begins_value [] = false
begins_value (b ∷ bs) = b == 34

-- from the name on
abbrev pub name_of : List ℕ → Option (List ℕ)
name_of [] = None
name_of (b ∷ bs) =
    if is_letter b && begins_value (behind is_gap (behind is_name_byte (b ∷ bs))) then Some (front is_name_byte (b ∷ bs)) else None

abbrev pub name_in_brackets : List ℕ → Option (List ℕ)
name_in_brackets [] = None
name_in_brackets (b ∷ bs) = if b == 91 then name_of (behind is_gap bs) else None

-- the name of the tag with which a line begins
unfoldable pub tag_name : List ℕ → Option (List ℕ)
tag_name line = name_in_brackets (behind is_gap line)

-- an escape line, or a remark to the end of the line
abbrev pub is_remark : List ℕ → Bool
is_remark [] = false
is_remark (b ∷ bs) = b == 37 || b == 59

abbrev pub kind_named : List ℕ → Option (List ℕ) → LineKind
kind_named line (Some name) = if bytes_eq name (codes "Event") then EventTag else Tag
kind_named line None = if list_all is_blank line then Silent else Moves

unfoldable pub kind_of : List ℕ → LineKind
kind_of line = if is_remark line then Silent else kind_named line (tag_name line)

-- ---- games

-- a tag line begins the next game if it follows a line of moves, or if it is a second tag Event
abbrev pub begins_game : Seen → LineKind → Bool
begins_game s Silent = false
begins_game s Moves = false
begins_game s Tag = s.moves
begins_game s EventTag = s.moves || s.event

abbrev pub seen_then : Seen → LineKind → Seen
seen_then s Silent = s
seen_then s Tag = s
seen_then s EventTag = record { moves = s.moves; event = true }
seen_then s Moves = record { moves = true; event = s.event }

-- a game: the number of its first line, and its bytes; `None` if there are more than 1,048,576
pub record Game : Type 0 where
  pub line : ℕ
  pub text : Option (List ℕ)

-- a game that has begun
pub record Begun : Type 0 where
  pub game : Game
  pub seen : Seen

abbrev pub with_bytes : Option (List ℕ) → List ℕ → Option (List ℕ)
with_bytes None line = None
with_bytes (Some text) line = if nat_le (length text + length line) 1048576 then Some (text ++ line) else None

abbrev pub with_text : Begun → List ℕ → Begun
with_text g line = record { game = record { line = g.game.line; text = with_bytes g.game.text line }; seen = g.seen }

abbrev pub with_line : Begun → List ℕ → LineKind → Begun
with_line g line kind = record {
  game = record { line = g.game.line; text = with_bytes g.game.text line };
  seen = seen_then g.seen kind;
}

-- a game that begins at line n, before this line
abbrev pub no_line : ℕ → Begun
no_line n = record { game = record { line = n; text = Some [] }; seen = record { moves = false; event = false } }

abbrev pub begun_by : ℕ → List ℕ → LineKind → Begun
begun_by n line kind = with_line (no_line n) line kind

-- silent lines before the first game belong to no game
abbrev pub first_line : ℕ → List ℕ → LineKind → Option Begun
first_line n line Silent = None
first_line n line kind = Some (begun_by n line kind)

-- a number of lines or of games, plus one; it saturates at the last value of a u32
abbrev pub one_more : ℕ → ℕ
one_more n = min (n + 1) (2 ^ 32 - 1)

-- a line is added to the current game, or begins the first one
abbrev pub taken_to : ℕ → Option Begun → List ℕ → LineKind → Option Begun
taken_to n None line kind = first_line n line kind
taken_to n (Some g) line kind = Some (with_line g line kind)

abbrev pub ends_before : Option Begun → LineKind → Bool
ends_before None kind = false
ends_before (Some g) kind = begins_game g.seen kind

abbrev pub game_at_hand : Option Begun → List Game
game_at_hand None = []
game_at_hand (Some g) = g.game ∷ []

-- the games of the lines from number n on, if this one has begun
abbrev pub games_from : ℕ → Option Begun → List (List ℕ) → List Game
games_from n begun [] = game_at_hand begun
games_from n begun (line ∷ lines) =
    if ends_before begun (kind_of (without_mark line))
    then game_at_hand begun ++ games_from (one_more n) (first_line n (without_mark line) (kind_of (without_mark line))) lines
    else games_from (one_more n) (taken_to n begun (without_mark line) (kind_of (without_mark line))) lines

unfoldable pub games_of : List ℕ → List Game
games_of text = games_from 1 None (lines_behind [] text)

-- ---- a game as it is read

-- the game as contracts see it
abbrev pub game_seen : GameRead → Game
game_seen g = record { line = g.line; text = option_map (λ t. t.now) g.text }

-- the number of the next line, and the game that has begun
pub record Gathered : Type 0 where
  pub next : ℕ
  pub begun : Option Begun

abbrev pub gathered_game : ℕ → Bool → ℕ → Bool → List ℕ → Seen → Gathered
gathered_game next false first large text seen = record { next = next; begun = None }
gathered_game next true first true text seen = record { next = next; begun = Some (record { game = record { line = first; text = None }; seen = seen }) }
gathered_game next true first false text seen = record { next = next; begun = Some (record { game = record { line = first; text = Some text }; seen = seen }) }

abbrev pub with_next : Gathered → List ℕ → LineKind → Gathered
with_next g line kind = record { next = one_more g.next; begun = taken_to g.next g.begun line kind }

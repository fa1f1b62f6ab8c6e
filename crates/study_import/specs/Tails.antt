-- A tail of a game: the game from a position that a comment of its main line states.
use Rattle.std.specs.Prelude.{◌≡◌, ℕ, zero, suc, ◌-◌, Bool, true, false, ◌&&◌, ◌==◌, List, [], ◌∷◌, ◌++◌, length, take, map, codes, Option, Some}
use Rattle.std.specs.Prelude.{None, Result, Ok, Err, if◌then◌else◌}
use Rattle.std.specs.Str.{bytes_eq}
use Rattle.study_board.specs.declared.men.Side.TheVariants.{White}
use Rattle.study_notation.specs.declared.start.Start.{Start}
use Rattle.study_notation.specs.declared.fault.FenFault.{FenFault}
use Rattle.study_notation.specs.Fen.{start_of}
use Rattle.study_marks.specs.declared.stipulation.Goal.{Goal}
use Rattle.study_marks.specs.declared.stipulation.Goal.TheVariants.{MateIn}
use Rattle.study_marks.specs.declared.stipulation.Stipulation.{Stipulation}
use Rattle.study_marks.specs.Edits.{is_printable}
use Rattle.study_games.specs.Games.{one_more}
use Rattle.study_games.specs.Header.{unescape}
use Rattle.study_games.specs.Symbols.{said_of}
use Rattle.study_games.specs.declared.symbols.Said.{Said}
use Rattle.study_games.specs.declared.symbols.Said.TheVariants as say
use Rattle.study_games.specs.Tokens.{Token, Lexed, lexed_token, blank, aside, opening, closing, star, tag, comment, rest, sign, symbol}
use Rattle.study_import.specs.declared.tails.Part.{Part}
use Rattle.study_import.specs.declared.tails.Part.TheVariants as part
use Rattle.study_import.specs.declared.tails.Act.{Act}
use Rattle.study_import.specs.declared.tails.Act.TheVariants as act
use Rattle.study_import.specs.declared.tails.Search.{Search}
use Rattle.study_import.specs.declared.tails.Named.{Named}
use Rattle.study_reading.specs.Aims.{aim_stated}

-- ---- the kinds of tokens in the search

-- a comment as a FEN: an unprintable byte, such as the end of a line, is read as a space
abbrev pub byte_or_space : ℕ → ℕ
byte_or_space b = if is_printable b then b else 32

abbrev pub position_text : List ℕ → List ℕ
position_text text = map byte_or_space text

abbrev pub is_start : Result Start FenFault → Bool
is_start (Ok start) = true
is_start (Err fault) = false

abbrev pub is_mate : Goal → Bool
is_mate (MateIn count) = true
is_mate other = false

-- the moves of a mate are counted from the game's own start, so it is not a stipulation of a tail
abbrev pub says_mate : Option Stipulation → Bool
says_mate None = false
says_mate (Some aim) = is_mate aim.goal

abbrev pub is_mate_tag : List ℕ → List ℕ → Bool
is_mate_tag name value = bytes_eq name (codes "Stipulation") && says_mate (aim_stated (unescape value) White)

abbrev pub part_said : Said → Part
part_said say.Number = part.Number
part_said say.Passing = part.Quiet
part_said say.Aside = part.Quiet
part_said say.Word = part.Quiet
part_said (say.Result outcome) = part.End
part_said say.NullMove = part.Move
part_said say.Move = part.Move

abbrev pub part_of : Token → Part
part_of blank = part.Quiet
part_of aside = part.Quiet
part_of (rest text) = part.Quiet
part_of opening = part.Open
part_of closing = part.Close
part_of star = part.End
part_of (sign text) = if bytes_eq text (codes "--") then part.Move else part.Quiet
part_of (symbol text) = part_said (said_of text)
part_of (tag name value) = part.Tag (is_mate_tag name value)
part_of (comment text) = part.Comment (says_mate (aim_stated text White)) (is_start (start_of (position_text text)))

-- ---- the action for a token

-- before the first move all is kept, except for a mate in so many moves and for the number of that move
abbrev pub act_before : Part → Act
act_before part.Quiet = act.Keep
act_before part.Number = act.Blank
act_before (part.Tag is_mate) = if is_mate then act.Blank else act.Keep
act_before (part.Comment is_mate is_position) = if is_mate then act.Blank else act.Keep
act_before part.Move = act.Skip
act_before other = act.Stop

-- before the position, and in variations; main: this is the main line
abbrev pub act_among : Bool → Part → Act
act_among main part.Quiet = act.Blank
act_among main part.Number = act.Blank
act_among main (part.Tag is_mate) = act.Stop
act_among main (part.Comment is_mate is_position) = if main && is_position then act.Name else act.Blank
act_among main part.Move = act.Skip
act_among main part.Open = act.Deepen
act_among main part.Close = if main then act.Stop else act.Rise
act_among main part.End = if main then act.Stop else act.Blank

-- after the position, variations replace the move that led to it, up to the next move
abbrev pub act_behind : Part → Act
act_behind part.Quiet = act.Keep
act_behind part.Number = act.Keep
act_behind (part.Comment is_mate is_position) = act.Keep
act_behind part.Open = act.Deepen
act_behind part.Move = act.Begin
act_behind part.End = act.Begin
act_behind other = act.Stop

abbrev pub act_of : Search → Part → Act
act_of s p =
    if s.skipped == 0 then act_before p
    else (if s.named && s.depth == 0 then act_behind p
    else act_among (s.depth == 0) p)

-- ---- the search

-- blanks in place of a text, so that the lines and columns of the rest are unchanged
abbrev pub blank_for : ℕ → ℕ
blank_for b = if b == 10 then 10 else 32

abbrev pub bytes_then : Act → List ℕ → List ℕ
bytes_then act.Keep bytes = bytes
bytes_then other bytes = map blank_for bytes

abbrev pub search_then : Search → Act → Search
search_then s act.Skip = record s { skipped = one_more s.skipped }
search_then s act.Deepen = record s { depth = one_more s.depth }
search_then s act.Rise = record s { depth = s.depth - 1 }
search_then s act.Name = record s { named = true }
search_then s other = s

abbrev pub comment_text : Token → List ℕ
comment_text (comment text) = text
comment_text other = []

abbrev pub position_then : List ℕ → Token → Act → List ℕ
position_then position token act.Name = comment_text token
position_then position token other = position

-- the state of the search, the text of the tail so far, and the comment that states its position
pub record Sought : Type 0 where
  pub search : Search
  pub kept : List ℕ
  pub position : List ℕ

-- a tail: the comment that states its position; its text, which is the game's with blanks in place of the skipped parts; and the number of skipped moves
pub record Tail : Type 0 where
  pub position : List ℕ
  pub text : List ℕ
  pub skipped : ℕ

abbrev pub sought_then : Sought → List ℕ → Token → Act → Sought
sought_then s bytes token what = record {
  search = search_then s.search what;
  kept = s.kept ++ bytes_then what bytes;
  position = position_then s.position token what;
}

abbrev pub tail_with : Sought → List ℕ → Tail
tail_with s text = record { position = s.position; text = s.kept ++ text; skipped = s.search.skipped }

abbrev pub tail_at_end : Sought → Option Tail
tail_at_end s = if s.search.named && s.search.depth == 0 then Some (tail_with s []) else None

abbrev pub on_act : (Sought → Option Tail) → List ℕ → Sought → List ℕ → Token → Act → Option Tail
on_act next text s bytes token act.Stop = None
on_act next text s bytes token act.Begin = Some (tail_with s text)
on_act next text s bytes token other = next (sought_then s bytes token other)

abbrev pub on_part : (List ℕ → Sought → Option Tail) → List ℕ → Sought → Lexed → Option Tail
on_part next text s (Err fault) = None
on_part next text s (Ok x) = on_act (next x.1) text s (take (length text - length x.1) text) x.0 (act_of s.search (part_of x.0))

-- at most n tokens are read, and each has at least one byte, so that a text's length is enough
abbrev pub tail_from : ℕ → Bool → List ℕ → Sought → Option Tail
tail_from zero fresh text s = tail_at_end s
tail_from (suc n) fresh [] s = tail_at_end s
tail_from (suc n) fresh (b ∷ bs) s = on_part (tail_from n (b == 10)) (b ∷ bs) s (lexed_token fresh b bs)

abbrev pub not_begun : List ℕ → Sought
not_begun kept = record { search = record { skipped = 0; depth = 0; named = false }; kept = kept; position = [] }

unfoldable pub tail_in : List ℕ → Option Tail
tail_in text = tail_from (length text) true text (not_begun [])

-- ---- a tail as contracts see it

abbrev pub sought_seen : Search → List ℕ → List ℕ → Sought
sought_seen search kept position = record { search = search; kept = kept; position = position }

abbrev pub named_seen : Option Named → List ℕ → Option Tail
named_seen None text = None
named_seen (Some n) text = Some (record { position = n.position.now; text = text; skipped = n.skipped })

abbrev pub EndsNamed : Option Named → Search → List ℕ → Type 0
EndsNamed found search position = (kept : List ℕ) → named_seen found kept ≡ tail_at_end (sought_seen search kept position)

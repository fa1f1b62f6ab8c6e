-- The stipulation that a game states.
use Rattle.std.specs.Prelude.{ℕ, ◌-◌, Bool, true, false, not, ◌&&◌, ◌||◌, ◌==◌, nat_le, List, [], ◌∷◌, length, take, drop, slice_index, codes, Option, Some}
use Rattle.std.specs.Prelude.{None, is_some}
use Rattle.std.specs.Prelude.{if◌then◌else◌}
use Rattle.std.specs.Str.{bytes_eq}
use Rattle.std.specs.List.{prefix_len}
use Rattle.study_board.specs.declared.men.Side.{Side}
use Rattle.study_board.specs.declared.men.Side.TheVariants.{White, Black}
use Rattle.study_marks.specs.declared.stipulation.Goal.{Goal}
use Rattle.study_marks.specs.declared.stipulation.Goal.TheVariants.{Win, Draw, MateIn}
use Rattle.study_marks.specs.declared.stipulation.Stipulation.{Stipulation}
use Rattle.study_command.specs.Parser.{mate_moves_of}
use Rattle.study_games.specs.Bytes.{is_letter}
use Rattle.study_games.specs.Words.{first_word, trim}
use Rattle.study_games.specs.Symbols.{said_of}
use Rattle.study_games.specs.declared.symbols.Said.{Said}
use Rattle.study_games.specs.declared.symbols.Said.TheVariants as say
use Rattle.study_games.specs.declared.symbols.Outcome.{Outcome}
use Rattle.study_games.specs.declared.symbols.Outcome.TheVariants.{WhiteWins, BlackWins, Drawn}
use Rattle.study_remark.specs.declared.remark.Source.{Source}
use Rattle.study_remark.specs.declared.remark.Source.TheVariants.{Comment, StipulationTag, ResultTag, Result, Given}
use Rattle.study_reading.specs.declared.aims.Aim.{Aim}
use Rattle.study_reading.specs.declared.aims.Doubts.{Doubts}
use Rattle.study_reading.specs.declared.aims.Sources.{Sources}

-- a word, and the rest
abbrev pub Found : Type 0
Found = Option (List ℕ × List ℕ)

-- ---- words: `White to win`, `Black to play and draw`, `White to mate in 3 moves`, or as said of the solution `White wins`, `White mates in 3`, alone or up
-- to a colon, a full stop, a comma, a semicolon, an exclamation mark or a closing parenthesis

abbrev pub ends_clause : ℕ → Bool
ends_clause b = b == 58 || (b == 46 || (b == 44 || (b == 59 || (b == 33 || b == 41))))

abbrev pub ends_phrase : List ℕ → Bool
ends_phrase word = nat_le 1 (length word) && ends_clause (slice_index word (length word - 1))

abbrev pub begins_clause : List ℕ → Bool
begins_clause [] = false
begins_clause (b ∷ bs) = ends_clause b

-- a word follows that does not begin with such a mark
abbrev pub goes_on : Found → Bool
goes_on None = false
goes_on (Some x) = not (begins_clause x.0)

-- the last word of a phrase: it ends with such a mark, which is not part of it, or one follows, or it ends the text
unfoldable pub last_of_phrase : List ℕ → List ℕ → Option (List ℕ)
last_of_phrase word behind =
    if ends_phrase word then Some (take (length word - 1) word)
    else (if goes_on (first_word behind) then None else Some word)

abbrev pub says_white : List ℕ → Bool
says_white word =
    bytes_eq word (codes "White") || (bytes_eq word (codes "white") || (bytes_eq word (codes "WHITE") || bytes_eq word (codes "(White")))

abbrev pub says_black : List ℕ → Bool
says_black word =
    bytes_eq word (codes "Black") || (bytes_eq word (codes "black") || (bytes_eq word (codes "BLACK") || bytes_eq word (codes "(Black")))

abbrev pub hero_of : List ℕ → Option Side
hero_of word = if says_white word then Some White else (if says_black word then Some Black else None)

abbrev pub goal_named : Option (List ℕ) → Option Goal
goal_named None = None
goal_named (Some word) = if bytes_eq word (codes "win") then Some Win else (if bytes_eq word (codes "draw") then Some Draw else None)

abbrev pub moves_named : Option (List ℕ) → Option ℕ
moves_named None = None
moves_named (Some word) = mate_moves_of word

abbrev pub says_moves : Option (List ℕ) → Bool
says_moves None = false
says_moves (Some word) = bytes_eq word (codes "moves") || bytes_eq word (codes "move")

-- after `mate in 3`: `moves`
abbrev pub moves_counted : List ℕ → Found → Option ℕ
moves_counted count None = None
moves_counted count (Some x) = if says_moves (last_of_phrase x.0 x.1) then mate_moves_of count else None

abbrev pub or_moves : Option ℕ → Option ℕ → Option ℕ
or_moves (Some count) later = Some count
or_moves None later = later

-- after `mate in`
abbrev pub moves_in : Found → Option ℕ
moves_in None = None
moves_in (Some x) = or_moves (moves_named (last_of_phrase x.0 x.1)) (moves_counted x.0 (first_word x.1))

-- after `mate`
abbrev pub moves_behind_in : Found → Option ℕ
moves_behind_in None = None
moves_behind_in (Some x) = if bytes_eq x.0 (codes "in") then moves_in (first_word x.1) else None

abbrev pub mate_goal : Option ℕ → Option Goal
mate_goal None = None
mate_goal (Some count) = Some (MateIn count)

abbrev pub goal_or_mate : Option Goal → List ℕ → List ℕ → Option Goal
goal_or_mate (Some goal) word behind = Some goal
goal_or_mate None word behind = if bytes_eq word (codes "mate") then mate_goal (moves_behind_in (first_word behind)) else None

-- after `to`, or `and`
abbrev pub goal_in : Found → Option Goal
goal_in None = None
goal_in (Some x) = goal_or_mate (goal_named (last_of_phrase x.0 x.1)) x.0 x.1

-- after `play` or `move`
abbrev pub goal_behind_and : Found → Option Goal
goal_behind_and None = None
goal_behind_and (Some x) = if bytes_eq x.0 (codes "and") then goal_in (first_word x.1) else None

-- `to play and win`, `to move and draw`
abbrev pub goal_behind_play : Found → Option Goal
goal_behind_play None = None
goal_behind_play (Some x) =
    if bytes_eq x.0 (codes "play") || bytes_eq x.0 (codes "move") then goal_behind_and (first_word x.1) else None

abbrev pub or_goal : Option Goal → Option Goal → Option Goal
or_goal (Some goal) later = Some goal
or_goal None later = later

-- after `to`
abbrev pub goal_after_to : Found → Option Goal
goal_after_to x = or_goal (goal_in x) (goal_behind_play x)

-- `to win`, `to play and draw`
abbrev pub goal_behind_to : Found → Option Goal
goal_behind_to None = None
goal_behind_to (Some x) = if bytes_eq x.0 (codes "to") then goal_after_to (first_word x.1) else None

abbrev pub goal_of_verb : Option (List ℕ) → Option Goal
goal_of_verb None = None
goal_of_verb (Some word) = if bytes_eq word (codes "wins") then Some Win else (if bytes_eq word (codes "draws") then Some Draw else None)

abbrev pub verb_or_mate : Option Goal → List ℕ → List ℕ → Option Goal
verb_or_mate (Some goal) word behind = Some goal
verb_or_mate None word behind = if bytes_eq word (codes "mates") then mate_goal (moves_behind_in (first_word behind)) else None

-- `wins`, `draws`, `mates in 3`
abbrev pub goal_by_verb : Found → Option Goal
goal_by_verb None = None
goal_by_verb (Some x) = verb_or_mate (goal_of_verb (last_of_phrase x.0 x.1)) x.0 x.1

-- after the hero
abbrev pub goal_behind_hero : Found → Option Goal
goal_behind_hero x = or_goal (goal_behind_to x) (goal_by_verb x)

abbrev pub stipulation_by : Option Side → Option Goal → Option Stipulation
stipulation_by (Some hero) (Some goal) = Some (record { hero = hero; goal = goal })
stipulation_by _ _ = None

abbrev pub aim_by : Found → Option Stipulation
aim_by None = None
aim_by (Some x) = stipulation_by (hero_of x.0) (goal_behind_hero (first_word x.1))

-- the stipulation at the beginning of a text, if it names the hero
unfoldable pub aim_in : List ℕ → Option Stipulation
aim_in text = aim_by (first_word text)

-- ---- signs: `#3`, `+`, `=`, `Mate in 3`, `Win`, `Draw`, alone or up to such a mark

abbrev pub says_win : List ℕ → Bool
says_win text = bytes_eq text (codes "+") || (bytes_eq text (codes "Win") || bytes_eq text (codes "win"))

abbrev pub says_draw : List ℕ → Bool
says_draw text = bytes_eq text (codes "=") || (bytes_eq text (codes "Draw") || bytes_eq text (codes "draw"))

-- `#3`
abbrev pub mate_sign : List ℕ → Option Goal
mate_sign [] = None
mate_sign (b ∷ bs) = if b == 35 then mate_goal (mate_moves_of bs) else None

abbrev pub goal_of_sign : Option (List ℕ) → Option Goal
goal_of_sign None = None
goal_of_sign (Some word) = if says_win word then Some Win else (if says_draw word then Some Draw else mate_sign word)

abbrev pub sign_or_mate : Option Goal → List ℕ → List ℕ → Option Goal
sign_or_mate (Some goal) word behind = Some goal
sign_or_mate None word behind =
    if bytes_eq word (codes "Mate") || bytes_eq word (codes "mate") then mate_goal (moves_behind_in (first_word behind)) else None

abbrev pub goal_signed_by : Found → Option Goal
goal_signed_by None = None
goal_signed_by (Some x) = sign_or_mate (goal_of_sign (last_of_phrase x.0 x.1)) x.0 x.1

-- the goal at the beginning of a text that names no hero
unfoldable pub goal_signed : List ℕ → Option Goal
goal_signed text = goal_signed_by (first_word text)

-- a mate is for the side to move; a win and a draw without a name are White's
abbrev pub signed_by : Side → Option Goal → Option Stipulation
signed_by to_move None = None
signed_by to_move (Some (MateIn count)) = Some (record { hero = to_move; goal = MateIn count })
signed_by to_move (Some Win) = Some (record { hero = White; goal = Win })
signed_by to_move (Some Draw) = Some (record { hero = White; goal = Draw })

abbrev pub or_stipulation : Option Stipulation → Option Stipulation → Option Stipulation
or_stipulation (Some aim) later = Some aim
or_stipulation None later = later

-- what a text states, if this side is to move
unfoldable pub aim_stated : List ℕ → Side → Option Stipulation
aim_stated text to_move = or_stipulation (aim_in text) (signed_by to_move (goal_signed text))

-- ---- texts that state something else: `h#2`, `s#3`, `White to selfmate in 2`

-- a letter or a hyphen, as in `ser-h#3`
abbrev pub is_kind_byte : ℕ → Bool
is_kind_byte b = is_letter b || b == 45

abbrev pub begins_goal : List ℕ → Bool
begins_goal [] = false
begins_goal (b ∷ bs) = b == 35 || b == 61

-- `#..`, `h#..`, `s=..`: letters, and `#` or `=`
abbrev pub is_problem : List ℕ → Bool
is_problem word = begins_goal (drop (prefix_len is_kind_byte word) word)

-- `Mate in three`, `Win in 4`
abbrev pub says_goal : List ℕ → Bool
says_goal word = says_win word || (says_draw word || (bytes_eq word (codes "Mate") || bytes_eq word (codes "mate")))

abbrev pub says_in : Found → Bool
says_in None = false
says_in (Some x) = bytes_eq x.0 (codes "in")

-- after `to`: only `move` or `play` says who moves, and no more
abbrev pub says_mover : Option (List ℕ) → Bool
says_mover None = false
says_mover (Some word) = bytes_eq word (codes "move") || bytes_eq word (codes "play")

abbrev pub names_mover : Found → Bool
names_mover None = false
names_mover (Some x) = says_mover (last_of_phrase x.0 x.1)

-- after the hero: `to` with more than who moves, or `mates`
abbrev pub asks_goal : Found → Bool
asks_goal None = false
asks_goal (Some x) = if bytes_eq x.0 (codes "to") then not (names_mover (first_word x.1)) else bytes_eq x.0 (codes "mates")

abbrev pub looks_stated : Found → Bool
looks_stated None = false
looks_stated (Some x) =
    is_problem x.0 || ((says_goal x.0 && says_in (first_word x.1)) || (is_some (hero_of x.0) && asks_goal (first_word x.1)))

-- a comment has the form of a stipulation, and is none that is read
unfoldable pub is_unread_comment : List ℕ → Bool
is_unread_comment text = looks_stated (first_word text) && not (is_some (aim_in text) || is_some (goal_signed text))

abbrev pub is_no_text : Found → Bool
is_no_text None = true
is_no_text (Some x) = bytes_eq x.0 (codes "?") || (bytes_eq x.0 (codes "-") || bytes_eq x.0 (codes "*"))

-- the value of a tag Stipulation is neither unknown nor read
unfoldable pub is_unread_tag : List ℕ → Bool
is_unread_tag value = not (is_no_text (first_word value)) && not (is_some (aim_in value) || is_some (goal_signed value))

-- ---- results: in a collection of studies White is the hero of a draw, whoever is to move

abbrev pub aim_of_outcome : Outcome → Stipulation
aim_of_outcome WhiteWins = record { hero = White; goal = Win }
aim_of_outcome BlackWins = record { hero = Black; goal = Win }
aim_of_outcome Drawn = record { hero = White; goal = Draw }

abbrev pub outcome_said : Said → Option Outcome
outcome_said (say.Result outcome) = Some outcome
outcome_said other = None

-- the value of the tag Result: a result as behind the moves
unfoldable pub outcome_of_tag : List ℕ → Option Outcome
outcome_of_tag value = outcome_said (said_of (trim value))

-- the result that the stipulation wants
abbrev pub goal_outcome : Goal → Side → Outcome
goal_outcome Draw hero = Drawn
goal_outcome other White = WhiteWins
goal_outcome other Black = BlackWins

abbrev pub outcome_wanted : Stipulation → Outcome
outcome_wanted s = goal_outcome s.goal s.hero

-- ---- the first stipulation that is stated

abbrev pub no_doubts : Doubts
no_doubts = record { comment_unread = false; tag_unread = false; tag_differs = false; result_tag_differs = false; result_differs = false }

abbrev pub from_source : Source → Option Stipulation → Option Aim
from_source source None = None
from_source source (Some stipulation) = Some (record { stipulation = stipulation; source = source; doubts = no_doubts })

abbrev pub or_aim : Option Aim → Option Aim → Option Aim
or_aim (Some aim) later = Some aim
or_aim None later = later

abbrev pub aim_of_result : Source → Option Outcome → Option Aim
aim_of_result source None = None
aim_of_result source (Some outcome) = from_source source (Some (aim_of_outcome outcome))

-- what is stated and not understood is not passed over: only the caller's stipulation takes its place
abbrev pub unless_unread : Bool → Option Stipulation → Option Aim → Option Aim
unless_unread unread given later = if unread then from_source Given given else later

-- in the opening comment, the tag Stipulation, the tag Result, the result, or by the caller
abbrev pub first_aim : Sources → Option Aim
first_aim s =
    or_aim (from_source Comment s.comment)
    (unless_unread s.comment_unread s.given
    (or_aim (from_source StipulationTag s.tag)
    (unless_unread s.tag_unread s.given
    (or_aim (aim_of_result ResultTag s.result_tag) (or_aim (aim_of_result Result s.result) (from_source Given s.given))))))

abbrev pub other_outcome : Outcome → Outcome → Bool
other_outcome WhiteWins WhiteWins = false
other_outcome BlackWins BlackWins = false
other_outcome Drawn Drawn = false
other_outcome a b = true

abbrev pub result_differs : Outcome → Option Outcome → Bool
result_differs wanted None = false
result_differs wanted (Some outcome) = other_outcome wanted outcome

abbrev pub tag_differs : Outcome → Option Stipulation → Bool
tag_differs wanted None = false
tag_differs wanted (Some stipulation) = other_outcome wanted (outcome_wanted stipulation)

-- what speaks against the stipulation, by the result that it wants
abbrev pub doubts_of : Sources → Outcome → Doubts
doubts_of s wanted = record {
  comment_unread = s.comment_unread;
  tag_unread = s.tag_unread;
  tag_differs = tag_differs wanted s.tag;
  result_tag_differs = result_differs wanted s.result_tag;
  result_differs = result_differs wanted s.result;
}

abbrev pub with_doubts : Sources → Option Aim → Option Aim
with_doubts s None = None
with_doubts s (Some aim) =
    Some (record { stipulation = aim.stipulation; source = aim.source; doubts = doubts_of s (outcome_wanted aim.stipulation) })

unfoldable pub aim_by_sources : Sources → Option Aim
aim_by_sources s = with_doubts s (first_aim s)

-- why a game has no stipulation: which source is not understood, or none states one
unfoldable pub unaimed_words : Sources → List ℕ
unaimed_words s =
    if s.comment_unread then codes "StipulationUnread at its comment"
    else (if s.tag_unread then codes "StipulationUnread at its tag Stipulation" else codes "NoStipulation")

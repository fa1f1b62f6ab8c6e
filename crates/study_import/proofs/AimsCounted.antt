-- A mate has 1 to 127 moves, whatever part of a game states it.
use Rattle.std.proofs.Common.{◌≡◌, ℕ, ◌≤◌, Bool, true, false, List, [], ◌∷◌, Option, Some, None, refl, subst}
use Rattle.std.specs.Prelude.{◌==◌, ◌&&◌, ◌||◌, not, nat_le, codes, if◌then◌else◌}
use Rattle.std.specs.Str.{bytes_eq}
use Rattle.std.proofs.lemmas.Bool.{and_parts, leb-true}
use Rattle.study_board.specs.declared.men.Side.{Side}
use Rattle.study_marks.specs.declared.stipulation.Goal.{Goal}
use Rattle.study_marks.specs.declared.stipulation.Goal.TheVariants.{Win, Draw, MateIn}
use Rattle.study_marks.specs.declared.stipulation.Stipulation.{Stipulation}
use Rattle.study_command.specs.Paths.{place_parsed}
use Rattle.study_command.specs.Parser.{few_moves, mate_moves_of}
use Rattle.study_games.specs.Words.{first_word}
use Rattle.study_games.specs.Header.{Pair, value_of, unescape}
use Rattle.study_games.specs.Symbols.{said_of}
use Rattle.study_games.specs.Tokens.{Token, blank, aside, opening, closing, star, tag, comment, rest, sign, symbol}
use Rattle.study_games.specs.declared.symbols.Outcome.{Outcome}
use Rattle.study_games.specs.declared.symbols.Outcome.TheVariants.{WhiteWins, BlackWins, Drawn}
use Rattle.study_games.specs.declared.symbols.Said.{Said}
use Rattle.study_games.specs.declared.symbols.Said.TheVariants as say
use Rattle.study_reading.specs.declared.aims.Aim.{Aim}
use Rattle.study_remark.specs.declared.remark.Source.{Source}
use Rattle.study_remark.specs.declared.remark.Source.TheVariants.{Comment, StipulationTag, ResultTag, Result as EndResult, Given}
use Rattle.study_reading.specs.declared.notes.Notes.{Notes}
use Rattle.study_reading.specs.declared.aims.Sources.{Sources}
use Rattle.study_reading.specs.Aims.{Found, last_of_phrase, hero_of, goal_named, moves_named, says_moves, moves_counted, or_moves, moves_in}
use Rattle.study_reading.specs.Aims.{moves_behind_in, mate_goal, goal_or_mate}
use Rattle.study_reading.specs.Aims.{goal_in, goal_behind_and, goal_behind_play, or_goal, goal_after_to, goal_behind_to, goal_of_verb, verb_or_mate}
use Rattle.study_reading.specs.Aims.{goal_by_verb, goal_behind_hero, stipulation_by, aim_by, aim_in, says_win, says_draw, mate_sign, goal_of_sign}
use Rattle.study_reading.specs.Aims.{sign_or_mate, goal_signed_by, goal_signed, signed_by, or_stipulation, aim_stated, aim_of_outcome, from_source}
use Rattle.study_reading.specs.Aims.{or_aim, aim_of_result, unless_unread, first_aim, with_doubts, aim_by_sources}
use Rattle.study_reading.specs.Notes.{with_said, with_sign, with_token}
use Rattle.study_import.specs.Blocks.{tag_aim, sources_of, aim_of_game}
use Rattle.study_import.specs.Laws.{IsCounted, IsGiven}

-- ---- numbers and goals

abbrev Few : Option ℕ → Type 0
Few None = Unit {0}
Few (Some n) = (1 ≤ n) × (n ≤ 127)

few_by : (n : ℕ) (b : Bool) → (nat_le 1 n && nat_le n 127) ≡ b → Few (if b then Some n else None)
few_by n true e = let a = and_parts (nat_le 1 n) (nat_le n 127) e in (leb-true 1 n a.0, leb-true n 127 a.1)
few_by n false e = tt

few : (o : Option ℕ) → Few (few_moves o)
few None = tt
few (Some n) = few_by n (nat_le 1 n && nat_le n 127) refl

few_in : (word : List ℕ) → Few (mate_moves_of word)
few_in word = few (place_parsed word)

few_named : (o : Option (List ℕ)) → Few (moves_named o)
few_named None = tt
few_named (Some word) = few_in word

few_if : (b : Bool) (o : Option ℕ) → Few o → Few (if b then o else None)
few_if true o h = h
few_if false o h = tt

few_counted : (count : List ℕ) (x : Found) → Few (moves_counted count x)
few_counted count None = tt
few_counted count (Some x) = few_if (says_moves (last_of_phrase x.0 x.1)) (mate_moves_of count) (few_in count)

few_or : (o p : Option ℕ) → Few o → Few p → Few (or_moves o p)
few_or (Some n) p h k = h
few_or None p h k = k

few_behind : (x : Found) → Few (moves_in x)
few_behind None = tt
few_behind (Some x) = few_or _ _ (few_named (last_of_phrase x.0 x.1)) (few_counted x.0 (first_word x.1))

few_mate : (x : Found) → Few (moves_behind_in x)
few_mate None = tt
few_mate (Some x) = few_if (bytes_eq x.0 (codes "in")) (moves_in (first_word x.1)) (few_behind (first_word x.1))

abbrev pub Counted : Option Goal → Type 0
Counted None = Unit {0}
Counted (Some goal) = IsCounted goal

counted_mate : (o : Option ℕ) → Few o → Counted (mate_goal o)
counted_mate None h = tt
counted_mate (Some n) h = h

counted_if : (b : Bool) (o p : Option Goal) → Counted o → Counted p → Counted (if b then o else p)
counted_if true o p h k = h
counted_if false o p h k = k

named_by : (win draw : Bool) → Counted (if win then Some Win else (if draw then Some Draw else None))
named_by true draw = tt
named_by false true = tt
named_by false false = tt

counted_named : (o : Option (List ℕ)) → Counted (goal_named o)
counted_named None = tt
counted_named (Some word) = named_by (bytes_eq word (codes "win")) (bytes_eq word (codes "draw"))

counted_or : (o : Option Goal) (word behind : List ℕ) → Counted o → Counted (goal_or_mate o word behind)
counted_or (Some goal) word behind h = h
counted_or None word behind h =
    counted_if (bytes_eq word (codes "mate")) (mate_goal (moves_behind_in (first_word behind))) None
    (counted_mate (moves_behind_in (first_word behind)) (few_mate (first_word behind))) tt

counted_in : (x : Found) → Counted (goal_in x)
counted_in None = tt
counted_in (Some x) = counted_or (goal_named (last_of_phrase x.0 x.1)) x.0 x.1 (counted_named (last_of_phrase x.0 x.1))

counted_and : (x : Found) → Counted (goal_behind_and x)
counted_and None = tt
counted_and (Some x) = counted_if (bytes_eq x.0 (codes "and")) (goal_in (first_word x.1)) None (counted_in (first_word x.1)) tt

counted_play : (x : Found) → Counted (goal_behind_play x)
counted_play None = tt
counted_play (Some x) =
    counted_if (bytes_eq x.0 (codes "play") || bytes_eq x.0 (codes "move")) (goal_behind_and (first_word x.1)) None (counted_and (first_word x.1)) tt

counted_either : (o p : Option Goal) → Counted o → Counted p → Counted (or_goal o p)
counted_either (Some goal) p h k = h
counted_either None p h k = k

counted_to : (x : Found) → Counted (goal_behind_to x)
counted_to None = tt
counted_to (Some x) =
    counted_if (bytes_eq x.0 (codes "to")) (goal_after_to (first_word x.1)) None
    (counted_either (goal_in (first_word x.1)) (goal_behind_play (first_word x.1)) (counted_in (first_word x.1)) (counted_play (first_word x.1))) tt

counted_reported : (o : Option (List ℕ)) → Counted (goal_of_verb o)
counted_reported None = tt
counted_reported (Some word) = named_by (bytes_eq word (codes "wins")) (bytes_eq word (codes "draws"))

counted_mates : (o : Option Goal) (word behind : List ℕ) → Counted o → Counted (verb_or_mate o word behind)
counted_mates (Some goal) word behind h = h
counted_mates None word behind h =
    counted_if (bytes_eq word (codes "mates")) (mate_goal (moves_behind_in (first_word behind))) None
    (counted_mate (moves_behind_in (first_word behind)) (few_mate (first_word behind))) tt

counted_verb : (x : Found) → Counted (goal_by_verb x)
counted_verb None = tt
counted_verb (Some x) = counted_mates (goal_of_verb (last_of_phrase x.0 x.1)) x.0 x.1 (counted_reported (last_of_phrase x.0 x.1))

counted_hero : (x : Found) → Counted (goal_behind_hero x)
counted_hero x = counted_either (goal_behind_to x) (goal_by_verb x) (counted_to x) (counted_verb x)

-- ---- stipulations

given_aimed : (side : Option Side) (goal : Option Goal) → Counted goal → IsGiven (stipulation_by side goal)
given_aimed (Some side) (Some goal) h = h
given_aimed (Some side) None h = tt
given_aimed None (Some goal) h = tt
given_aimed None None h = tt

given_by : (x : Found) → IsGiven (aim_by x)
given_by None = tt
given_by (Some x) = given_aimed (hero_of x.0) (goal_behind_hero (first_word x.1)) (counted_hero (first_word x.1))

given_in : (text : List ℕ) → IsGiven (aim_in text)
unfolding aim_in
given_in text = given_by (first_word text)

-- ---- signs

counted_sign : (word : List ℕ) → Counted (mate_sign word)
counted_sign [] = tt
counted_sign (b ∷ bs) = counted_if (b == 35) (mate_goal (mate_moves_of bs)) None (counted_mate (mate_moves_of bs) (few_in bs)) tt

sign_by : (win draw : Bool) (o : Option Goal) → Counted o → Counted (if win then Some Win else (if draw then Some Draw else o))
sign_by true draw o h = tt
sign_by false true o h = tt
sign_by false false o h = h

counted_of_sign : (o : Option (List ℕ)) → Counted (goal_of_sign o)
counted_of_sign None = tt
counted_of_sign (Some word) = sign_by (says_win word) (says_draw word) (mate_sign word) (counted_sign word)

counted_sign_or : (o : Option Goal) (word behind : List ℕ) → Counted o → Counted (sign_or_mate o word behind)
counted_sign_or (Some goal) word behind h = h
counted_sign_or None word behind h =
    counted_if (bytes_eq word (codes "Mate") || bytes_eq word (codes "mate")) (mate_goal (moves_behind_in (first_word behind))) None
    (counted_mate (moves_behind_in (first_word behind)) (few_mate (first_word behind))) tt

counted_signed_by : (x : Found) → Counted (goal_signed_by x)
counted_signed_by None = tt
counted_signed_by (Some x) = counted_sign_or (goal_of_sign (last_of_phrase x.0 x.1)) x.0 x.1 (counted_of_sign (last_of_phrase x.0 x.1))

counted_signed : (text : List ℕ) → Counted (goal_signed text)
unfolding goal_signed
counted_signed text = counted_signed_by (first_word text)

given_signed : (side : Side) (o : Option Goal) → Counted o → IsGiven (signed_by side o)
given_signed side None h = tt
given_signed side (Some (MateIn count)) h = h
given_signed side (Some Win) h = tt
given_signed side (Some Draw) h = tt

given_or : (o p : Option Stipulation) → IsGiven o → IsGiven p → IsGiven (or_stipulation o p)
given_or (Some aim) p h k = h
given_or None p h k = k

given_stated : (text : List ℕ) (side : Side) → IsGiven (aim_stated text side)
unfolding aim_stated
given_stated text side = given_or (aim_in text) _ (given_in text) (given_signed side (goal_signed text) (counted_signed text))

given_tag : (side : Side) (value : Option (List ℕ)) → IsGiven (tag_aim side value)
given_tag side None = tt
given_tag side (Some value) = given_stated (unescape value) side

-- ---- the first stipulation that is stated

abbrev Aimed : Option Aim → Type 0
Aimed None = Unit {0}
Aimed (Some aim) = IsCounted aim.stipulation.goal

aimed_source : (s : Source) (o : Option Stipulation) → IsGiven o → Aimed (from_source s o)
aimed_source s None h = tt
aimed_source s (Some aim) h = h

aimed_or : (o p : Option Aim) → Aimed o → Aimed p → Aimed (or_aim o p)
aimed_or (Some aim) p h k = h
aimed_or None p h k = k

outcome_counted : (o : Outcome) → IsCounted (aim_of_outcome o).goal
outcome_counted WhiteWins = tt
outcome_counted BlackWins = tt
outcome_counted Drawn = tt

aimed_result : (s : Source) (o : Option Outcome) → Aimed (aim_of_result s o)
aimed_result s None = tt
aimed_result s (Some o) = outcome_counted o

aimed_unless : (unread : Bool) (given : Option Stipulation) (o : Option Aim) → IsGiven given → Aimed o → Aimed (unless_unread unread given o)
aimed_unless true given o g h = aimed_source Given given g
aimed_unless false given o g h = h

aimed_first : (s : Sources) → IsGiven s.comment → IsGiven s.tag → IsGiven s.given → Aimed (first_aim s)
aimed_first s c t g =
    aimed_or (from_source Comment s.comment) _ (aimed_source Comment s.comment c)
    (aimed_unless s.comment_unread s.given _ g
    (aimed_or (from_source StipulationTag s.tag) _ (aimed_source StipulationTag s.tag t)
    (aimed_unless s.tag_unread s.given _ g
    (aimed_or (aim_of_result ResultTag s.result_tag) _ (aimed_result ResultTag s.result_tag)
    (aimed_or (aim_of_result EndResult s.result) (from_source Given s.given) (aimed_result EndResult s.result) (aimed_source Given s.given g))))))

aimed_doubts : (s : Sources) (o : Option Aim) → Aimed o → Aimed (with_doubts s o)
aimed_doubts s None h = tt
aimed_doubts s (Some aim) h = h

-- what the opening comment states
abbrev pub IsNoted : Notes → Type 0
IsNoted n = IsGiven n.opening × Counted n.opening_goal

pub game_aimed : (given : Option Stipulation) (tags : List Pair) (side : Side) (n : Notes) → IsGiven given → IsNoted n
    → (o : Option Aim) → aim_of_game given tags side n ≡ o → Aimed o
unfolding aim_by_sources sources_of
game_aimed given tags side n g k o e =
    let s = sources_of given tags side n in
    subst Aimed e
    (aimed_doubts s (first_aim s)
    (aimed_first s (given_or n.opening (signed_by side n.opening_goal) k.0 (given_signed side n.opening_goal k.1))
    (given_tag side (value_of (codes "Stipulation") tags)) g))

pub aim_counted : (given : Option Stipulation) (tags : List Pair) (side : Side) (n : Notes) (aim : Aim) → IsGiven given → IsNoted n
    → aim_of_game given tags side n ≡ Some aim → IsCounted aim.stipulation.goal
aim_counted given tags side n aim g k e = game_aimed given tags side n g k (Some aim) e

-- ---- the note for a comment

opening_if : (b : Bool) (x y : Notes) → IsNoted x → IsNoted y → IsNoted (if b then x else y)
opening_if true x y h k = h
opening_if false x y h k = k

opening_said : (n : Notes) (cut waits : Bool) (said : Said) → IsNoted n → IsNoted (with_said n cut waits said)
opening_said n cut waits say.Number h = h
opening_said n cut waits (say.Result outcome) h = h
opening_said n cut waits say.NullMove h = h
opening_said n cut waits say.Passing h = h
opening_said n cut waits say.Aside h = h
opening_said n cut waits say.Word h = h
opening_said n cut waits say.Move h = h

opening_sign : (n : Notes) (cut is_null : Bool) → IsNoted n → IsNoted (with_sign n cut is_null)
opening_sign n cut true h = h
opening_sign n cut false h = h

pub opening_noted : (n : Notes) (cut waits : Bool) (token : Token) → IsNoted n → IsNoted (with_token n cut waits token)
opening_noted n cut waits blank h = h
opening_noted n cut waits (tag name value) h = h
opening_noted n cut waits (comment text) h =
    opening_if (n.before_moves && not n.has_comment) _ _ (given_in text, counted_signed text) h
opening_noted n cut waits (rest text) h = h
opening_noted n cut waits aside h = h
opening_noted n cut waits opening h = h
opening_noted n cut waits closing h = h
opening_noted n cut waits star h = h
opening_noted n cut waits (sign text) h = opening_sign n cut (bytes_eq text (codes "--")) h
opening_noted n cut waits (symbol text) h = opening_said n cut waits (said_of text) h

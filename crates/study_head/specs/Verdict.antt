-- The words of a verdict.
use Rattle.std.specs.Prelude.{ℕ, ◌-◌, ◌==◌, ◌&&◌, nat_lt, Bool, true, false, List, [], ◌++◌, Option, Some, None, is_some, if◌then◌else◌, codes, decimal}
use Rattle.study_board.specs.declared.men.Side.{Side}
use Rattle.study_board.specs.Men.{same_side}
use Rattle.study_board.specs.Position.{Position}
use Rattle.study_moves.specs.declared.moves.Move.{Move}
use Rattle.study_moves.specs.Rules.{is_legal}
use Rattle.study_notation.specs.SanSpelling.{move_text}
use Rattle.study_values.specs.declared.value.Value.{Value}
use Rattle.study_marks.specs.declared.mark.Mark.{Mark}
use Rattle.study_marks.specs.declared.stipulation.Goal.{Goal}
use Rattle.study_marks.specs.declared.stipulation.Goal.TheVariants.{Win, Draw, MateIn}
use Rattle.study_marks.specs.declared.stipulation.Stipulation.{Stipulation}
use Rattle.study_marks.specs.Study.{Study}
use Rattle.study_marks.specs.Goals.{aim_of, hero_mates, plies_of, meets_stipulation}
use Rattle.study_pgn.specs.Values.{side_name, value_text}
use Rattle.study_facts.specs.Order.{is_empty}
use Rattle.study_entry.specs.declared.entry.Standing.{Standing}
use Rattle.study_entry.specs.declared.entry.Standing.TheVariants as standing
use Rattle.study_head.specs.declared.mistake.NamedMove.{NamedMove}
use Rattle.study_head.specs.declared.verdict.Stamp.{Stamp}
use Rattle.study_head.specs.declared.verdict.Stamp.TheVariants.{Wins, Mates, Misses, Fails, Cooked, Sound, Correct, Duals, NotRead, Refuted, Works}
use Rattle.study_head.specs.declared.verdict.Judgement.{Judgement}
use Rattle.study_head.specs.Mistake.{IsLegalMove, move_name, first_mistake}
use Rattle.study_head.specs.declared.solution.DualKind.{DualKind}
use Rattle.study_head.specs.declared.solution.DualKind.TheVariants.{Cook, WastesTime}
use Rattle.study_head.specs.declared.solution.DualCounts.{DualCounts}
use Rattle.study_head.specs.declared.solution.NamedDual.{NamedDual}
use Rattle.study_head.specs.declared.solution.SolutionFacts.{SolutionFacts}

abbrev pub is_sooner : ℕ → Option ℕ → Bool
is_sooner limit None = false
is_sooner limit (Some n) = nat_lt n limit

-- The hero reaches more than he is asked for: he wins where he is to draw, or mates in fewer moves. `first`: he is to move.
abbrev pub asks_too_little : Goal → Bool → Value → Bool
asks_too_little Win first v = false
asks_too_little Draw first v = is_some (hero_mates first v)
asks_too_little (MateIn k) first v = is_sooner (plies_of first k) (hero_mates first v)

abbrev pub excess_stamp : Goal → Side → Side → Value → Stamp
excess_stamp Draw hero first v = Wins hero
excess_stamp Win hero first v = Mates first v
excess_stamp (MateIn k) hero first v = Mates first v

-- what is wrong with a stipulation, if anything is, at a start of this value where this side is to move
abbrev pub wrong_stamp : Stipulation → Side → Value → Option Stamp
wrong_stamp x first v =
    if asks_too_little x.goal (same_side x.hero first) v then Some (excess_stamp x.goal x.hero first v)
    else (if meets_stipulation (record { goal = x.goal; hero_first = same_side x.hero first }) v then None else Some (Misses x))

-- the other first move of a cook
abbrev pub other_named : NamedMove → Option Move → Option NamedMove
other_named author None = None
other_named author (Some m) = Some (record { number = author.number; position = author.position; played = m })

abbrev pub is_cook : DualKind → Bool
is_cook Cook = true
is_cook _ = false

abbrev pub cook_of : Option NamedDual → Option NamedMove
cook_of None = None
cook_of (Some x) = if is_cook x.kind then other_named x.author x.other else None

abbrev pub cook_stamp : Option NamedMove → Stamp → Stamp
cook_stamp None other = other
cook_stamp (Some m) other = Cooked m

-- all duals are in last moves, or waste time
abbrev pub are_minor : DualCounts → Bool
are_minor c = (c.cooks == 0) && ((c.main == 0) && (c.variations == 0))

-- a main defence that is not given is said beside minor duals
abbrev pub missing_beside : SolutionFacts → Option NamedMove
missing_beside f = if are_minor f.counts then f.missing else None

-- of so many duals, some of which do more than waste time
abbrev pub dual_stamp : ℕ → SolutionFacts → Stamp
dual_stamp duals f = cook_stamp (cook_of f.worst) (Duals duals f.counts (missing_beside f))

-- of a solution without a mistake, by the number of its duals, whether it has no move of the hero, and its facts
abbrev pub solution_stamp : ℕ → Bool → SolutionFacts → Stamp
solution_stamp duals e f =
    if duals == 0 then (if e then Correct else Sound false f.missing)
    else (if f.counts.time == duals then Sound true f.missing else dual_stamp duals f)

abbrev pub mistake_stamp : Option NamedMove → Option NamedMove → Stamp → Stamp
mistake_stamp None reply other = other
mistake_stamp (Some m) reply other = Fails m reply

abbrev pub first_stamp : Option Stamp → Stamp → Stamp
first_stamp None other = other
first_stamp (Some x) other = x

-- The verdict on a study, as a judge looks for it: that the stipulation is wrong; else the author's first mistake; else another first move; else the
-- duals, by their kinds; else that it is sound, or that no move of the hero is given.
abbrev pub stamp_of : Study Mark → SolutionFacts → Stamp
stamp_of s f =
    first_stamp (wrong_stamp s.stipulation s.start.position.to_move s.tree.label.value)
    (mistake_stamp (first_mistake s) f.refutation (solution_stamp s.tree.label.faults (is_empty (aim_of s).hero_first s.tree.below) f))

-- the move that a stamp names is legal
abbrev pub IsLegalStamp : Stamp → Type 0
IsLegalStamp (Fails m reply) = IsLegalMove m
IsLegalStamp _ = Unit {0}

unfoldable pub not_read : List ℕ
not_read = codes "not read: line "

abbrev pub unread_words : ℕ → List ℕ
unread_words line = not_read ++ decimal line

-- `win`, `draw`, `mate in 3`
abbrev pub goal_words : Goal → List ℕ
goal_words Win = codes "win"
goal_words Draw = codes "draw"
goal_words (MateIn k) = codes "mate in " ++ decimal k

-- `does not win`
abbrev pub misses_words : Goal → List ℕ
misses_words goal = codes "does not " ++ goal_words goal

-- `White wins`
abbrev pub wins_words : Side → List ℕ
wins_words side = side_name side ++ codes " wins"

unfoldable pub wrong : List ℕ
wrong = codes "wrong: "

unfoldable pub fails_at : List ℕ
fails_at = codes "fails at "

-- the name of a move that is legal
abbrev pub legal_name : NamedMove → List ℕ
legal_name m = if is_legal m.position m.played then move_name m else []

-- `: 1... f1=Q`
abbrev pub reply_words : Option NamedMove → List ℕ
reply_words None = []
reply_words (Some m) = codes ": " ++ legal_name m

-- `fails at 1. Ka2: 1... f1=Q`
abbrev pub fails_words : NamedMove → Option NamedMove → List ℕ
fails_words m reply = fails_at ++ (move_name m ++ reply_words reply)

-- `cook: 1. Kc3`
abbrev pub cook_words : NamedMove → List ℕ
cook_words m = codes "cook: " ++ legal_name m

-- `1 dual`, `3 duals`
abbrev pub duals_words : ℕ → List ℕ
duals_words n = decimal n ++ (if n == 1 then codes " dual" else codes " duals")

-- a number of duals with what is said of one and of more
unfoldable pub part_words : ℕ → List ℕ → List ℕ → List ℕ
part_words n one many = if n == 0 then [] else (codes ", " ++ (decimal n ++ (if n == 1 then one else many)))

-- `, 1 in a variation, 2 in last moves, 3 waste time`
abbrev pub kinds_words : DualCounts → List ℕ
kinds_words c =
    part_words c.variations (codes " in a variation") (codes " in variations")
    ++ (part_words c.last (codes " in a last move") (codes " in last moves") ++ part_words c.time (codes " wastes time") (codes " waste time"))

-- where duals are that are all in variations, or all in last moves
abbrev pub variations_words : ℕ → List ℕ
variations_words n = if n == 1 then codes " in a variation, none in the main line" else codes " in variations, none in the main line"

abbrev pub last_words : ℕ → List ℕ
last_words n = if n == 1 then codes " in the last move" else codes " in last moves"

-- `3 duals, 2 waste time`, `2 duals in variations, none in the main line`
abbrev pub duals_stamp : ℕ → DualCounts → List ℕ
duals_stamp n c =
    duals_words n
    ++ (if c.variations == n then variations_words n else (if c.last == n then last_words n else kinds_words c))

abbrev pub framed_name : Option NamedMove → List ℕ → List ℕ → List ℕ
framed_name None front back = []
framed_name (Some m) front back = front ++ (legal_name m ++ back)

-- `; main defence 1... Ke7 not given`
abbrev pub missing_words : Option NamedMove → List ℕ
missing_words m = framed_name m (codes "; main defence ") (codes " not given")

abbrev pub sound_words : Bool → List ℕ
sound_words wastes = if wastes then codes "sound, duals waste time" else codes "sound"

-- `wrong: White wins`, `wrong: White mates in 2`, `does not win`, `fails at 1. Ka2: 1... f1=Q`, `cook: 1. Kc3`, `sound; main defence 1... Ke7 not given`,
-- `sound, duals waste time`, `correct, no solution yet`, `3 duals, 2 waste time`, `1 dual in the last move; main defence 1... Ke7 not given`,
-- `2 duals in variations, none in the main line`, `not read: line 17`, `refuted`, `works from here`
abbrev pub stamp_words : Stamp → List ℕ
stamp_words (Wins side) = wrong ++ wins_words side
stamp_words (Mates side v) = wrong ++ value_text side v
stamp_words (Misses x) = misses_words x.goal
stamp_words (Fails m reply) = fails_words m reply
stamp_words (Cooked m) = cook_words m
stamp_words (Sound wastes missing) = sound_words wastes ++ missing_words missing
stamp_words Correct = codes "correct, no solution yet"
stamp_words (Duals duals counts missing) = duals_stamp duals counts ++ missing_words missing
stamp_words (NotRead line) = unread_words line
stamp_words Refuted = codes "refuted"
stamp_words Works = codes "works from here"

unfoldable pub wrong_sentence : List ℕ
wrong_sentence = codes "The stipulation is wrong: "

unfoldable pub full_stop : List ℕ
full_stop = codes "."

unfoldable pub has_duals : List ℕ
has_duals = codes "The stipulation is correct; the solution has "

abbrev pub duals_sentence : ℕ → DualCounts → List ℕ
duals_sentence duals counts = has_duals ++ (duals_stamp duals counts ++ full_stop)

abbrev pub misses_sentence : Stipulation → List ℕ
misses_sentence x = wrong_sentence ++ (side_name x.hero ++ (codes " " ++ (misses_words x.goal ++ full_stop)))

unfoldable pub has_mistake : List ℕ
has_mistake = codes "The stipulation is correct, but the solution "

abbrev pub fails_sentence : NamedMove → Option NamedMove → List ℕ
fails_sentence m reply = has_mistake ++ (fails_words m reply ++ full_stop)

unfoldable pub has_cook : List ℕ
has_cook = codes "The stipulation is correct, but another first move works: "

abbrev pub cook_sentence : NamedMove → List ℕ
cook_sentence m = has_cook ++ (legal_name m ++ full_stop)

abbrev pub only_moves_sentence : Bool → List ℕ
only_moves_sentence wastes =
    if wastes then codes "The stipulation is correct, and the duals of the solution only waste time."
    else codes "The stipulation is correct, and every move of the solution is the only one that works."

-- ` The main defence 1... Ke7 is not given.`
abbrev pub missing_sentence : Option NamedMove → List ℕ
missing_sentence m = framed_name m (codes " The main defence ") (codes " is not given.")

-- what a stamp says, in a sentence
abbrev pub stamp_sentence : Stamp → List ℕ
stamp_sentence (Wins side) = wrong_sentence ++ (wins_words side ++ full_stop)
stamp_sentence (Mates side v) = wrong_sentence ++ (value_text side v ++ full_stop)
stamp_sentence (Misses x) = misses_sentence x
stamp_sentence (Fails m reply) = fails_sentence m reply
stamp_sentence (Cooked m) = cook_sentence m
stamp_sentence (Sound wastes missing) = only_moves_sentence wastes ++ missing_sentence missing
stamp_sentence Correct = codes "The stipulation is correct."
stamp_sentence (Duals duals counts missing) = duals_sentence duals counts ++ missing_sentence missing
stamp_sentence (NotRead line) = codes "A line of this study could not be read, so there is no verdict."
stamp_sentence Refuted = codes "This line is beside the solution, and from here it is refuted."
stamp_sentence Works = codes "This line is beside the solution, and from here it works: a second solution, unless there is a better defence before."

-- where the solution has no move of the hero
abbrev pub no_solution_words : Bool → List ℕ
no_solution_words e = if e then codes " The solution is not given yet." else []

unfoldable pub sentence : Bool → Stamp → List ℕ
sentence e v = stamp_sentence v ++ no_solution_words e

unfoldable pub at_start : List ℕ
at_start = codes "At the start: "

unfoldable pub start_words : Side → Value → List ℕ
start_words side v = at_start ++ (value_text side v ++ codes ".")

-- what the stamp says, then the value of the start
unfoldable pub verdict_words : Judgement → List ℕ
verdict_words j = sentence j.empty j.stamp ++ (codes " " ++ start_words j.first j.value)

-- what a judge reads of a study with these facts
abbrev pub judgement_of : Study Mark → SolutionFacts → Judgement
judgement_of s f = record {
  stamp = stamp_of s f;
  empty = is_empty (aim_of s).hero_first s.tree.below;
  first = s.start.position.to_move;
  value = s.tree.label.value;
}

-- no verdict is given on a study of which a line was refused, and of a line beside the solution it is only said whether the goal is reached from here
abbrev pub standing_stamp : Standing → Stamp → Stamp
standing_stamp standing.Whole x = x
standing_stamp (standing.NotRead line) x = NotRead line
standing_stamp standing.BesideSolution (Misses x) = Refuted
standing_stamp standing.BesideSolution x = Works

abbrev pub is_whole : Standing → Bool
is_whole standing.Whole = true
is_whole _ = false

-- it is said of a whole study alone that it has no solution
abbrev pub standing_judgement : Judgement → Standing → Judgement
standing_judgement j x = record { stamp = standing_stamp x j.stamp; empty = is_whole x && j.empty; first = j.first; value = j.value }

-- what a judge reads of an entry
abbrev pub entry_judgement : Study Mark → SolutionFacts → Standing → Judgement
entry_judgement s f standing = standing_judgement (judgement_of s f) standing

-- ---- the worst dual

-- `: also Kb6 and 2 more`
abbrev pub more_words : ℕ → List ℕ
more_words n = if nat_lt 1 n then (codes " and " ++ (decimal (n - 1) ++ codes " more")) else []

abbrev pub san_of : Position → Move → List ℕ
san_of p m = if is_legal p m then move_text p m else []

abbrev pub others_words : Position → Option Move → ℕ → List ℕ
others_words p None n = []
others_words p (Some m) n = codes ": also " ++ (san_of p m ++ more_words n)

abbrev pub waste_words : DualKind → List ℕ
waste_words WastesTime = codes ", wastes time"
waste_words _ = []

-- ` (after 2... h3)`
abbrev pub turn_words : Option NamedMove → List ℕ
turn_words m = framed_name m (codes " (after ") (codes ")")

-- `3. Kb4: also Kb6 and 2 more (after 2... h3)`
abbrev pub dual_words : Option NamedDual → List ℕ
dual_words None = []
dual_words (Some x) =
    legal_name x.author ++ (others_words x.author.position x.other x.others ++ (waste_words x.kind ++ turn_words x.turn))

-- the worst dual behind a stamp that does not name it
abbrev pub first_fault : Stamp → SolutionFacts → List ℕ
first_fault (Duals duals counts missing) f = dual_words f.worst
first_fault (Cooked m) f = dual_words f.worst
first_fault (Sound wastes missing) f = dual_words f.worst
first_fault _ f = []

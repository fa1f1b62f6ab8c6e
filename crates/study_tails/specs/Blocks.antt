-- The text of a study with its tails: the study in remarks, and a block for each tail.
use Rattle.std.specs.Prelude.{ℕ, ◌+◌, suc, zero, Bool, false, ◌||◌, ◌==◌, nat_le, nat_lt, List, [], ◌∷◌, ◌++◌, length, codes, decimal}
use Rattle.std.specs.Prelude.{Option, Some, None, Result, Ok, Err, if◌then◌else◌}
use Rattle.study_text.specs.Paths.{path_text}
use Rattle.study_board.specs.declared.men.Side.{Side}
use Rattle.study_board.specs.declared.men.Side.TheVariants.{White, Black}
use Rattle.study_board.specs.Position.{Position}
use Rattle.study_board.specs.Equal.{same_position}
use Rattle.study_tree.specs.Forest.{none, more}
use Rattle.study_marks.specs.Edits.{PlainStudy}
use Rattle.study_wide.specs.Wide.{Wide}
use Rattle.study_wide.specs.Rules.{wide_after, narrow}
use Rattle.study_wide_text.specs.declared.start.WideStart.{WideStart}
use Rattle.study_wide_text.specs.StartAfter.{wide_start_after, widen_start}
use Rattle.study_wide_text.specs.SanSpelling.{wide_move_text}
use Rattle.study_tails.specs.declared.tails.LeftOut.{LeftOut}
use Rattle.study_tails.specs.declared.tails.LeftOut.TheVariants.{NoTail, MateIsDue, NumbersAbove9999}
use Rattle.study_tails.specs.declared.blocks.LastMove.{LastMove}
use Rattle.study_tails.specs.declared.blocks.Heading.{Heading}
use Rattle.study_tails.specs.declared.blocks.GameLeftOut.{GameLeftOut}
use Rattle.study_tails.specs.declared.blocks.GameLeftOut.TheVariants.{NeverFourMen, RightsToTheEnd, TooManyTails}
use Rattle.study_tails.specs.Study.{Moves, WideStudy, Node, node_at}
use Rattle.study_tails.specs.Tails.{is_beside, tails, tail}
use Rattle.study_tails.specs.Lines.{study_lines}

-- ---- after which move

-- the last move of a path, and the start before it
abbrev pub last_from : WideStart → Moves → List ℕ → Option LastMove
last_from s f [] = None
last_from s none (k ∷ ks) = None
last_from s (more m l b r) (zero ∷ []) = Some (record { start = s; played = m })
last_from s (more m l b r) (zero ∷ j ∷ js) = last_from (wide_start_after s m) b (j ∷ js)
last_from s (more m l b r) (suc k ∷ ks) = last_from s r (k ∷ ks)

-- `3. ` or `3... `
abbrev pub dots : Side → List ℕ
dots White = codes ". "
dots Black = codes "... "

abbrev pub last_words : Option LastMove → List ℕ
last_words None = codes "no move"
last_words (Some m) = decimal m.start.number ++ (dots m.start.position.board.to_move ++ wide_move_text m.start.position m.played)

-- ---- the position of an earlier tail

unfoldable pub small_of : Option Node → Option Position
small_of None = None
small_of (Some n) = narrow n.start.position

unfoldable pub is_same : Option Position → Option Position → Bool
is_same (Some p) (Some q) = same_position p q
is_same p q = false

-- the number of the first of these tails with this position; they are numbered from k
abbrev pub twin_among : WideStudy → Option Position → ℕ → List (List ℕ) → Option ℕ
twin_among s p k [] = None
twin_among s p k (t ∷ ts) = if is_same (small_of (node_at s t)) p then Some k else twin_among s p (suc k) ts

-- ---- a block

abbrev pub beside_words : Bool → List ℕ
beside_words beside = if beside then codes ", beside the solution" else []

abbrev pub twin_words : Option ℕ → List ℕ
twin_words None = []
twin_words (Some number) = codes ", the position of tail " ++ decimal number

abbrev pub reason_words : LeftOut → List ℕ
reason_words NoTail = codes "more than four men"
reason_words MateIsDue = codes "the mate is due"
reason_words NumbersAbove9999 = codes "numbers above 9999"

-- `#! tail 1 of 3 of game 3`
abbrev pub place_words : Heading → List ℕ
place_words h = codes "#! tail " ++ (decimal h.number ++ (codes " of " ++ (decimal h.count ++ (codes " of game " ++ decimal h.game))))

-- `, node 0.0, after 1... Kb8`
abbrev pub node_words : WideStudy → List ℕ → List ℕ
node_words s path = codes ", node " ++ (path_text path ++ (codes ", after " ++ last_words (last_from s.start s.tree.below path)))

-- a study of four men as one of any number
abbrev pub widen_study : PlainStudy → WideStudy
widen_study u = record { start = widen_start u.start; stipulation = u.stipulation; tags = u.tags; tree = u.tree }

-- the lines that make the study and write its PGN, or why there are none
abbrev pub body_text : Result PlainStudy LeftOut → List ℕ
body_text (Ok u) = codes "\n" ++ (study_lines [] (widen_study u) ++ codes "pgn\n\n")
body_text (Err why) = codes ": left out: " ++ (reason_words why ++ codes "\n\n")

-- the block of a tail, before which these tails are
unfoldable pub block_text : WideStudy → Heading → List (List ℕ) → List ℕ → List ℕ
block_text s h earlier path =
    place_words h
    ++ (node_words s path
    ++ (beside_words (is_beside s path) ++ (twin_words (twin_among s (small_of (node_at s path)) 1 earlier) ++ body_text (tail s path))))

-- the blocks of the later tails, before which the earlier ones are; the game and the number of its tails are given
abbrev pub blocks_text : WideStudy → ℕ → ℕ → List (List ℕ) → List (List ℕ) → List ℕ
blocks_text s game count earlier [] = []
blocks_text s game count earlier (t ∷ ts) =
    block_text s (record { number = length earlier + 1; count = count; game = game }) earlier t ++ blocks_text s game count (earlier ++ t ∷ []) ts

-- the study in remarks, an empty line, and the blocks of its tails
unfoldable pub wide_text : WideStudy → ℕ → List ℕ
wide_text s game = study_lines (codes "#> ") s ++ (codes "\n" ++ blocks_text s game (length (tails s)) [] (tails s))

-- ---- a game without tails

abbrev pub has_four : Wide → Bool
has_four g = nat_le (length g.board.men) 4

-- at some node below siblings, whose moves are made in g, at most four men are left
abbrev pub gets_to_four : Wide → Moves → Bool
gets_to_four g none = false
gets_to_four g (more m l b r) = (has_four (wide_after g m) || gets_to_four (wide_after g m) b) || gets_to_four g r

-- why the game has no text: no tail, or too many
unfoldable pub game_reason : WideStudy → Option GameLeftOut
game_reason s =
    if length (tails s) == 0
    then Some (if has_four s.start.position || gets_to_four s.start.position s.tree.below then RightsToTheEnd else NeverFourMen)
    else (if nat_lt 255 (length (tails s)) then Some TooManyTails else None)

-- Not part of any public contract: the reason, behind the number of men if that is said
abbrev pub reason_of_game : GameLeftOut → List ℕ
reason_of_game NeverFourMen = codes " men, never four or fewer"
reason_of_game RightsToTheEnd = codes " men, castling rights to the end"
reason_of_game TooManyTails = codes "more than 255 endings"

-- `8 men, never four or fewer`
abbrev pub game_words : ℕ → GameLeftOut → List ℕ
game_words men NeverFourMen = decimal men ++ codes " men, never four or fewer"
game_words men RightsToTheEnd = decimal men ++ codes " men, castling rights to the end"
game_words men TooManyTails = codes "more than 255 endings"

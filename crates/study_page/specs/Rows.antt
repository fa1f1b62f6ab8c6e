-- What the parts of a page have of one node.
use Rattle.std.specs.Prelude.{◌≡◌, ◌==◌, nat_lt, ℕ, ◌+◌, ◌-◌, ◌/◌, Bool, true, false, ◌||◌, List, [], ◌∷◌, ◌++◌, length, take, drop}
use Rattle.std.specs.Prelude.{Option, Some, None, MatchOption, if◌then◌else◌, codes, decimal}
use Rattle.std.specs.List.{flat_map, filter}
use Rattle.std.specs.Str.{bytes_eq}
use Rattle.study_board.specs.declared.men.Side.{Side}
use Rattle.study_board.specs.declared.men.Side.TheVariants.{White, Black}
use Rattle.study_board.specs.Men.{other_side}
use Rattle.study_board.specs.Position.{Position, in_check}
use Rattle.study_moves.specs.declared.moves.Move.{Move}
use Rattle.study_moves.specs.Rules.{after}
use Rattle.study_moves.specs.LegalList.{legal_list}
use Rattle.study_notation.specs.declared.start.Start.{Start}
use Rattle.study_notation.specs.SanSpelling.{move_text}
use Rattle.study_values.specs.declared.value.Value.{Value}
use Rattle.study_values.specs.declared.value.Value.TheVariants.{Win, Loss, Draw}
use Rattle.study_tree.specs.Tree.{spot_at}
use Rattle.study_marks.specs.declared.mark.Mark.{Mark}
use Rattle.study_marks.specs.declared.mark.MoveMark.{MoveMark}
use Rattle.study_marks.specs.declared.mark.MoveMark.TheVariants.{Only, Dual, Mistake, Idle, Reply}
use Rattle.study_marks.specs.declared.mark_rules.Aim.{Aim}
use Rattle.study_marks.specs.declared.stipulation.Goal.{Goal}
use Rattle.study_marks.specs.declared.stipulation.Goal.TheVariants as goal
use Rattle.study_marks.specs.Bench.{played_by}
use Rattle.study_marks.specs.FaultSums.{below_at}
use Rattle.study_marks.specs.Study.{Study, position_at}
use Rattle.study_marks.specs.Goals.{aim_of, hero_moves, hero_mates, plies_of}
use Rattle.study_pgn.specs.Values.{value_text}
use Rattle.study_facts.specs.declared.continuation.EvaluatedMove.{EvaluatedMove}
use Rattle.study_facts.specs.declared.time_loss.Alternative.{Alternative}
use Rattle.study_facts.specs.declared.missing_defences.Defence.{Defence}
use Rattle.study_facts.specs.Continuations.{AreRefutations, AreDrawingMoves}
use Rattle.study_facts.specs.Time.{AreTimedAlternatives}
use Rattle.study_facts.specs.Defences.{AreDefences}
use Rattle.study_facts.specs.Best.{IsBestPlay}
use Rattle.study_facts.specs.Line.{line_to, moves_of}
use Rattle.study_facts.specs.Words.{move_words}
use Rattle.study_facts.specs.declared.zugzwang.Zugzwang.{Zugzwang}
use Rattle.study_facts.specs.declared.zugzwang.Zugzwang.TheVariants.{Full, Half}
use Rattle.study_facts.specs.Zugzwang.{IsZugzwangOf}
use Rattle.study_facts.specs.Nodes.{parent_path, EmptyUnless, mark_at, value_at, is_try, is_defended, is_open_end, is_solution_move}
use Rattle.study_html.specs.declared.element.Element.TheVariants.{Strong, Small, Below, Item, Card, Beside, CardTitle, Label, Also}
use Rattle.study_html.specs.declared.element.Element.TheVariants.{Paragraph, Row, Cell, Whole, Group, Answer}
use Rattle.study_html.specs.declared.drawing.Drawing.TheVariants.{Break}
use Rattle.study_html.specs.Escape.{escaped_text}
use Rattle.study_html.specs.Elements.{element_text}
use Rattle.study_html.specs.Drawings.{drawing_text}
use Rattle.study_head.specs.Diagram.{mini}
use Rattle.study_head.specs.Words.{front_words, short_words, label}
use Rattle.study_head.specs.declared.mistake.NamedMove.{NamedMove}
use Rattle.study_head.specs.declared.reached.Reached.{Reached}
use Rattle.study_head.specs.Reached.{first_to, all_reached}
use Rattle.study_head.specs.Solution.{is_main_defence}
use Rattle.study_head.specs.Verdict.{legal_name}
use Rattle.study_page.specs.Words.{where_words}

-- ---- late mates

-- by how many of the hero's moves a mate in so many plies from depth d comes behind the last that he has
abbrev pub moves_late : ℕ → ℕ → Option ℕ → ℕ
moves_late limit d None = 0
moves_late limit d (Some n) = (d + n - limit) / 2

abbrev pub late_for : Goal → Bool → ℕ → Bool → Value → ℕ
late_for goal.Win first d hero v = 0
late_for goal.Draw first d hero v = 0
late_for (goal.MateIn k) first d hero v = moves_late (plies_of first k) d (hero_mates hero v)

-- by how many moves the hero mates too late for `mate in k`, in a position at depth d with this value; 0 where he does not
abbrev pub late_by : Aim → ℕ → Value → ℕ
late_by a d v = late_for a.goal a.hero_first d (hero_moves a d) v

unfoldable pub one_late : List ℕ
one_late = codes ", one move too late"

-- `, one move too late`, `, 2 moves too late`
abbrev pub late_words : ℕ → List ℕ
late_words k = if k == 0 then [] else (if k == 1 then one_late else (codes ", " ++ (decimal k ++ codes " moves too late")))

-- ---- other moves

-- `, 1 move longer`, `, 2 moves quicker`
abbrev pub move_word : ℕ → List ℕ
move_word k = if k == 1 then codes " move " else codes " moves "

abbrev pub by_words : ℕ → List ℕ → List ℕ
by_words k way = codes ", " ++ (decimal k ++ (move_word k ++ way))

-- how much later mate comes on move b than on move a
abbrev pub later_words : ℕ → ℕ → List ℕ
later_words a b =
    if a == b then codes ", as quick" else (if nat_lt a b then by_words (b - a) (codes "longer") else by_words (a - b) (codes "quicker"))

-- how much later the hero mates by the value after another move of his than by the value after the one that he played
abbrev pub difference : Value → Value → List ℕ
difference (Loss n) (Loss k) = later_words (n / 2) (k / 2)
difference (Loss n) (Win k) = []
difference (Loss n) Draw = []
difference (Win n) w = []
difference Draw w = []

abbrev pub is_quicker : Value → Value → Bool
is_quicker (Loss n) (Loss k) = nat_lt (k / 2) (n / 2)
is_quicker _ _ = false

-- the time that another move wastes, beside a move with this value after it: none if mate comes sooner by it
abbrev pub wasted : Value → Alternative → Option ℕ
wasted v x = if is_quicker v x.value then None else x.time

unfoldable pub loses_time : List ℕ
loses_time = codes ", wastes time"

-- ---- faults

abbrev pub lost_words : Option ℕ → List ℕ
lost_words None = []
lost_words (Some m) = loses_time

-- ` (2 moves longer, wastes time)`, of words that begin with a comma
abbrev pub bracket_words : List ℕ → List ℕ
bracket_words words = if length words == 0 then [] else (codes " (" ++ (drop 2 words ++ codes ")"))

-- `Kb6 (2 moves longer, wastes time)`, beside a move with this value after it
unfoldable pub named_words : Position → Value → Alternative → List ℕ
named_words p v x = move_text p x.played ++ bracket_words (difference v x.value ++ lost_words (wasted v x))

unfoldable pub next_words : Position → Value → Alternative → List ℕ
next_words p v x = codes ", " ++ named_words p v x

abbrev pub list_words : Position → Value → List Alternative → List ℕ
list_words p v [] = []
list_words p v (x ∷ xs) = named_words p v x ++ flat_map (next_words p v) xs

abbrev pub more_words : ℕ → List ℕ
more_words n = if n == 0 then [] else (codes " and " ++ (decimal n ++ codes " more"))

-- `: also Kb6 (2 moves longer, wastes time), Kc3 (as quick)`: up to six moves, and how many more there are
unfoldable pub others_words : Position → Value → List Alternative → List ℕ
others_words p v list = codes ": also " ++ (list_words p v (take 6 list) ++ more_words (length list - 6))

-- `3. Kb4: also Kb6 (2 moves longer, wastes time)`
unfoldable pub dual_item : Start → ℕ → Position → Move → Value → List Alternative → List ℕ
dual_item start d p m v list = element_text Item (escaped_text (label start d p m ++ others_words p v list))

unfoldable pub gives_up_goal : List ℕ
gives_up_goal = codes " throws it away: "

-- `3. Kb4 throws it away: draw`, `1. Qg1 throws it away: White mates in 1, one move too late`
unfoldable pub mistake_item : Start → Aim → ℕ → Position → Move → Value → List ℕ
mistake_item start a d p m v =
    element_text Item (escaped_text (label start d p m
    ++ (gives_up_goal ++ (value_text (other_side p.to_move) v ++ late_words (late_by a (d + 1) v)))))

-- of a move from p, the last of a line
abbrev pub IsFaultOf : Start → Aim → ℕ → List Position → Position → Move → Value → Option MoveMark → List ℕ → Type 0
IsFaultOf start a d line p m v None text = text ≡ []
IsFaultOf start a d line p m v (Some (Dual k)) text =
    (list : List Alternative) × AreTimedAlternatives a d line p m list × (text ≡ dual_item start d p m v list)
IsFaultOf start a d line p m v (Some Mistake) text = text ≡ mistake_item start a d p m v
IsFaultOf start a d line p m v (Some Only) text = text ≡ []
IsFaultOf start a d line p m v (Some Idle) text = text ≡ []
IsFaultOf start a d line p m v (Some Reply) text = text ≡ []

-- a fault of the solution
abbrev pub FaultItems : Study Mark → List ℕ → List ℕ → Type 0
FaultItems s path text =
    EmptyUnless (is_solution_move s path)
    (λ t. MatchOption (played_by (spot_at s.tree path)) (t ≡ []) (λ m. IsFaultOf s.start (aim_of s) (length (parent_path path))
    (line_to s (parent_path path)) (position_at s (parent_path path)) m (value_at s path) (mark_at s path) t)) text

-- ---- duals

-- ` (2 moves)`, where it takes the opponent more than one
abbrev pub forced_words : ℕ → List ℕ
forced_words m = if m == 0 then [] else (codes " (" ++ (decimal (m + 1) ++ codes " moves)"))

-- the time that is lost, where some is
abbrev pub time_words : Option ℕ → List ℕ
time_words None = []
time_words (Some m) = loses_time ++ forced_words m

unfoldable pub also_words : Side → Value → Alternative → List ℕ
also_words side v x = codes ": " ++ (value_text side x.value ++ (difference v x.value ++ time_words (wasted v x)))

-- `Kb6: White mates in 25, 2 moves longer, wastes time`, beside a move with this value after it
unfoldable pub also_item : Position → Value → Alternative → List ℕ
also_item p v x = element_text Item (element_text Strong (escaped_text (move_text p x.played)) ++ escaped_text (also_words (other_side p.to_move) v x))

unfoldable pub card_title : Start → ℕ → Position → Move → ℕ → List ℕ
card_title start d p m k = element_text CardTitle (escaped_text (label start d p m ++ codes " ")
    ++ element_text Label (escaped_text (codes "dual " ++ decimal k)))

-- the move with the value after it, and the others that hold
unfoldable pub card_words : Start → ℕ → Position → Move → ℕ → Value → List Alternative → List ℕ
card_words start d p m k v list =
    card_title start d p m k ++ (element_text Paragraph (escaped_text (value_text (other_side p.to_move) v ++ codes ". Also:"))
    ++ element_text Also (flat_map (also_item p v) list))

-- these beside the position before the move
unfoldable pub card : Start → ℕ → Position → Move → ℕ → Value → List Alternative → List ℕ
card start d p m k v list = element_text Card (mini p ++ element_text Beside (card_words start d p m k v list))

abbrev pub IsCardOf : Start → Aim → ℕ → List Position → Position → Move → Value → Option MoveMark → List ℕ → Type 0
IsCardOf start a d line p m v None text = text ≡ []
IsCardOf start a d line p m v (Some (Dual k)) text =
    (list : List Alternative) × AreTimedAlternatives a d line p m list × (text ≡ card start d p m k v list)
IsCardOf start a d line p m v (Some Mistake) text = text ≡ []
IsCardOf start a d line p m v (Some Only) text = text ≡ []
IsCardOf start a d line p m v (Some Idle) text = text ≡ []
IsCardOf start a d line p m v (Some Reply) text = text ≡ []

-- a card for each dual
abbrev pub Cards : Study Mark → List ℕ → List ℕ → Type 0
Cards s path text =
    MatchOption (played_by (spot_at s.tree path)) (text ≡ []) (λ m. IsCardOf s.start (aim_of s) (length (parent_path path))
    (line_to s (parent_path path)) (position_at s (parent_path path)) m (value_at s path) (mark_at s path) text)

-- ---- tries

-- the cells that a row begins with: the node, and the value of its position
unfoldable pub front_cells : List ℕ → Side → Value → List ℕ
front_cells node side v = element_text Cell (escaped_text node) ++ element_text Cell (escaped_text (value_text side v))

-- a move of the opponent, and small the value after it
unfoldable pub move_and_value : Position → Move → Value → List ℕ
move_and_value p m v = element_text Strong (escaped_text (move_text p m)) ++ element_text Below (escaped_text (short_words true v))

unfoldable pub refuted_item : Position → EvaluatedMove → List ℕ
refuted_item p x = element_text Whole (move_and_value p x.played x.value) ++ escaped_text (codes " ")

-- the game has ended
unfoldable pub is_over : Position → Bool
is_over p = length (legal_list p) == 0

-- a mate refutes a try, since it comes so many moves too late
abbrev pub over_words : Position → ℕ → List ℕ
over_words p late = if in_check p.men p.to_move then codes "mate" ++ late_words late else codes "stalemate"

abbrev pub refuted_items : Position → ℕ → List EvaluatedMove → List ℕ
refuted_items p late list = if is_over p then escaped_text (over_words p late) else flat_map (refuted_item p) list

-- `(3 of 17)`
unfoldable pub of_all : ℕ → ℕ → List ℕ
of_all n all = codes "(" ++ (decimal n ++ (codes " of " ++ (decimal all ++ codes ")")))

-- that it is the only refutation, or of how many legal moves so many refute
abbrev pub refuted_count : Position → ℕ → List ℕ
refuted_count p n =
    if is_over p then [] else (if n == 1 then element_text Strong (escaped_text (codes "only")) else element_text Small
    (escaped_text (of_all n (length (legal_list p)))))

unfoldable pub try_row : List ℕ → Aim → ℕ → Position → Value → List EvaluatedMove → List ℕ
try_row node a d p v list =
    element_text Row (front_cells node p.to_move v
    ++ element_text Cell (refuted_items p (late_by a d v) list ++ refuted_count p (length list)))

-- a row for each try
abbrev pub TryRows : Study Mark → List ℕ → List ℕ → Type 0
TryRows s path text =
    EmptyUnless (is_try s path) (λ t. (list : List EvaluatedMove)
    × AreRefutations (aim_of s) (length path) (position_at s path) list
    × (t ≡ try_row (where_words s path) (aim_of s) (length path) (position_at s path) (value_at s path) list)) text

-- ---- mutual zugzwangs

abbrev pub points_words : Zugzwang → List ℕ
points_words Full = codes "full point"
points_words (Half side) = codes "half a point"

-- what comes of it with this side to move
abbrev pub to_move_words : Zugzwang → Side → List ℕ
to_move_words Full White = codes "Black wins"
to_move_words Full Black = codes "White wins"
to_move_words (Half White) White = codes "draw"
to_move_words (Half White) Black = codes "White wins"
to_move_words (Half Black) White = codes "Black wins"
to_move_words (Half Black) Black = codes "draw"

unfoldable pub zugzwang_row : List ℕ → Zugzwang → List ℕ
zugzwang_row node z =
    element_text Row (element_text Cell (escaped_text node ++ (escaped_text (codes " ") ++ element_text Label (escaped_text (points_words z))))
    ++ (element_text Cell (escaped_text (to_move_words z White)) ++ element_text Cell (escaped_text (to_move_words z Black))))

abbrev pub zugzwang_rows : List ℕ → Option Zugzwang → List ℕ
zugzwang_rows node None = []
zugzwang_rows node (Some z) = zugzwang_row node z

-- a row where the position of the node is a mutual zugzwang
abbrev pub ZugzwangRows : Study Mark → List ℕ → List ℕ → Type 0
ZugzwangRows s path text = (z : Option Zugzwang) × IsZugzwangOf (position_at s path) z × (text ≡ zugzwang_rows (where_words s path) z)

-- ---- defences

-- whether the one answer in a position is written so
abbrev pub is_answer : Position → Option Move → List ℕ → Bool
is_answer q None text = false
is_answer q (Some m) text = bytes_eq (move_text q m) text

abbrev pub has_answer : Position → List ℕ → Defence → Bool
has_answer p text y = is_answer (after p y.played) y.only text

-- a defence
unfoldable pub defence_item : Position → Defence → List ℕ
defence_item p y = element_text Whole (move_and_value p y.played y.value) ++ escaped_text (codes " ")

abbrev pub with_answer : Position → List ℕ → Defence → List ℕ
with_answer p text y = if has_answer p text y then defence_item p y else []

-- `c8=Q after Kb1 Ka2`: an answer, and all defences whose one answer it is
unfoldable pub group : Position → List ℕ → List Defence → List ℕ
group p text list = element_text Group (element_text Answer (escaped_text text) ++ (escaped_text (codes " after ") ++ flat_map (with_answer p text) list))

abbrev pub any_has : Position → List ℕ → List Defence → Bool
any_has p text [] = false
any_has p text (y ∷ ys) = has_answer p text y || any_has p text ys

-- the group of a defence's one answer in a position, where no defence before has the same answer
abbrev pub group_of : Position → List Defence → List Defence → Position → Option Move → List ℕ
group_of p list before q None = []
group_of p list before q (Some m) = if any_has p (move_text q m) before then [] else group p (move_text q m) list

abbrev pub group_at : Position → List Defence → List Defence → Defence → List ℕ
group_at p list before y = group_of p list before (after p y.played) y.only

-- the groups of all defences, each where its answer comes first
abbrev pub groups_from : Position → List Defence → List Defence → List Defence → List ℕ
groups_from p list before [] = []
groups_from p list before (y ∷ ys) = group_at p list before y ++ groups_from p list (before ++ y ∷ []) ys

-- `answers 1 of 17`: how many of the legal moves the tree has, where these are missing
unfoldable pub answered_words : Position → List Defence → List ℕ
answered_words p list =
    codes "answers " ++ (decimal (length (legal_list p) - length list) ++ (codes " of " ++ decimal (length (legal_list p))))

-- `, Ke7 (as after 3... Kd6)`: the move m from p leads to where this move of the study leads
abbrev pub as_after : Position → Move → Option NamedMove → List ℕ
as_after p m None = []
as_after p m (Some by) = codes ", " ++ (move_text p m ++ (codes " (as after " ++ (legal_name by ++ codes ")")))

-- the defences that lead to where a move of the study leads, each with the first such move
abbrev pub elsewhere_words : List Reached → Position → List Defence → List ℕ
elsewhere_words known p [] = []
elsewhere_words known p (y ∷ ys) = as_after p y.played (first_to known (after p y.played)) ++ elsewhere_words known p ys

unfoldable pub answered_cell : List ℕ → Position → List ℕ → List Defence → List ℕ
answered_cell node p elsewhere list =
    element_text Cell (escaped_text node ++ (drawing_text Break ++ element_text Small (escaped_text (answered_words p list ++ elsewhere))))

-- the main defences of a list, beside the one that is given, after which this is the value, if one is
abbrev pub main_among : List Reached → Position → Option Value → List Defence → List Defence
main_among known p None list = []
main_among known p (Some given) list = filter (is_main_defence known p given) list

-- the value after the first of these moves
abbrev pub first_value : List Move → Value → Option Value
first_value [] v = None
first_value (m ∷ ms) v = Some v

-- the value after the first move that the study gives at a node
abbrev pub given_value : Study Mark → List ℕ → Option Value
given_value s path = first_value (moves_of (below_at s.tree.below path)) (value_at s (path ++ 0 ∷ []))

-- `17 others`
unfoldable pub remaining_words : ℕ → List ℕ
remaining_words n = if n == 0 then [] else (if n == 1 then codes "1 other" else (decimal n ++ codes " others"))

-- the main defences by their answers, and how many others there are
abbrev pub main_cells : Position → List Defence → ℕ → List ℕ
main_cells p main others = element_text Cell (groups_from p main [] main) ++ element_text Cell (escaped_text (remaining_words others))

-- the node, and the defences that it lacks, some of which are main ones; `elsewhere` says which of them the tree has elsewhere
abbrev pub defence_row : List ℕ → Position → List ℕ → List Defence → List Defence → List ℕ
defence_row node p elsewhere main [] = []
defence_row node p elsewhere main (y ∷ ys) =
    element_text Row (answered_cell node p elsewhere (y ∷ ys) ++ main_cells p main (length (y ∷ ys) - length main))

-- the row of the defences that are missing at a node, in a study whose moves lead to these positions
abbrev pub missing_row : List Reached → Study Mark → List ℕ → Position → List Defence → List ℕ
missing_row known s path p list =
    defence_row (where_words s path) p (elsewhere_words known p list) (main_among known p (given_value s path) list) list

-- a row for each position of the solution in which a defence is missing, in a study whose moves lead to these positions
abbrev pub DefenceRowsAmong : List Reached → Study Mark → List ℕ → List ℕ → Type 0
DefenceRowsAmong known s path text =
    EmptyUnless (is_defended s path) (λ t. (list : List Defence)
    × AreDefences (aim_of s) (length path) (position_at s path) (moves_of (below_at s.tree.below path)) list
    × (t ≡ missing_row known s path (position_at s path) list)) text

abbrev pub DefenceRows : Study Mark → List ℕ → List ℕ → Type 0
DefenceRows s = DefenceRowsAmong (all_reached s) s

-- ---- ends

abbrev pub is_white : Side → Bool
is_white White = true
is_white Black = false

-- the number comes before the first move and before each of White's
abbrev pub number_words : Bool → Start → ℕ → Side → List ℕ
number_words first start d side = if first || is_white side then front_words start d side else []

-- moves that are played one after the other, from depth d on, with their numbers
abbrev pub play_words : Bool → Start → ℕ → Position → List EvaluatedMove → List ℕ
play_words first start d p [] = []
play_words first start d p (x ∷ xs) =
    number_words first start d p.to_move ++ (move_text p x.played ++ (codes " " ++ play_words false start (d + 1) (after p x.played) xs))

unfoldable pub keeps_draw_words : List ℕ
keeps_draw_words = codes " moves keep the draw:"

-- `3 of 9 moves keep the draw: Kb5 Kb6 Kc6`
unfoldable pub keep_words : Position → List EvaluatedMove → List ℕ
keep_words p list =
    decimal (length list) ++ (codes " of " ++ (decimal (length (legal_list p)) ++ (keeps_draw_words ++ flat_map (move_words p) list)))

unfoldable pub end_row : List ℕ → Side → Value → List ℕ → List ℕ
end_row node side v goes_on = element_text Row (front_cells node side v ++ element_text Cell (escaped_text goes_on))

abbrev pub IsPlay : Start → ℕ → List ℕ → Position → Value → List ℕ → Type 0
IsPlay start d node p v text = (list : List EvaluatedMove) × IsBestPlay 20 p list × (text ≡ end_row node p.to_move v (play_words true start d p list))

-- best play where a side wins, and the moves that keep a draw
abbrev pub IsEnd : Start → ℕ → List ℕ → Position → Value → List ℕ → Type 0
IsEnd start d node p (Win n) text = IsPlay start d node p (Win n) text
IsEnd start d node p (Loss n) text = IsPlay start d node p (Loss n) text
IsEnd start d node p Draw text = (list : List EvaluatedMove) × AreDrawingMoves p list × (text ≡ end_row node p.to_move Draw (keep_words p list))

-- a row for each open end
abbrev pub EndRows : Study Mark → List ℕ → List ℕ → Type 0
EndRows s path text =
    EmptyUnless (is_open_end s path) (IsEnd s.start (length path) (where_words s path) (position_at s path) (value_at s path)) text

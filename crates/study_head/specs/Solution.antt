-- What a judge asks of a solution beside the marks of its moves: the kinds of its duals, how its first mistake is refuted, and the first main defence
-- that is not given.
use Rattle.std.specs.Prelude.{◌≡◌, ℕ, ◌+◌, ◌-◌, ◌==◌, nat_lt, Bool, true, false, not, ◌&&◌, List, [], ◌∷◌, length, take}
use Rattle.std.specs.Prelude.{Option, Some, None, is_some, MatchOption, slice_get, if◌then◌else◌}
use Rattle.study_board.specs.Position.{Position}
use Rattle.study_moves.specs.declared.moves.Move.{Move}
use Rattle.study_moves.specs.Rules.{after}
use Rattle.study_values.specs.declared.value.Value.{Value}
use Rattle.study_values.specs.declared.value.Value.TheVariants.{Win, Draw}
use Rattle.study_tree.specs.Tree.{spot_at}
use Rattle.study_marks.specs.declared.mark.Mark.{Mark}
use Rattle.study_marks.specs.declared.mark.MoveMark.{MoveMark}
use Rattle.study_marks.specs.declared.mark.MoveMark.TheVariants.{Only, Dual, Mistake, Idle, Reply}
use Rattle.study_marks.specs.Bench.{played_by}
use Rattle.study_marks.specs.FaultSums.{below_at}
use Rattle.study_marks.specs.Study.{Study, position_at}
use Rattle.study_marks.specs.Goals.{aim_of, hero_moves}
use Rattle.study_facts.specs.declared.continuation.EvaluatedMove.{EvaluatedMove}
use Rattle.study_facts.specs.declared.time_loss.Alternative.{Alternative}
use Rattle.study_facts.specs.declared.missing_defences.Defence.{Defence}
use Rattle.study_facts.specs.Continuations.{AreRefutations}
use Rattle.study_facts.specs.Time.{AreTimedAlternatives}
use Rattle.study_facts.specs.TimeFaults.{all_lose_time}
use Rattle.study_facts.specs.Defences.{AreDefences}
use Rattle.study_facts.specs.Line.{line_to, moves_of}
use Rattle.study_facts.specs.Nodes.{parent_path, mark_at, value_at, is_solution_move}
use Rattle.study_facts.specs.Order.{has_no_grandchild, written_order}
use Rattle.study_facts.specs.Walk.{AddsEach}
use Rattle.study_head.specs.declared.mistake.NamedMove.{NamedMove}
use Rattle.study_head.specs.declared.solution.DualKind.{DualKind}
use Rattle.study_head.specs.declared.solution.DualKind.TheVariants.{Cook, MainLine, Variation, LastMove, WastesTime}
use Rattle.study_head.specs.declared.solution.DualCounts.{DualCounts}
use Rattle.study_head.specs.declared.solution.NamedDual.{NamedDual}
use Rattle.study_head.specs.declared.solution.SolutionFacts.{SolutionFacts}
use Rattle.study_head.specs.MainLine.{is_main}
use Rattle.study_head.specs.declared.reached.Reached.{Reached}
use Rattle.study_head.specs.Reached.{named_at, first_to, all_reached}
use Rattle.study_head.specs.Words.{number_at}

-- ---- duals

-- Another first move is a cook, though not one that only wastes time. Then come the last moves, after which the hero makes no more, and the other moves
-- of the main line and of variations.
abbrev pub kind_at : Bool → Bool → Bool → DualKind
kind_at first last main = if first then Cook else (if last then LastMove else (if main then MainLine else Variation))

-- the hero has not moved before the last move of the path, which is his
abbrev pub is_first_move : List ℕ → Bool
is_first_move path = nat_lt (length path) 3

-- the kind of a dual, the last move of the path; `wastes`: the other moves only waste time
abbrev pub dual_kind : Study Mark → List ℕ → Bool → DualKind
dual_kind s path wastes =
    if wastes then WastesTime else kind_at (is_first_move path) (has_no_grandchild (below_at s.tree.below path)) (is_main path)

-- counts stop at the largest number of 32 bits
abbrev pub one_more : ℕ → ℕ
one_more n = if nat_lt n 4294967295 then n + 1 else n

abbrev pub counted : DualCounts → DualKind → DualCounts
counted c Cook = record { cooks = one_more c.cooks; main = c.main; variations = c.variations; last = c.last; time = c.time }
counted c MainLine = record { cooks = c.cooks; main = one_more c.main; variations = c.variations; last = c.last; time = c.time }
counted c Variation = record { cooks = c.cooks; main = c.main; variations = one_more c.variations; last = c.last; time = c.time }
counted c LastMove = record { cooks = c.cooks; main = c.main; variations = c.variations; last = one_more c.last; time = c.time }
counted c WastesTime = record { cooks = c.cooks; main = c.main; variations = c.variations; last = c.last; time = one_more c.time }

-- how bad a dual is: the least number is the worst
abbrev pub rank : DualKind → ℕ
rank Cook = 0
rank MainLine = 1
rank Variation = 2
rank LastMove = 3
rank WastesTime = 4

-- how many moves of the path lead to its last move that is not a first child: there the last variation begins; 0 in the main line
abbrev pub after_turn : ℕ → ℕ → ℕ
after_turn k n = if n == 0 then (if k == 0 then 0 else 1) else n + 1

abbrev pub turn_depth : List ℕ → ℕ
turn_depth [] = 0
turn_depth (k ∷ ks) = after_turn k (turn_depth ks)

abbrev pub named_turn : Study Mark → ℕ → Option Position → Option Move → Option NamedMove
named_turn s n (Some p) (Some m) = Some (record { number = number_at s.start (n - 1); position = p; played = m })
named_turn s n _ _ = None

-- the move with which the last variation on the path begins, if there is one before the last move
abbrev pub turn_at : Study Mark → List ℕ → ℕ → Option NamedMove
turn_at s path n =
    if n == 0 then None else named_turn s n (slice_get (line_to s (parent_path path)) (n - 1)) (played_by (spot_at s.tree (take n path)))

abbrev pub first_move : List Alternative → Option Move
first_move [] = None
first_move (x ∷ xs) = Some x.played

-- the first of these moves that does more than waste time
abbrev pub first_lasting : List Alternative → Option Move
first_lasting [] = None
first_lasting (x ∷ xs) = if is_some x.time then first_lasting xs else Some x.played

-- the move that is named beside a dual: none that only wastes time, if another does more
abbrev pub first_other : List Alternative → Option Move
first_other list = if is_some (first_lasting list) then first_lasting list else first_move list

-- the dual m, the last move of the path, beside which these moves hold
abbrev pub dual_at : Study Mark → List ℕ → Move → List Alternative → NamedDual
dual_at s path m list = record {
  kind = dual_kind s path (all_lose_time list);
  author = named_at s path m;
  other = first_other list;
  others = length list;
  turn = turn_at s path (turn_depth path);
}

abbrev pub is_worse : Option NamedDual → DualKind → Bool
is_worse None k = true
is_worse (Some x) k = nat_lt (rank k) (rank x.kind)

-- the worst dual: the earlier of two of one kind
abbrev pub worse_of : Option NamedDual → NamedDual → Option NamedDual
worse_of known x = if is_worse known x.kind then Some x else known

abbrev pub with_dual : SolutionFacts → NamedDual → SolutionFacts
with_dual f x = record {
  counts = counted f.counts x.kind;
  worst = worse_of f.worst x;
  fails = f.fails;
  refutation = f.refutation;
  missing = f.missing;
}

-- ---- mistakes

abbrev pub first_reply : Study Mark → List ℕ → List EvaluatedMove → Option NamedMove
first_reply s path [] = None
first_reply s path (x ∷ xs) = Some (record { number = number_at s.start (length path); position = position_at s path; played = x.played })

-- the first mistake keeps its first refutation, if it has one
abbrev pub with_mistake : SolutionFacts → Option NamedMove → SolutionFacts
with_mistake f reply = record {
  counts = f.counts;
  worst = f.worst;
  fails = true;
  refutation = if f.fails then f.refutation else reply;
  missing = f.missing;
}

-- ---- defences

-- By the values after two defences, the second keeps the hero at least as long from mate as the first. A draw lasts for ever.
abbrev pub lasts_as_long : Value → Value → Bool
lasts_as_long (Win k) (Win n) = not (nat_lt n k)
lasts_as_long (Win k) Draw = true
lasts_as_long Draw Draw = true
lasts_as_long _ _ = false

-- the moves of the study lead to these positions
module _ (known : List Reached) (p : Position) (given : Value) where
  -- a defence from p that lasts at least as long as the one that is given, has one answer, and leads to no position of the study
  abbrev pub is_main_defence : Defence → Bool
  is_main_defence y = is_some y.only && (lasts_as_long given y.value && not (is_some (first_to known (after p y.played))))

  -- the first of these
  abbrev pub main_defence : List Defence → Option Move
  main_defence [] = None
  main_defence (y ∷ ys) = if is_main_defence y then Some y.played else main_defence ys

abbrev pub named_defence : Study Mark → List ℕ → Option Move → Option NamedMove
named_defence s path None = None
named_defence s path (Some m) = Some (named_at s path m)

abbrev pub with_missing : SolutionFacts → Option NamedMove → SolutionFacts
with_missing f defence = record {
  counts = f.counts;
  worst = f.worst;
  fails = f.fails;
  refutation = f.refutation;
  missing = if is_some f.missing then f.missing else defence;
}

-- ---- together

abbrev pub Either : Bool → Type 0 → Type 0 → Type 0
Either true A B = A
Either false A B = B

-- what a dual adds, the move m, which is the last of the path
abbrev pub AddsDual : Study Mark → List ℕ → Move → SolutionFacts → SolutionFacts → Type 0
AddsDual s path m old new =
    (list : List Alternative)
    × AreTimedAlternatives (aim_of s) (length (parent_path path)) (line_to s (parent_path path)) (position_at s (parent_path path)) m list
    × (new ≡ with_dual old (dual_at s path m list))

-- what a mistake adds, the last move of the path
abbrev pub AddsMistake : Study Mark → List ℕ → SolutionFacts → SolutionFacts → Type 0
AddsMistake s path old new =
    (list : List EvaluatedMove) × AreRefutations (aim_of s) (length path) (position_at s path) list × (new ≡ with_mistake old (first_reply s path list))

-- what a move of the hero in the solution adds, the last of the path, with this mark
abbrev pub AddsHeroMove : Study Mark → List ℕ → Move → Option MoveMark → SolutionFacts → SolutionFacts → Type 0
AddsHeroMove s path m None old new = new ≡ old
AddsHeroMove s path m (Some (Dual k)) old new = AddsDual s path m old new
AddsHeroMove s path m (Some Mistake) old new = AddsMistake s path old new
AddsHeroMove s path m (Some Only) old new = new ≡ old
AddsHeroMove s path m (Some Idle) old new = new ≡ old
AddsHeroMove s path m (Some Reply) old new = new ≡ old

-- What a defence in the main line adds, the last move of the path: whether a main defence is not given beside it, in a study whose moves lead to these
-- positions.
abbrev pub AddsDefence : Study Mark → List Reached → List ℕ → SolutionFacts → SolutionFacts → Type 0
AddsDefence s known path old new =
    (list : List Defence)
    × AreDefences (aim_of s) (length (parent_path path)) (position_at s (parent_path path)) (moves_of (below_at s.tree.below (parent_path path))) list
    × (new ≡ with_missing old (named_defence s path (main_defence known (position_at s (parent_path path)) (value_at s path) list)))

-- the opponent made the last move of the path, and all its moves are of the main line
abbrev pub is_given_defence : Study Mark → List ℕ → Bool
is_given_defence s path = not (hero_moves (aim_of s) (length (parent_path path))) && is_main path

abbrev pub AddsMove : Study Mark → List Reached → List ℕ → Move → SolutionFacts → SolutionFacts → Type 0
AddsMove s known path m old new =
    Either (is_solution_move s path) (AddsHeroMove s path m (mark_at s path) old new)
    (Either (is_given_defence s path) (AddsDefence s known path old new) (new ≡ old))

-- what the node at the path adds
abbrev pub AddsNode : Study Mark → List Reached → List ℕ → SolutionFacts → SolutionFacts → Type 0
AddsNode s known path old new = MatchOption (played_by (spot_at s.tree path)) (new ≡ old) (λ m. AddsMove s known path m old new)

abbrev pub no_counts : DualCounts
no_counts = record { cooks = 0; main = 0; variations = 0; last = 0; time = 0 }

abbrev pub no_facts : SolutionFacts
no_facts = record { counts = no_counts; worst = None; fails = false; refutation = None; missing = None }

-- the facts of an annotated study
abbrev pub AreSolutionFacts : Study Mark → SolutionFacts → Type 0
AreSolutionFacts s facts = AddsEach (AddsNode s (all_reached s)) (written_order s) no_facts facts

-- an annotated study has one set of facts
abbrev pub SolutionFactsAreUnique : Type 0
SolutionFactsAreUnique = (s : Study Mark) (x y : SolutionFacts) → AreSolutionFacts s x → AreSolutionFacts s y → x ≡ y

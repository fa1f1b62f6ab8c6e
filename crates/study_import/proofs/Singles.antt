-- Between two words of movetext there is one space.
use Rattle.std.proofs.Common.{◌≡◌, ℕ, ◌+◌, ◌/◌, Bool, true, false, List, ◌++◌, Option, Some, None, refl}
use Rattle.std.specs.Prelude.{◌==◌, codes, decimal, if◌then◌else◌}
use Rattle.study_board.specs.declared.men.Side.{Side}
use Rattle.study_board.specs.declared.men.Side.TheVariants.{White, Black}
use Rattle.study_board.specs.Men.{other_side}
use Rattle.study_board.specs.Position.{IsValid}
use Rattle.study_moves.specs.declared.moves.Move.{Move}
use Rattle.study_moves.specs.Rules.{is_legal, after}
use Rattle.study_moves.proofs.AfterMove.{IsValid-after}
use Rattle.study_notation.specs.declared.start.Start.{Start}
use Rattle.study_notation.specs.StartAfter.{start_after}
use Rattle.study_notation.specs.SanSpelling.{move_text}
use Rattle.study_values.specs.declared.value.Value.{Value}
use Rattle.study_values.specs.declared.value.Value.TheVariants.{Win, Loss, Draw}
use Rattle.study_tree.specs.Forest.{Forest, none, more}
use Rattle.study_marks.specs.declared.mark.Mark.{Mark}
use Rattle.study_marks.specs.declared.mark.MoveMark.{MoveMark}
use Rattle.study_marks.specs.declared.mark.MoveMark.TheVariants.{Only, Dual, Idle, Mistake, Reply}
use Rattle.study_marks.specs.declared.stipulation.Goal.{Goal}
use Rattle.study_marks.specs.declared.stipulation.Goal.TheVariants as goal
use Rattle.study_marks.specs.Verdict.{Verdict, wrong, sound, unsound, verdict}
use Rattle.study_marks.specs.Study.{Study, IsPlayable}
use Rattle.study_pgn.specs.Values.{side_name, mates_text, value_text, win_of, result_text}
use Rattle.study_pgn.specs.Moves.{move_dots, number_text, glyph_text, dual_text, comment_text, words_of_move, continuation_text, variations}
use Rattle.study_pgn.specs.Pgn.{goal_text, stipulation_text, verdict_text, opening_words, opening_text, movetext}
use Rattle.study_import.proofs.Ink.{decimal_ink}
use Rattle.study_import.proofs.Spelling.{move_short, move_some}
use Rattle.study_import.proofs.Blanks.{Runs, runs_append, runs_ink}
use Rattle.study_import.proofs.ReadSteps.{decimal_some}
use Rattle.study_import.specs.Written.{without_marks}

both : (a b c : Bool) (xs ys : List ℕ) → Runs a xs b → Runs b ys c → Runs a (xs ++ ys) c
both a b c xs ys h k = runs_append a b c xs ys h k

number_runs : (a : Bool) (n : ℕ) → Runs a (decimal n) false
number_runs a n = runs_ink a (decimal n) (decimal_ink n) (decimal_some n)

side_runs : (a : Bool) (side : Side) → Runs a (side_name side) false
side_runs a White = refl
side_runs a Black = refl

mates_run : (a : Bool) (side : Side) (n : ℕ) → Runs a (mates_text side n) false
mates_run a side n = both a false false (side_name side) (codes " mates in " ++ decimal n) (side_runs a side)
    (both false true false (codes " mates in ") (decimal n) refl (number_runs true n))

loss_runs : (a : Bool) (side : Side) (n : ℕ) (b : Bool) → Runs a (if b then codes "mate" else mates_text (other_side side) n) false
loss_runs a side n true = refl
loss_runs a side n false = mates_run a (other_side side) n

value_runs : (a : Bool) (side : Side) (v : Value) → Runs a (value_text side v) false
value_runs a side Draw = refl
value_runs a side (Win n) = mates_run a side ((n + 1) / 2)
value_runs a side (Loss n) = loss_runs a side (n / 2) (n == 0)

dual_runs : (m : Option MoveMark) → Runs false (dual_text m) false
dual_runs None = refl
dual_runs (Some Only) = refl
dual_runs (Some Idle) = refl
dual_runs (Some Mistake) = refl
dual_runs (Some Reply) = refl
dual_runs (Some (Dual k)) = both false true false (codes "; dual ") (decimal k) refl (number_runs true k)

glyph_runs : (m : Option MoveMark) → Runs false (glyph_text m) false
glyph_runs None = refl
glyph_runs (Some Only) = refl
glyph_runs (Some Idle) = refl
glyph_runs (Some Mistake) = refl
glyph_runs (Some Reply) = refl
glyph_runs (Some (Dual k)) = refl

dots_run : (side : Side) → Runs false (move_dots side) false
dots_run White = refl
dots_run Black = refl

comment_runs : (side : Side) (mark : Mark) → Runs true (comment_text side mark) false
comment_runs side mark =
    both true false false (codes "{") (value_text side mark.value ++ (dual_text mark.on_move ++ codes "}")) refl
    (both false false false (value_text side mark.value) (dual_text mark.on_move ++ codes "}") (value_runs false side mark.value)
    (both false false false (dual_text mark.on_move) (codes "}") (dual_runs mark.on_move) refl))

move_runs : (a : Bool) (st : Start) (m : Move) (mark : Mark) → IsValid st.position → is_legal st.position m ≡ true → Runs a (words_of_move st m mark) false
unfolding words_of_move
move_runs a st m mark valid legal =
    let side = other_side st.position.to_move in
    both a false false (number_text st) (codes " " ++ (move_text st.position m ++ (glyph_text mark.on_move ++ (codes " " ++ comment_text side mark))))
    (both a false false (decimal st.number) (move_dots st.position.to_move) (number_runs a st.number) (dots_run st.position.to_move))
    (both false true false (codes " ") (move_text st.position m ++ (glyph_text mark.on_move ++ (codes " " ++ comment_text side mark))) refl
    (both true false false (move_text st.position m) (glyph_text mark.on_move ++ (codes " " ++ comment_text side mark))
    (runs_ink true (move_text st.position m) (move_short st.position m valid legal).ink (move_some st.position m legal))
    (both false false false (glyph_text mark.on_move) (codes " " ++ comment_text side mark) (glyph_runs mark.on_move)
    (both false true false (codes " ") (comment_text side mark) refl (comment_runs side mark)))))

pub after_valid : (st : Start) (m : Move) → IsValid st.position → is_legal st.position m ≡ true → IsValid (start_after st m).position
unfolding start_after
after_valid st m valid legal = IsValid-after st.position m valid legal

pub after_playable : (st : Start) (m : Move) (f : Forest Mark) → IsPlayable (after st.position m) (without_marks f)
    → IsPlayable (start_after st m).position (without_marks f)
unfolding start_after
after_playable st m f h = h

forest_runs : (f : Forest Mark) (st : Start) → IsValid st.position → IsPlayable st.position (without_marks f) → Runs false (continuation_text st f) false
    × Runs false (variations st f) false
forest_runs none st valid h = (refl, refl)
forest_runs (more m mark b r) st valid h =
    let next = start_after st m in
    let below = forest_runs b next (after_valid st m valid h.0) (after_playable st m b h.1) in
    let others = forest_runs r st valid h.2 in
    let w = words_of_move st m mark in (
      both false true false (codes " ") (w ++ (variations st r ++ continuation_text next b)) refl
          (both true false false w (variations st r ++ continuation_text next b) (move_runs true st m mark valid h.0)
          (both false false false (variations st r) (continuation_text next b) others.1 below.0)),
      both false false false (codes " (") (w ++ (continuation_text next b ++ (codes ")" ++ variations st r))) refl
          (both false false false w (continuation_text next b ++ (codes ")" ++ variations st r)) (move_runs false st m mark valid h.0)
          (both false false false (continuation_text next b) (codes ")" ++ variations st r) below.0
          (both false false false (codes ")") (variations st r) refl others.1))),
    )

goal_runs : (g : Goal) → Runs false (goal_text g) false
goal_runs goal.Win = refl
goal_runs goal.Draw = refl
goal_runs (goal.MateIn k) = both false true false (codes " to mate in ") (decimal k) refl (number_runs true k)

verdict_runs : (v : Verdict) → Runs true (verdict_text v) false
verdict_runs wrong = refl
verdict_runs sound = refl
verdict_runs (unsound n) = both true true false (codes "unsound ") (decimal n) refl (number_runs true n)

won_runs : (side : Side) → Runs true (win_of side) false
won_runs White = refl
won_runs Black = refl

result_runs : (side : Side) (v : Value) → Runs true (result_text side v) false
result_runs side Draw = refl
result_runs side (Win n) = won_runs side
result_runs side (Loss n) = won_runs (other_side side)

words_run : (s : Study Mark) → Runs false (opening_words s) false
unfolding opening_words
words_run s =
    let rest = verdict_text (verdict s) ++ (codes ", " ++ value_text s.start.position.to_move s.tree.label.value) in
    both false false false (stipulation_text s.stipulation) (codes ": " ++ rest)
    (both false false false (side_name s.stipulation.hero) (goal_text s.stipulation.goal) (side_runs false s.stipulation.hero) (goal_runs s.stipulation.goal))
    (both false true false (codes ": ") rest refl
    (both true false false (verdict_text (verdict s)) (codes ", " ++ value_text s.start.position.to_move s.tree.label.value) (verdict_runs (verdict s))
    (both false true false (codes ", ") (value_text s.start.position.to_move s.tree.label.value) refl
    (value_runs true s.start.position.to_move s.tree.label.value))))

pub movetext_runs : (s : Study Mark) → IsValid s.start.position → IsPlayable s.start.position (without_marks s.tree.below) → Runs true (movetext s) false
unfolding movetext opening_text
movetext_runs s valid h =
    let fo = continuation_text s.start s.tree.below in
    let result = result_text s.start.position.to_move s.tree.label.value in
    both true false false (codes "{" ++ (opening_words s ++ codes "}")) (fo ++ (codes " " ++ result))
    (both true false false (codes "{") (opening_words s ++ codes "}") refl (both false false false (opening_words s) (codes "}") (words_run s) refl))
    (both false false false fo (codes " " ++ result) (forest_runs s.tree.below s.start valid h).0
    (both false true false (codes " ") result refl (result_runs s.start.position.to_move s.tree.label.value)))

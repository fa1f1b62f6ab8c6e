-- The movetext of a study has no quotation mark, and is shorter than the limit of a game.
use Rattle.std.proofs.Common.{◌≡◌, ℕ, suc, ◌+◌, ◌/◌, ◌≤◌, Bool, true, false, not, List, [], ◌∷◌, ◌++◌, length, Option, Some, None, refl, sym, ap}
use Rattle.std.proofs.Common.{subst, ◌∙◌, inl, inr, arith, length-append}
use Rattle.std.specs.Prelude.{◌*◌, ◌==◌, ◌||◌, nat_le, codes, decimal, if◌then◌else◌}
use Rattle.std.specs.List.{list_all}
use Rattle.std.proofs.lemmas.Bool.{and_from, and_parts, leb-true, eqb-true, false≢true, cases_Bool}
use Rattle.std.proofs.lemmas.List.Folds.{list_all-append}
use Rattle.study_text.specs.Words.{words}
use Rattle.study_board.specs.declared.men.Side.{Side}
use Rattle.study_board.specs.declared.men.Side.TheVariants.{White, Black}
use Rattle.study_board.specs.Men.{other_side}
use Rattle.study_board.specs.Position.{IsValid}
use Rattle.study_moves.specs.declared.moves.Move.{Move}
use Rattle.study_moves.specs.Rules.{is_legal}
use Rattle.study_notation.specs.declared.start.Start.{Start}
use Rattle.study_notation.specs.StartAfter.{start_after}
use Rattle.study_notation.specs.SanSpelling.{move_text}
use Rattle.study_values.specs.declared.value.Value.{Value}
use Rattle.study_values.specs.declared.value.Value.TheVariants.{Win, Loss, Draw}
use Rattle.study_tree.specs.Forest.{Forest, none, more, nodes_in}
use Rattle.study_marks.specs.declared.mark.Mark.{Mark}
use Rattle.study_marks.specs.declared.mark.MoveMark.{MoveMark}
use Rattle.study_marks.specs.declared.mark.MoveMark.TheVariants.{Only, Dual, Idle, Mistake, Reply}
use Rattle.study_marks.specs.declared.stipulation.Goal.{Goal}
use Rattle.study_marks.specs.declared.stipulation.Goal.TheVariants as goal
use Rattle.study_marks.specs.Verdict.{Verdict, wrong, sound, unsound, verdict}
use Rattle.study_marks.specs.Study.{Study, IsPlayable}
use Rattle.study_pgn.specs.Values.{side_name, mates_text, value_text, win_of, result_text}
use Rattle.study_pgn.specs.Moves.{move_dots, number_text, glyph_text, dual_text, comment_text, words_of_move, continuation_text, variations}
use Rattle.study_pgn.specs.Pgn.{goal_text, stipulation_text, verdict_text, opening_words, opening_text, movetext}
use Rattle.study_pgn.specs.Wrap.{lines_text}
use Rattle.study_games.specs.Bytes.{is_digit}
use Rattle.study_games.proofs.Lexing.{is_plain_symbol}
use Rattle.study_import.specs.Written.{without_marks, CanBeMade}
use Rattle.study_import.proofs.Ink.{decimal_few}
use Rattle.study_import.proofs.Spelling.{move_short}
use Rattle.study_import.proofs.Blanks.{Same, lines_same, same_all}
use Rattle.study_import.proofs.ReadSteps.{decimal_digits}
use Rattle.study_import.proofs.SanSymbols.{symbol_is}
use Rattle.study_import.proofs.Singles.{after_valid, after_playable, movetext_runs}

-- neither a quotation mark nor the first byte of a byte order mark
abbrev pub is_plain : ℕ → Bool
is_plain b = not (b == 34 || b == 239)

-- a text of such bytes, of at most so many
pub record Piece (n : ℕ) (t : List ℕ) : Type 0 where
  pub plain : list_all is_plain t ≡ true
  pub few : length t ≤ n

pub plain_append : (xs ys : List ℕ) → list_all is_plain xs ≡ true → list_all is_plain ys ≡ true → list_all is_plain (xs ++ ys) ≡ true
plain_append xs ys h k = list_all-append is_plain xs ys ∙ and_from (list_all is_plain xs) (list_all is_plain ys) h k

joined : (m n : ℕ) (xs ys : List ℕ) → Piece m xs → Piece n ys → Piece (m + n) (xs ++ ys)
joined m n xs ys h k = record { plain = plain_append xs ys h.plain k.plain; few = omega (arith, length-append xs ys, h.few, k.few) }

wider : (m n : ℕ) (t : List ℕ) → m ≤ n → Piece m t → Piece n t
wider m n t le h = record { plain = h.plain; few = omega (arith, h.few) }

spelled : (n : ℕ) (t : List ℕ) → list_all is_plain t ≡ true → nat_le (length t) n ≡ true → Piece n t
spelled n t h k = record { plain = h; few = leb-true (length t) n k }

-- bytes of a kind that has neither
plain_by : (p : ℕ → Bool) → p 34 ≡ false → p 239 ≡ false → (b : ℕ) → p b ≡ true → is_plain b ≡ true
plain_by p free low b h = elim (cases_Bool (b == 34)) [
  | inl mark ↦ absurd (false≢true (sym free ∙ ap p (sym (eqb-true b 34 mark)) ∙ h))
  | inr other ↦ elim (cases_Bool (b == 239)) [
    | inl high ↦ absurd (false≢true (sym low ∙ ap p (sym (eqb-true b 239 high)) ∙ h))
    | inr low_enough ↦ rw (other, low_enough) refl
  ]
]

all_plain : (p : ℕ → Bool) → p 34 ≡ false → p 239 ≡ false → (t : List ℕ) → list_all p t ≡ true → list_all is_plain t ≡ true
all_plain p free low [] h = refl
all_plain p free low (b ∷ bs) h =
    let a = and_parts (p b) (list_all p bs) h in
    and_from (is_plain b) (list_all is_plain bs) (plain_by p free low b a.0) (all_plain p free low bs a.1)

-- ---- words

number_piece : (n : ℕ) → Piece 64 (decimal n)
number_piece n = record { plain = all_plain is_digit refl refl (decimal n) (decimal_digits n); few = decimal_few n }

side_piece : (side : Side) → Piece 5 (side_name side)
side_piece White = spelled 5 (codes "White") refl refl
side_piece Black = spelled 5 (codes "Black") refl refl

mates_piece : (side : Side) (n : ℕ) → Piece (5 + (10 + 64)) (mates_text side n)
mates_piece side n =
    joined 5 (10 + 64) (side_name side) (codes " mates in " ++ decimal n) (side_piece side)
    (joined 10 64 (codes " mates in ") (decimal n) (spelled 10 (codes " mates in ") refl refl) (number_piece n))

loss_piece : (side : Side) (n : ℕ) (b : Bool) → Piece (5 + (10 + 64)) (if b then codes "mate" else mates_text (other_side side) n)
loss_piece side n true = spelled 79 (codes "mate") refl refl
loss_piece side n false = mates_piece (other_side side) n

value_piece : (side : Side) (v : Value) → Piece 79 (value_text side v)
value_piece side Draw = spelled 79 (codes "draw") refl refl
value_piece side (Win n) = mates_piece side ((n + 1) / 2)
value_piece side (Loss n) = loss_piece side (n / 2) (n == 0)

dual_piece : (m : Option MoveMark) → Piece 71 (dual_text m)
dual_piece None = spelled 71 [] refl refl
dual_piece (Some Only) = spelled 71 [] refl refl
dual_piece (Some Idle) = spelled 71 [] refl refl
dual_piece (Some Mistake) = spelled 71 [] refl refl
dual_piece (Some Reply) = spelled 71 [] refl refl
dual_piece (Some (Dual k)) = joined 7 64 (codes "; dual ") (decimal k) (spelled 7 (codes "; dual ") refl refl) (number_piece k)

glyph_piece : (m : Option MoveMark) → Piece 3 (glyph_text m)
glyph_piece None = spelled 3 [] refl refl
glyph_piece (Some Only) = spelled 3 (codes " $1") refl refl
glyph_piece (Some Idle) = spelled 3 [] refl refl
glyph_piece (Some Mistake) = spelled 3 (codes " $4") refl refl
glyph_piece (Some Reply) = spelled 3 [] refl refl
glyph_piece (Some (Dual k)) = spelled 3 [] refl refl

dots_piece : (side : Side) → Piece 3 (move_dots side)
dots_piece White = spelled 3 (codes ".") refl refl
dots_piece Black = spelled 3 (codes "...") refl refl

comment_piece : (side : Side) (mark : Mark) → Piece (1 + (79 + (71 + 1))) (comment_text side mark)
comment_piece side mark =
    joined 1 (79 + (71 + 1)) (codes "{") (value_text side mark.value ++ (dual_text mark.on_move ++ codes "}")) (spelled 1 (codes "{") refl refl)
    (joined 79 (71 + 1) (value_text side mark.value) (dual_text mark.on_move ++ codes "}") (value_piece side mark.value)
    (joined 71 1 (dual_text mark.on_move) (codes "}") (dual_piece mark.on_move) (spelled 1 (codes "}") refl refl)))

san_piece : (st : Start) (m : Move) → IsValid st.position → is_legal st.position m ≡ true → Piece 9 (move_text st.position m)
san_piece st m valid legal =
    let s = symbol_is st.position m valid legal in
    record {
      plain = subst (λ (t : List ℕ). list_all is_plain t ≡ true) (sym s.text) (all_plain is_plain_symbol refl refl (s.first ∷ s.rest) s.all);
      few = (move_short st.position m valid legal).few;
    }

move_piece : (st : Start) (m : Move) (mark : Mark) → IsValid st.position → is_legal st.position m ≡ true → Piece 233 (words_of_move st m mark)
unfolding words_of_move
move_piece st m mark valid legal =
    let comment = comment_text (other_side st.position.to_move) mark in
    joined (64 + 3) (1 + (9 + (3 + (1 + 152)))) (number_text st) (codes " " ++ (move_text st.position m ++ (glyph_text mark.on_move ++ (codes " " ++ comment))))
    (joined 64 3 (decimal st.number) (move_dots st.position.to_move) (number_piece st.number) (dots_piece st.position.to_move))
    (joined 1 (9 + (3 + (1 + 152))) (codes " ") (move_text st.position m ++ (glyph_text mark.on_move ++ (codes " " ++ comment)))
    (spelled 1 (codes " ") refl refl)
    (joined 9 (3 + (1 + 152)) (move_text st.position m) (glyph_text mark.on_move ++ (codes " " ++ comment)) (san_piece st m valid legal)
    (joined 3 (1 + 152) (glyph_text mark.on_move) (codes " " ++ comment) (glyph_piece mark.on_move)
    (joined 1 152 (codes " ") comment (spelled 1 (codes " ") refl refl) (comment_piece (other_side st.position.to_move) mark)))))

-- ---- the tree: at most 240 bytes a node

abbrev nodes : Forest Mark → ℕ
nodes f = nodes_in (without_marks f)

forest_pieces : (f : Forest Mark) (st : Start) → IsValid st.position → IsPlayable st.position (without_marks f) → Piece (240 * nodes f) (continuation_text st f)
    × Piece (240 * nodes f) (variations st f)
forest_pieces none st valid h = (spelled 0 [] refl refl, spelled 0 [] refl refl)
forest_pieces (more m mark b r) st valid h =
    let next = start_after st m in
    let below = forest_pieces b next (after_valid st m valid h.0) (after_playable st m b h.1) in
    let others = forest_pieces r st valid h.2 in
    let w = words_of_move st m mark in
    let x = nodes b in
    let y = nodes r in
    let first = move_piece st m mark valid h.0 in (
      wider (1 + (233 + (240 * y + 240 * x))) (240 * (1 + x + y)) _ (omega arith)
          (joined 1 (233 + (240 * y + 240 * x)) (codes " ") (w ++ (variations st r ++ continuation_text next b)) (spelled 1 (codes " ") refl refl)
          (joined 233 (240 * y + 240 * x) w (variations st r ++ continuation_text next b) first
          (joined (240 * y) (240 * x) (variations st r) (continuation_text next b) others.1 below.0))),
      wider (2 + (233 + (240 * x + (1 + 240 * y)))) (240 * (1 + x + y)) _ (omega arith)
          (joined 2 (233 + (240 * x + (1 + 240 * y))) (codes " (") (w ++ (continuation_text next b ++ (codes ")" ++ variations st r)))
          (spelled 2 (codes " (") refl refl)
          (joined 233 (240 * x + (1 + 240 * y)) w (continuation_text next b ++ (codes ")" ++ variations st r)) first
          (joined (240 * x) (1 + 240 * y) (continuation_text next b) (codes ")" ++ variations st r) below.0
          (joined 1 (240 * y) (codes ")") (variations st r) (spelled 1 (codes ")") refl refl) others.1)))),
    )

-- ---- the whole

goal_piece : (g : Goal) → Piece 76 (goal_text g)
goal_piece goal.Win = spelled 76 (codes " to win") refl refl
goal_piece goal.Draw = spelled 76 (codes " to draw") refl refl
goal_piece (goal.MateIn k) = joined 12 64 (codes " to mate in ") (decimal k) (spelled 12 (codes " to mate in ") refl refl) (number_piece k)

verdict_piece : (v : Verdict) → Piece 72 (verdict_text v)
verdict_piece wrong = spelled 72 (codes "wrong") refl refl
verdict_piece sound = spelled 72 (codes "sound") refl refl
verdict_piece (unsound n) = joined 8 64 (codes "unsound ") (decimal n) (spelled 8 (codes "unsound ") refl refl) (number_piece n)

won_piece : (side : Side) → Piece 7 (win_of side)
won_piece White = spelled 7 (codes "1-0") refl refl
won_piece Black = spelled 7 (codes "0-1") refl refl

result_piece : (side : Side) (v : Value) → Piece 7 (result_text side v)
result_piece side Draw = spelled 7 (codes "1/2-1/2") refl refl
result_piece side (Win n) = won_piece side
result_piece side (Loss n) = won_piece (other_side side)

words_piece : (s : Study Mark) → Piece 236 (opening_words s)
unfolding opening_words
words_piece s =
    let value = value_text s.start.position.to_move s.tree.label.value in
    joined 81 155 (stipulation_text s.stipulation) (codes ": " ++ (verdict_text (verdict s) ++ (codes ", " ++ value)))
    (joined 5 76 (side_name s.stipulation.hero) (goal_text s.stipulation.goal) (side_piece s.stipulation.hero) (goal_piece s.stipulation.goal))
    (joined 2 153 (codes ": ") (verdict_text (verdict s) ++ (codes ", " ++ value)) (spelled 2 (codes ": ") refl refl)
    (joined 72 81 (verdict_text (verdict s)) (codes ", " ++ value) (verdict_piece (verdict s))
    (joined 2 79 (codes ", ") value (spelled 2 (codes ", ") refl refl) (value_piece s.start.position.to_move s.tree.label.value))))

movetext_piece : (s : Study Mark) → CanBeMade s → Piece (240 * nodes s.tree.below + 246) (movetext s)
unfolding movetext opening_text
movetext_piece s c =
    let x = nodes s.tree.below in
    let fo = continuation_text s.start s.tree.below in
    let result = result_text s.start.position.to_move s.tree.label.value in
    wider ((1 + (236 + 1)) + (240 * x + (1 + 7))) (240 * x + 246) _ (omega arith)
    (joined (1 + (236 + 1)) (240 * x + (1 + 7)) (codes "{" ++ (opening_words s ++ codes "}")) (fo ++ (codes " " ++ result))
    (joined 1 (236 + 1) (codes "{") (opening_words s ++ codes "}") (spelled 1 (codes "{") refl refl)
    (joined 236 1 (opening_words s) (codes "}") (words_piece s) (spelled 1 (codes "}") refl refl)))
    (joined (240 * x) (1 + 7) fo (codes " " ++ result) (forest_pieces s.tree.below s.start c.valid c.playable).0
    (joined 1 7 (codes " ") result (spelled 1 (codes " ") refl refl) (result_piece s.start.position.to_move s.tree.label.value))))

same_length : (xs ys : List ℕ) → Same xs ys → length ys ≡ length xs
same_length [] [] h = refl
same_length [] (y ∷ ys) h = absurd h
same_length (x ∷ xs) [] h = absurd h
same_length (x ∷ xs) (y ∷ ys) h = ap (λ (n : ℕ). suc n) (same_length xs ys h.1)

pub lines_piece : (s : Study Mark) → CanBeMade s → Piece 983047 (lines_text (words (movetext s)))
lines_piece s c =
    let m = movetext_piece s c in
    let same = lines_same (movetext s) (movetext_runs s c.valid c.playable) in
    let t = lines_text (words (movetext s)) in
    record {
      plain = same_all is_plain (movetext s ++ 10 ∷ []) t refl (plain_append (movetext s) (10 ∷ []) m.plain refl) same;
      few = omega (arith, same_length (movetext s ++ 10 ∷ []) t same, length-append (movetext s) (10 ∷ []), m.few, c.few);
    }

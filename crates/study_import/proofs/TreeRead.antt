-- The movetext of a tree is read as that tree.
use Rattle.std.proofs.Common.{◌≡◌, ℕ, zero, suc, ◌+◌, ◌<◌, ◌≤◌, Bool, true, false, List, [], ◌∷◌, ◌++◌, length, take, Option, Some, None, refl, sym}
use Rattle.std.proofs.Common.{ap, subst, ◌∙◌, inl, inr, arith, length-append, append_assoc}
use Rattle.std.specs.Prelude.{◌==◌, ◌||◌, nat_le, ◌/◌, codes, decimal, if◌then◌else◌}
use Rattle.std.specs.List.{list_all}
use Rattle.std.proofs.lemmas.Bool.{false_from_ne_true, and_from, le-leb, leb-true, ne_eqb, and_parts}
use Rattle.std.proofs.lemmas.List.{append-nil, take_at}
use Rattle.std.proofs.lemmas.List.Folds.{list_all-append}
use Rattle.study_board.specs.declared.men.Side.{Side}
use Rattle.study_board.specs.declared.men.Side.TheVariants.{White, Black}
use Rattle.study_board.specs.Men.{other_side}
use Rattle.study_board.specs.Position.{Position, IsValid}
use Rattle.study_moves.specs.declared.moves.Move.{Move}
use Rattle.study_moves.specs.Rules.{is_legal, after}
use Rattle.study_moves.proofs.AfterMove.{IsValid-after}
use Rattle.study_notation.specs.declared.start.Start.{Start}
use Rattle.study_notation.specs.Matching.{move_of}
use Rattle.study_notation.specs.StartAfter.{start_after}
use Rattle.study_notation.specs.SanSpelling.{move_text}
use Rattle.study_values.specs.declared.value.Value.{Value}
use Rattle.study_values.specs.declared.value.Value.TheVariants.{Win, Loss, Draw}
use Rattle.study_tree.specs.Forest.{Forest, none, more, nodes_in}
use Rattle.study_tree.specs.Edits.{has_node, with_last, width, children_at, IsWithin}
use Rattle.study_marks.specs.declared.mark.Mark.{Mark}
use Rattle.study_marks.specs.declared.mark.MoveMark.{MoveMark}
use Rattle.study_marks.specs.declared.mark.MoveMark.TheVariants.{Only, Dual, Idle, Mistake, Reply}
use Rattle.study_marks.specs.declared.stipulation.Stipulation.{Stipulation}
use Rattle.study_marks.specs.Study.{moves_to, position_after, position_at, same_move, place_from, IsPlayable, AreOthers, AreDistinct}
use Rattle.study_marks.specs.Edits.{PlainStudy, with_insertion, is_printable}
use Rattle.study_marks.proofs.DualCounts.{same_move-one}
use Rattle.study_pgn.specs.Values.{side_name, mates_text, value_text}
use Rattle.study_pgn.specs.Moves.{move_dots, number_text, glyph_text, dual_text, comment_text, words_of_move, continuation_text, variations}
use Rattle.study_games.specs.Bytes.{is_letter, is_digit, is_high, begins_symbol, is_symbol_byte}
use Rattle.study_games.specs.Symbols.{said_of, san_in}
use Rattle.study_games.specs.declared.symbols.Said.TheVariants as say
use Rattle.study_games.specs.Tokens.{is_inside}
use Rattle.study_games.proofs.Lexing.{Stops, symbol_digit, is_plain_symbol}
use Rattle.study_reading.specs.declared.lines.Waiting.{Waiting}
use Rattle.study_import.specs.FewMen.{GameRead}
use Rattle.study_import.specs.Written.{without_marks}
use Rattle.study_import.proofs.Ink.{Ink, ink_of, decimal_ink}
use Rattle.study_import.proofs.Spelling.{move_short}
use Rattle.study_import.proofs.Blanks.{Same, same_cut, word_cut, IsGap, space_cut, same_all}
use Rattle.study_import.proofs.SanSymbols.{symbol_is, symbol_said, symbol_move, symbol_prints}
use Rattle.study_import.proofs.TreeHoles.{Plain, put, put_has, put_here, put_way, put_width, put_place, put_moves, put_last, put_put, put_nodes}
use Rattle.study_import.proofs.TreeHoles.{position_on, beside, beside_assoc, beside_none, last_put, last_has, last_is, last_moves, last_nodes}
use Rattle.study_import.proofs.TreeHoles.{beside_nodes, beside_place, first_put, first_beside}
use Rattle.study_reading.specs.declared.numbering.Numbering.{Numbering}
use Rattle.study_reading.specs.Numbering.{has_dot}
use Rattle.study_import.proofs.Numbers.{IsFirst, Fits, Counted, counted_on, no_dot, number_fits}
use Rattle.study_import.proofs.ReadSteps.{At, Reached, reached_on, gap_step, dot_step, number_step, glyph_step, comment_step, IsNew, move_step}
use Rattle.study_import.proofs.ReadSteps.{open_step, close_step, decimal_digits, decimal_some}

-- the study with this tree
abbrev pub on_tree : PlainStudy → Plain → PlainStudy
on_tree s t = record { start = s.start; stipulation = s.stipulation; tags = s.tags; tree = record { label = tt; below = t } }

-- ---- texts of marks

pub inside_append : (xs ys : List ℕ) → list_all is_inside xs ≡ true → list_all is_inside ys ≡ true → list_all is_inside (xs ++ ys) ≡ true
inside_append xs ys h k = list_all-append is_inside xs ys ∙ and_from (list_all is_inside xs) (list_all is_inside ys) h k

digit_inside : (ds : List ℕ) → list_all is_digit ds ≡ true → list_all is_inside ds ≡ true
digit_inside [] h = refl
digit_inside (d ∷ ds) h =
    let a = and_parts (is_digit d) (list_all is_digit ds) h in
    let high : d ≤ 57 = leb-true d 57 (and_parts (nat_le 48 d) (nat_le d 57) a.0).1 in
    rw (ne_eqb d 125 (λ e. omega arith)) (digit_inside ds a.1)

pub number_inside : (n : ℕ) → list_all is_inside (decimal n) ≡ true
number_inside n = digit_inside (decimal n) (decimal_digits n)

pub side_inside : (side : Side) → list_all is_inside (side_name side) ≡ true
side_inside White = refl
side_inside Black = refl

mates_inside : (side : Side) (n : ℕ) → list_all is_inside (mates_text side n) ≡ true
mates_inside side n = inside_append (side_name side) (codes " mates in " ++ decimal n) (side_inside side)
    (inside_append (codes " mates in ") (decimal n) refl (number_inside n))

loss_by : (side : Side) (n : ℕ) (b : Bool) → list_all is_inside (if b then codes "mate" else mates_text (other_side side) n) ≡ true
loss_by side n true = refl
loss_by side n false = mates_inside (other_side side) n

pub value_inside : (side : Side) (v : Value) → list_all is_inside (value_text side v) ≡ true
value_inside side Draw = refl
value_inside side (Win n) = mates_inside side ((n + 1) / 2)
value_inside side (Loss n) = loss_by side (n / 2) (n == 0)

dual_inside : (m : Option MoveMark) → list_all is_inside (dual_text m) ≡ true
dual_inside None = refl
dual_inside (Some Only) = refl
dual_inside (Some Mistake) = refl
dual_inside (Some Idle) = refl
dual_inside (Some Reply) = refl
dual_inside (Some (Dual k)) = inside_append (codes "; dual ") (decimal k) refl (number_inside k)

-- ---- a word that is a number

pub digits_symbol : (ds : List ℕ) → list_all is_digit ds ≡ true → list_all is_plain_symbol ds ≡ true
digits_symbol [] h = refl
digits_symbol (d ∷ ds) h = let a = and_parts (is_digit d) (list_all is_digit ds) h in rw (plain_digit d a.0) (digits_symbol ds a.1)
  where
    plain_digit : (d : ℕ) → is_digit d ≡ true → is_plain_symbol d ≡ true
    plain_digit d h =
        let high = leb-true d 57 (and_parts (nat_le 48 d) (nat_le d 57) h).1 in
        and_from (is_symbol_byte d) (nat_le d 127) (symbol_digit d h) (le-leb d 127 (omega (arith, high)))

pub begins_digit : (d : ℕ) → is_digit d ≡ true → begins_symbol d ≡ true
begins_digit d h = rw h (any_true (is_letter d) (is_high d))
  where
    any_true : (a b : Bool) → ((a || true) || b) ≡ true
    any_true true b = refl
    any_true false b = refl

said_number : (ds : List ℕ) → list_all is_digit ds ≡ true → said_of ds ≡ say.Number
unfolding said_of
said_number ds h = rw h refl

-- equal texts
text_is : (s : PlainStudy) (path : List ℕ) (from : ℕ) (ws : List Waiting) (o : Option Stipulation) (g : GameRead) (t u rest : List ℕ) → t ≡ u
    → Reached u rest s path from ws o g → Reached t rest s path from ws o g
text_is s path from ws o g t u rest e r = subst (λ (x : List ℕ). Reached x rest s path from ws o g) (sym e) r

module _ (s : PlainStudy) (path : List ℕ) (from : ℕ) (ws : List Waiting) (o : Option Stipulation) where
  -- text that changes neither tree nor line
  abbrev Passes : List ℕ → List ℕ → Type 0
  Passes t rest = (g : GameRead) → At s path from ws o g → Reached t rest s path from ws o g

  passes_on : (t mid rest : List ℕ) → Passes t mid → Passes mid rest → Passes t rest
  passes_on t mid rest f k = λ g at. reached_on t mid rest s s path path from from ws ws o g (f g at) k

  passes_text : (t u rest : List ℕ) → t ≡ u → Passes u rest → Passes t rest
  passes_text t u rest e f = λ g at. text_is s path from ws o g t u rest e (f g at)

  gap_passes : (b : ℕ) (bs : List ℕ) → IsGap b → Passes (b ∷ bs) bs
  gap_passes b bs gap = λ g at. gap_step s path from ws o g at b bs gap

  dots_pass : (side : Side) (rest : List ℕ) → Passes (move_dots side ++ rest) rest
  dots_pass White rest = λ g at. dot_step s path from ws o g at rest
  dots_pass Black rest =
      passes_on (46 ∷ 46 ∷ 46 ∷ rest) (46 ∷ 46 ∷ rest) rest (λ g at. dot_step s path from ws o g at (46 ∷ 46 ∷ rest))
      (passes_on (46 ∷ 46 ∷ rest) (46 ∷ rest) rest (λ g at. dot_step s path from ws o g at (46 ∷ rest)) (λ g at. dot_step s path from ws o g at rest))

  dots_stop : (side : Side) (rest : List ℕ) → Stops is_symbol_byte (move_dots side ++ rest)
  dots_stop White rest = refl
  dots_stop Black rest = refl

  digits_pass : (ds rest : List ℕ) → list_all is_digit ds ≡ true → 0 < length ds → Stops is_symbol_byte rest
      → ((n : Numbering) → IsFirst s.start n → Fits s.start (length path) n ds rest) → Passes (ds ++ rest) rest
  digits_pass [] rest h some stops fits = absurd (omega arith)
  digits_pass (d ∷ ds) rest h some stops fits =
      λ g at. let f = fits g.notes.numbering at.numbers in
      number_step s path from ws o g at d ds rest (begins_digit d (and_parts (is_digit d) (list_all is_digit ds) h).0) (digits_symbol (d ∷ ds) h)
      (said_number (d ∷ ds) h) stops f.0 f.1 f.2

  -- the number of a move, before a text without a dot
  number_passes : (st : Start) (rest t : List ℕ) → Counted s.start (length path) st → length path < 256 → ((u : List ℕ) → Same rest u → has_dot u ≡ false)
      → Same (number_text st ++ rest) t → (back : List ℕ) × Same rest back × Passes t back
  number_passes st rest t counted depth dotless h =
      let n = decimal st.number in
      let dots = move_dots st.position.to_move in
      let c = word_cut n (dots ++ rest) t (decimal_ink st.number) (subst (λ (x : List ℕ). Same x t) (append_assoc n dots rest) h) in
      let d = word_cut dots rest c.back (dots_ink st.position.to_move) c.rest in (
        d.back,
        d.rest,
        passes_text t (n ++ c.back) d.back c.text
            (passes_on (n ++ c.back) c.back d.back
            (digits_pass n c.back (decimal_digits st.number) (decimal_some st.number)
            (subst (λ (x : List ℕ). Stops is_symbol_byte x) (sym d.text) (dots_stop st.position.to_move d.back))
            (λ m first. subst (λ (x : List ℕ). Fits s.start (length path) m n x) (sym d.text)
            (number_fits s.start (length path) st m d.back counted depth first (dotless d.back d.rest))))
            (passes_text c.back (dots ++ d.back) d.back d.text (dots_pass st.position.to_move d.back))),
      )
    where
      dots_ink : (side : Side) → Ink (move_dots side)
      dots_ink White = ink_of (codes ".") refl
      dots_ink Black = ink_of (codes "...") refl

  -- a NAG, or nothing
  glyph_word : (d : ℕ) (rest t : List ℕ) → is_digit d ≡ true → 32 < d → d ≤ 126 → Same (32 ∷ 36 ∷ d ∷ 32 ∷ rest) t → (back : List ℕ) × Same (32 ∷ rest) back
      × Passes t back
  glyph_word d rest t digit low high h =
      let a = space_cut (36 ∷ d ∷ 32 ∷ rest) t h in
      let c = word_cut (36 ∷ d ∷ []) (32 ∷ rest) a.back (omega arith, omega arith, (low, high, tt)) a.rest in
      let e = space_cut rest c.back c.rest in (
        c.back,
        c.rest,
        passes_text t (a.byte ∷ a.back) c.back a.text
            (passes_on (a.byte ∷ a.back) a.back c.back (gap_passes a.byte a.back a.gap)
            (passes_text a.back (36 ∷ d ∷ c.back) c.back c.text (λ g at. glyph_step s path from ws o g at d c.back digit
            (subst (λ (x : List ℕ). Stops is_digit x) (sym e.text) (no_digit e.byte e.gap))))),
      )
    where
      no_digit : (b : ℕ) → IsGap b → is_digit b ≡ false
      no_digit b (inl e) = rw e refl
      no_digit b (inr e) = rw e refl

  glyph_passes : (m : Option MoveMark) (rest t : List ℕ) → Same (glyph_text m ++ (32 ∷ rest)) t → (back : List ℕ) × Same (32 ∷ rest) back × Passes t back
  glyph_passes None rest t h = (t, h, stay t)
    where
      stay : (t : List ℕ) → Passes t t
      stay t = λ g at. record { next = g; goes = λ fresh. (fresh, refl); at = at }
  glyph_passes (Some Idle) rest t h = (t, h, λ g at. record { next = g; goes = λ fresh. (fresh, refl); at = at })
  glyph_passes (Some Reply) rest t h = (t, h, λ g at. record { next = g; goes = λ fresh. (fresh, refl); at = at })
  glyph_passes (Some (Dual k)) rest t h = (t, h, λ g at. record { next = g; goes = λ fresh. (fresh, refl); at = at })
  glyph_passes (Some Only) rest t h = glyph_word 49 rest t refl (omega arith) (omega arith) h
  glyph_passes (Some Mistake) rest t h = glyph_word 52 rest t refl (omega arith) (omega arith) h

  -- a comment in braces
  pub comment_passes : (words rest t : List ℕ) → list_all is_inside words ≡ true → Same (123 ∷ (words ++ (125 ∷ rest))) t → (back : List ℕ) × Same rest back
      × Passes t back
  comment_passes words rest t inside h =
      let a = word_cut (123 ∷ []) (words ++ (125 ∷ rest)) t (omega arith, omega arith, tt) h in
      let c = same_cut words (125 ∷ rest) a.back a.rest in
      let d = word_cut (125 ∷ []) rest c.back (omega arith, omega arith, tt) c.rest in
      let whole : t ≡ 123 ∷ (c.front ++ (125 ∷ d.back)) =
      a.text ∙ ap (λ (x : List ℕ). 123 ∷ x) (c.text ∙ ap (λ (x : List ℕ). c.front ++ x) d.text) in (
        d.back,
        d.rest,
        passes_text t (123 ∷ (c.front ++ (125 ∷ d.back))) d.back whole
            (λ g at. comment_step s path from ws o g at c.front d.back (same_all is_inside words c.front refl inside c.same)),
      )

  mark_passes : (side : Side) (mark : Mark) (rest t : List ℕ) → Same (comment_text side mark ++ rest) t → (back : List ℕ) × Same rest back × Passes t back
  mark_passes side mark rest t h =
      let words = value_text side mark.value ++ dual_text mark.on_move in
      comment_passes words rest t (inside_append (value_text side mark.value) (dual_text mark.on_move) (value_inside side mark.value)
      (dual_inside mark.on_move))
      (subst (λ (x : List ℕ). Same x t) (regroup (value_text side mark.value) (dual_text mark.on_move) rest) h)
    where
      regroup : (a b c : List ℕ) → (123 ∷ (a ++ (b ++ 125 ∷ []))) ++ c ≡ 123 ∷ ((a ++ b) ++ (125 ∷ c))
      regroup a b c = simp append_assoc

-- ---- a node

-- a node of a tree, and the start there
pub record Node (s : PlainStudy) (f : Plain) (path : List ℕ) (st : Start) : Type 0 where
  pub here : has_node f path ≡ true
  pub position : position_after s.start.position (moves_to f path) ≡ st.position
  pub valid : IsValid st.position
  pub counted : Counted s.start (length path) st

-- the text of a move that is new below the node, and the rest
record Moved (s : PlainStudy) (f : Plain) (path : List ℕ) (x : Plain) (m : Move) (rest t : List ℕ) (from : ℕ) (ws : List Waiting) (o : Option Stipulation)
    (g : GameRead) : Type 0 where
  back : List ℕ
  same : Same rest back
  reached : Reached t back (on_tree s (put f path (with_last m tt x))) (path ++ width x ∷ []) from ws o g

gap_stops : (b : ℕ) → IsGap b → is_symbol_byte b ≡ false
gap_stops b (inl e) = rw e refl
gap_stops b (inr e) = rw e refl

module _ (s : PlainStudy) (f : Plain) (path : List ℕ) (st : Start) (node : Node s f path st) (from : ℕ) (ws : List Waiting) (o : Option Stipulation) where
  move_moves : (x : Plain) (m : Move) (rest : List ℕ) → is_legal st.position m ≡ true → place_from 0 m x ≡ None → length path < 256
      → nodes_in (put f path x) + 2 ≤ 4096
      → Stops is_symbol_byte rest → (g : GameRead) → At (on_tree s (put f path x)) path from ws o g
      → Reached (move_text st.position m ++ rest) rest (on_tree s (put f path (with_last m tt x))) (path ++ width x ∷ []) from ws o g
  move_moves x m rest legal new depth room stops g at =
      let text = symbol_is st.position m node.valid legal in
      let t = on_tree s (put f path x) in
      let position : position_at t path ≡ st.position = ap (position_after s.start.position) (put_way x f path node.here) ∙ node.position in
      let is_new : IsNew t path from ws o g at (text.first ∷ text.rest) m = record {
        said = ap said_of (sym text.text) ∙ symbol_said st.position m node.valid legal;
        few = (let short = move_short st.position m node.valid legal in let le : length (text.first ∷ text.rest) ≤ 32 = omega (
          arith,
          short.few,
          ap length text.text,
        ) in le);
        prints = ap (λ (w : List ℕ). list_all is_printable (san_in w)) (sym text.text) ∙ symbol_prints st.position m node.valid legal;
        found = put_here x f path node.here;
        means = ap (λ (p : Position). move_of p (san_in (text.first ∷ text.rest))) position
            ∙ ap (λ (w : List ℕ). move_of st.position (san_in w)) (sym text.text)
            ∙ symbol_move st.position m node.valid legal;
        place = put_place x f path m node.here ∙ new;
        depth = depth;
        room = omega (arith, room);
      } in
      let step = move_step t path from ws o g at text.first text.rest rest m text.begins text.all stops is_new in
      let tree : with_insertion t path m ≡ on_tree s (put f path (with_last m tt x)) = ap (on_tree s) (put_last x f path m node.here) in
      let child : children_at (put f path x) path ≡ width x = put_width x f path node.here in
      text_is (on_tree s (put f path (with_last m tt x))) (path ++ width x ∷ []) from ws o g (move_text st.position m ++ rest) ((text.first ∷ text.rest)
      ++ rest) rest
      (ap (λ (w : List ℕ). w ++ rest) text.text)
      (subst (λ (k : ℕ). Reached ((text.first ∷ text.rest) ++ rest) rest (on_tree s (put f path (with_last m tt x))) (path ++ k ∷ []) from ws o g) child
      (subst (λ (u : PlainStudy). Reached ((text.first ∷ text.rest) ++ rest) rest u (path ++ children_at (put f path x) path ∷ []) from ws o g) tree step))

  words_move : (x : Plain) (m : Move) (mark : Mark) (rest t : List ℕ) → is_legal st.position m ≡ true → place_from 0 m x ≡ None → length path < 256
      → nodes_in (put f path x) + 2 ≤ 4096 → Same (words_of_move st m mark ++ rest) t → (g : GameRead) → At (on_tree s (put f path x)) path from ws o g
      → Moved s f path x m rest t from ws o g
  unfolding words_of_move
  words_move x m mark rest t legal new depth room h g at =
      let old = on_tree s (put f path x) in
      let made = on_tree s (put f path (with_last m tt x)) in
      let q = path ++ width x ∷ [] in
      let side = other_side st.position.to_move in
      let later = comment_text side mark ++ rest in
      let regrouped = cut_words (number_text st) (move_text st.position m) (glyph_text mark.on_move) (comment_text side mark) rest in
      let n = number_passes old path from ws o st (32 ∷ (move_text st.position m ++ (glyph_text mark.on_move ++ (32 ∷ later)))) t node.counted depth
      (λ u e. no_dot_before m (glyph_text mark.on_move ++ (32 ∷ later)) u legal e) (subst (λ (y : List ℕ). Same y t) regrouped h) in
      let a = space_cut (move_text st.position m ++ (glyph_text mark.on_move ++ (32 ∷ later))) n.0 n.1 in
      let w = word_cut (move_text st.position m) (glyph_text mark.on_move ++ (32 ∷ later)) a.back (move_short st.position m node.valid legal).ink a.rest in
      let gl = glyph_passes made q from ws o mark.on_move later w.back w.rest in
      let b = space_cut later gl.0 gl.1 in
      let c = mark_passes made q from ws o side mark rest b.back b.rest in
      record {
        back = c.0;
        same = c.1;
        reached = reached_on t n.0 c.0 old made path q from from ws ws o g (n.2 g at)
            (λ g1 at1. text_is made q from ws o g1 n.0 (a.byte ∷ a.back) c.0 a.text
            (reached_on (a.byte ∷ a.back) a.back c.0 old made path q from from ws ws o g1 (gap_step old path from ws o g1 at1 a.byte a.back a.gap)
            (λ g2 at2. text_is made q from ws o g2 a.back (move_text st.position m ++ w.back) c.0 w.text
            (reached_on (move_text st.position m ++ w.back) w.back c.0 made made q q from from ws ws o g2
            (move_moves x m w.back legal new depth room (glyph_stop mark.on_move later w.back w.rest) g2 at2)
            (λ g3 at3. reached_on w.back gl.0 c.0 made made q q from from ws ws o g3 (gl.2 g3 at3)
            (λ g4 at4. text_is made q from ws o g4 gl.0 (b.byte ∷ b.back) c.0 b.text
            (reached_on (b.byte ∷ b.back) b.back c.0 made made q q from from ws ws o g4 (gap_step made q from ws o g4 at4 b.byte b.back b.gap) c.2)))))));
      }
    where
      no_dot_before : (m : Move) (later u : List ℕ) → is_legal st.position m ≡ true → Same (32 ∷ (move_text st.position m ++ later)) u → has_dot u ≡ false
      no_dot_before m later u legal e =
          let text = symbol_is st.position m node.valid legal in
          let short = move_short st.position m node.valid legal in
          let ink : Ink (text.first ∷ text.rest) = subst (λ (w : List ℕ). Ink w) text.text short.ink in
          let a = space_cut (move_text st.position m ++ later) u e in
          let w = word_cut (move_text st.position m) later a.back short.ink a.rest in
          let is : u ≡ a.byte ∷ text.first ∷ (text.rest ++ w.back) =
          a.text ∙ ap (λ (x : List ℕ). a.byte ∷ x) (w.text ∙ ap (λ (x : List ℕ). x ++ w.back) text.text) in
          subst (λ (x : List ℕ). has_dot x ≡ false) (sym is) (no_dot a.byte text.first (text.rest ++ w.back) a.gap text.begins ink.0 ink.1)

      cut_words : (a b c d e : List ℕ) → (a ++ (32 ∷ (b ++ (c ++ (32 ∷ d))))) ++ e ≡ a ++ (32 ∷ (b ++ (c ++ (32 ∷ (d ++ e)))))
      cut_words a b c d e = simp append_assoc

      first_gap : (ys t : List ℕ) → Same (32 ∷ ys) t → Stops is_symbol_byte t
      first_gap ys t h = let c = space_cut ys t h in subst (λ (x : List ℕ). Stops is_symbol_byte x) (sym c.text) (gap_stops c.byte c.gap)

      glyph_stop : (m : Option MoveMark) (later t : List ℕ) → Same (glyph_text m ++ (32 ∷ later)) t → Stops is_symbol_byte t
      glyph_stop None later t h = first_gap later t h
      glyph_stop (Some Idle) later t h = first_gap later t h
      glyph_stop (Some Reply) later t h = first_gap later t h
      glyph_stop (Some (Dual k)) later t h = first_gap later t h
      glyph_stop (Some Only) later t h = first_gap (36 ∷ 49 ∷ 32 ∷ later) t h
      glyph_stop (Some Mistake) later t h = first_gap (36 ∷ 52 ∷ 32 ∷ later) t h

-- ---- trees

-- the text after a node was read: its nodes are below it
pub record Followed (s : PlainStudy) (f : Plain) (path : List ℕ) (x : Plain) (rest t : List ℕ) (from : ℕ) (ws : List Waiting) (o : Option Stipulation)
    (g : GameRead) : Type 0 where
  pub back : List ℕ
  pub same : Same rest back
  pub way : List ℕ
  pub reached : Reached t back (on_tree s (put f path x)) (path ++ way) from ws o g

-- the limits of a tree with these nodes below the node
pub record Limits (f : Plain) (path : List ℕ) (done x : Plain) (from : ℕ) (ws : List Waiting) (d : ℕ) : Type 0 where
  pub deep : length path + d ≡ 256
  pub within : IsWithin d x
  pub room : nodes_in (put f path done) + nodes_in x + 1 ≤ 4096
  pub begun : from ≤ length path
  pub few : length ws ≤ length path

-- none of these moves is one of those
NoneOf : Plain → Plain → Type 0
NoneOf x none = Unit {0}
NoneOf x (more m l b r) = (place_from 0 m x ≡ None) × NoneOf x r

record Varied (s : PlainStudy) (f : Plain) (path : List ℕ) (x : Plain) (rest t : List ℕ) (from : ℕ) (ws : List Waiting) (o : Option Stipulation)
    (g : GameRead) : Type 0 where
  back : List ℕ
  same : Same rest back
  reached : Reached t back (on_tree s (put f path x)) (path ++ 0 ∷ []) from ws o g

abbrev pub FollowOk : Forest Mark → Type 0
FollowOk t = (s : PlainStudy) (f : Plain) (path : List ℕ) (st : Start) (from : ℕ) (ws : List Waiting) (o : Option Stipulation) (d : ℕ) (rest text : List ℕ)
    → Node s f path st → IsPlayable st.position (without_marks t) → AreDistinct (without_marks t) → Limits f path none (without_marks t) from ws d
    → Same (continuation_text st t ++ rest) text → (g : GameRead) → At (on_tree s (put f path none)) path from ws o g
    → Followed s f path (without_marks t) rest text from ws o g

abbrev VaryOk : Forest Mark → Type 0
VaryOk t = (s : PlainStudy) (f : Plain) (path : List ℕ) (st : Start) (from : ℕ) (ws : List Waiting) (o : Option Stipulation) (d : ℕ) (x : Plain)
    (rest text : List ℕ)
    → Node s f path st → IsPlayable st.position (without_marks t) → AreDistinct (without_marks t) → NoneOf x (without_marks t)
    → Limits f path x (without_marks t) from ws d
    → Same (variations st t ++ rest) text → (g : GameRead) → At (on_tree s (put f path x)) (path ++ 0 ∷ []) from ws o g
    → Varied s f path (beside x (without_marks t)) rest text from ws o g

depth_some : (d : ℕ) (m : Move) (b r : Plain) → IsWithin d (more m tt b r) → (e : ℕ) × (d ≡ suc e) × IsWithin e b × IsWithin d r
depth_some zero m b r h = absurd h
depth_some (suc e) m b r h = (e, refl, h.0, h.1)

others_none : (x : Plain) (n : Move) (b r : Plain) → NoneOf x r → AreOthers n r → NoneOf (beside x (more n tt b none)) r
unfolding NoneOf
others_none x n b none h k = tt
others_none x n b (more m l c r) h k =
    (beside_place x 0 m n b h.0 (false_from_ne_true (same_move m n) (λ e. k.0 (sym (same_move-one m n e)))), others_none x n b r h.1 k.1)

one_place : (m n : Move) → same_move n m ≡ false → place_from 0 n (more m (tt {0}) none none) ≡ None
one_place m n e = rw e refl

first_others : (m : Move) (r : Plain) → AreOthers m r → NoneOf (more m tt none none) r
unfolding NoneOf
first_others m none h = tt
first_others m (more n l b r) h = (one_place m n (false_from_ne_true (same_move n m) (λ e. h.0 (sym (same_move-one n m e)))), first_others m r h.1)

-- the child of a node that was just made
child_node : (s : PlainStudy) (f : Plain) (path : List ℕ) (st : Start) (x : Plain) (k : ℕ) (m : Move) → Node s f path st → is_legal st.position m ≡ true
    → length path < 256 → has_node x (k ∷ []) ≡ true → moves_to x (k ∷ []) ≡ m ∷ [] → Node s (put f path x) (path ++ k ∷ []) (start_after st m)
unfolding start_after
child_node s f path st x k m node legal depth has moves = record {
  here = put_has x f path (k ∷ []) node.here ∙ has;
  position = ap (position_after s.start.position) (put_moves x f path (k ∷ []) node.here ∙ ap (λ (ms : List Move). moves_to f path ++ ms) moves)
      ∙ position_on s.start.position (moves_to f path) (m ∷ []) ∙ ap (λ (p : Position). after p m) node.position;
  valid = IsValid-after st.position m node.valid legal;
  counted = subst (λ (n : ℕ). Counted s.start n (start_after st m)) (sym (length-append path (k ∷ [])))
      (counted_on s.start (length path) st m node.counted legal depth);
}

follow_none : FollowOk none
follow_none s f path st from ws o d rest text node playable distinct limits h g at = record {
  back = text;
  same = h;
  way = [];
  reached = record {
    next = g;
    goes = λ fresh. (fresh, refl);
    at = subst (λ (p : List ℕ). At (on_tree s (put f path none)) p from ws o g)
        (sym (append-nil path)) at;
  };
}

vary_none : VaryOk none
vary_none s f path st from ws o d x rest text node playable distinct apart limits h g at = record {
  back = text;
  same = h;
  reached = record {
    next = g;
    goes = λ fresh. (fresh, refl);
    at = subst (λ (y : Plain). At (on_tree s (put f path y)) (path ++ 0 ∷ []) from ws o g)
        (sym (beside_none x)) at;
  };
}

-- one after the other
joined : (t mid rest : List ℕ) (s u : PlainStudy) (p q : List ℕ) (b c : ℕ) (ws vs : List Waiting) (o : Option Stipulation) (g : GameRead)
    (r : Reached t mid s p b ws o g)
    → Reached mid rest u q c vs o r.next → Reached t rest u q c vs o g
joined t mid rest s u p q b c ws vs o g r k =
    record { next = k.next; goes = λ fresh. let x = r.goes fresh in let y = k.goes x.0 in (y.0, x.1 ∙ y.1); at = k.at }

-- the same with another name for the text, the tree or the path
renamed : (t u rest : List ℕ) (s : PlainStudy) (x y : Plain) (p q : List ℕ) (b : ℕ) (ws : List Waiting) (o : Option Stipulation) (g : GameRead) → t ≡ u
    → x ≡ y → p ≡ q
    → Reached u rest (on_tree s x) p b ws o g → Reached t rest (on_tree s y) q b ws o g
renamed t u rest s x y p q b ws o g e f h r =
    subst (λ (z : List ℕ). Reached z rest (on_tree s y) q b ws o g) (sym e)
    (subst (λ (z : Plain). Reached u rest (on_tree s z) q b ws o g) f (subst (λ (z : List ℕ). Reached u rest (on_tree s x) z b ws o g) h r))

pub restated : (s : PlainStudy) (x y : Plain) (p q : List ℕ) (b : ℕ) (ws : List Waiting) (o : Option Stipulation) (g : GameRead) → x ≡ y → p ≡ q
    → At (on_tree s x) p b ws o g → At (on_tree s y) q b ws o g
restated s x y p q b ws o g e f at = subst (λ (z : Plain). At (on_tree s z) q b ws o g) e (subst (λ (z : List ℕ). At (on_tree s x) z b ws o g) f at)

start_position : (st : Start) (m : Move) → (start_after st m).position ≡ after st.position m
unfolding start_after
start_position st m = refl

module _ (m : Move) (mark : Mark) (b r : Forest Mark) (fb : FollowOk b) (vr : VaryOk r) where
  follow_more : FollowOk (more m mark b r)
  follow_more s f path st from ws o d rest text node playable distinct limits h g at =
      let next = start_after st m in
      let v = variations st r in
      let fo = continuation_text next b in
      let w = words_of_move st m mark in
      let cut = space_cut (w ++ (v ++ (fo ++ rest))) text (subst (λ (y : List ℕ). Same y text) (cut_line w v fo rest) h) in
      let dd = depth_some d m (without_marks b) (without_marks r) limits.within in
      let deep = limits.deep in
      let room = limits.room in
      let few = limits.few in
      let old = put f path none in
      let y = more m tt none (without_marks r) in
      let f2 = put f path y in
      let q = path ++ 0 ∷ [] in
      let longer : length q ≡ length path + 1 = length-append path (0 ∷ []) in
      let r1 = gap_step (on_tree s old) path from ws o g at cut.byte cut.back cut.gap in
      let mv = words_move s f path st node from ws o none m mark (v ++ (fo ++ rest)) cut.back playable.0 refl (omega (arith, dd.1)) (omega arith) cut.rest
      r1.next r1.at in
      let one = put_nodes (more m tt none none) f path node.here in
      let vl : Limits f path (more m tt none none) (without_marks r) from ws d = record {
        deep = deep;
        within = dd.3;
        room = omega arith;
        begun = limits.begun;
        few = few;
      } in
      let va = vr s f path st from ws o d (more m tt none none) (fo ++ rest) mv.back node playable.2 distinct.2 (first_others m (without_marks r) distinct.0) vl
      mv.same mv.reached.next mv.reached.at in
      let tree1 : put f path (beside (more m tt none none) (without_marks r)) ≡ f2 = ap (put f path) (first_beside m (without_marks r)) in
      let hole : f2 ≡ put f2 q none = sym (put_put y f path (0 ∷ []) none node.here ∙ ap (put f path) (first_put m (without_marks r) none)) in
      let child = child_node s f path st y 0 m node playable.0 (omega (arith, dd.1)) refl refl in
      let many = put_nodes y f path node.here in
      let same_nodes : nodes_in (put f2 q none) ≡ nodes_in f2 = ap (λ (z : Plain). nodes_in z) (sym hole) in
      let begun = limits.begun in
      let fl : Limits f2 q none (without_marks b) from ws dd.0 = record {
        deep = omega (arith, dd.1);
        within = dd.2;
        room = omega arith;
        begun = omega arith;
        few = omega arith;
      } in
      let fo2 = fb s f2 q next from ws o dd.0 rest va.back child (subst (λ (p : Position). IsPlayable p (without_marks b))
      (sym (start_position st m)) playable.1)
      distinct.1 fl va.same
      va.reached.next (restated s (put f path (beside (more m tt none none) (without_marks r))) (put f2 q none) q q from ws o va.reached.next
      (tree1 ∙ hole) refl
      va.reached.at) in
      let last : put f2 q (without_marks b) ≡ put f path (more m tt (without_marks b) (without_marks r)) =
      put_put y f path (0 ∷ []) (without_marks b) node.here ∙ ap (put f path) (first_put m (without_marks r) (without_marks b)) in
      let tail = joined mv.back va.back fo2.back (on_tree s (put f path (beside (more m tt none none) (without_marks r))))
      (on_tree s (put f2 q (without_marks b))) q (q
      ++ fo2.way) from from ws ws o mv.reached.next va.reached fo2.reached in
      let middle = joined cut.back mv.back fo2.back (on_tree s (put f path (more m tt none none))) (on_tree s (put f2 q (without_marks b))) q
      (q ++ fo2.way) from
      from ws ws o r1.next mv.reached tail in
      let whole = joined (cut.byte ∷ cut.back) cut.back fo2.back (on_tree s old) (on_tree s (put f2 q (without_marks b))) path
      (q ++ fo2.way) from from ws ws o g r1
      middle in
      record {
        back = fo2.back;
        same = fo2.same;
        way = 0 ∷ fo2.way;
        reached = renamed text (cut.byte ∷ cut.back) fo2.back s (put f2 q (without_marks b))
            (put f path (more m tt (without_marks b) (without_marks r))) (q ++ fo2.way) (path
            ++ (0 ∷ fo2.way)) from ws o g
            cut.text last (append_assoc path (0 ∷ []) fo2.way) whole;
      }
    where
      cut_line : (a b c d : List ℕ) → (32 ∷ (a ++ (b ++ c))) ++ d ≡ 32 ∷ (a ++ (b ++ (c ++ d)))
      cut_line a b c d = simp append_assoc

-- a piece of text was read
record Piece (text rest : List ℕ) (s : PlainStudy) (path : List ℕ) (from : ℕ) (ws : List Waiting) (o : Option Stipulation) (g : GameRead) : Type 0 where
  back : List ℕ
  same : Same rest back
  reached : Reached text back s path from ws o g

abbrev waits : ℕ → Waiting
waits from = record { replaced = 0; begun = from }

opened : (u : PlainStudy) (path : List ℕ) (from : ℕ) (ws : List Waiting) (o : Option Stipulation) (rest text : List ℕ) → from ≤ length path → length ws < 256
    → Same (32 ∷ 40 ∷ rest) text → (g : GameRead) → At u (path ++ 0 ∷ []) from ws o g → Piece text rest u path (length path) (waits from ∷ ws) o g
opened u path from ws o rest text le few h g at =
    let cut = space_cut (40 ∷ rest) text h in
    let begin = word_cut (40 ∷ []) rest cut.back (omega arith, omega arith, tt) cut.rest in
    let q = path ++ 0 ∷ [] in
    let gap = gap_step u q from ws o g at cut.byte cut.back cut.gap in
    let open_line = open_step u path 0 from ws o gap.next gap.at begin.back le few in
    record {
      back = begin.back;
      same = begin.rest;
      reached = text_is u path (length path) (waits from ∷ ws) o g text (cut.byte ∷ cut.back) begin.back cut.text
          (joined (cut.byte ∷ cut.back) cut.back begin.back u u q path from (length path) ws (waits from ∷ ws) o g gap
          (text_is u path (length path) (waits from ∷ ws) o gap.next cut.back (40 ∷ begin.back) begin.back begin.text open_line));
    }

ended : (u : PlainStudy) (path : List ℕ) (k : ℕ) (way : List ℕ) (from : ℕ) (ws : List Waiting) (o : Option Stipulation) (rest text : List ℕ)
    → Same (41 ∷ rest) text
    → (g : GameRead) → At u ((path ++ k ∷ []) ++ way) (length path) (waits from ∷ ws) o g → Piece text rest u (path ++ 0 ∷ []) from ws o g
ended u path k way from ws o rest text h g at =
    let cut = word_cut (41 ∷ []) rest text (omega arith, omega arith, tt) h in
    let close_line = close_step u ((path ++ k ∷ []) ++ way) (length path) (waits from) ws o g at cut.back in
    let back_to : take (length path) ((path ++ k ∷ []) ++ way) ++ 0 ∷ [] ≡ path ++ 0 ∷ [] =
    ap (λ (z : List ℕ). z ++ 0 ∷ []) (ap (take (length path)) (append_assoc path (k ∷ []) way) ∙ take_at path (k ∷ way) (length path) refl) in
    record {
      back = cut.back;
      same = cut.rest;
      reached = text_is u (path ++ 0 ∷ []) from ws o g text (41 ∷ cut.back) cut.back cut.text
          (subst (λ (p : List ℕ). Reached (41 ∷ cut.back) cut.back u p from ws o g) back_to close_line);
    }

-- the text after the move of a variation was read
record Body (s : PlainStudy) (t : Plain) (path : List ℕ) (k : ℕ) (rest text : List ℕ) (ws : List Waiting) (o : Option Stipulation) (g : GameRead) : Type 0 where
  way : List ℕ
  piece : Piece text rest (on_tree s t) ((path ++ k ∷ []) ++ way) (length path) ws o g

module _ (m : Move) (mark : Mark) (b : Forest Mark) (fb : FollowOk b) (s : PlainStudy) (f : Plain) (path : List ℕ) (st : Start) (node : Node s f path st)
    (legal : is_legal st.position m ≡ true) (playable : IsPlayable (after st.position m) (without_marks b)) (distinct : AreDistinct (without_marks b)) (d : ℕ)
    (deep : length path + suc d ≡ 256) (within : IsWithin d (without_marks b)) (ws : List Waiting) (few : length ws ≤ length path + 1) (o : Option Stipulation)
    (x : Plain) (new : place_from 0 m x ≡ None) (room : nodes_in (put f path x) + nodes_in (without_marks b) + 2 ≤ 4096) where
  -- after the move
  behind_move : (rest text : List ℕ) → Same (continuation_text (start_after st m) b ++ rest) text → (g : GameRead)
      → At (on_tree s (put f path (with_last m tt x))) (path ++ width x ∷ []) (length path) ws o g
      → Body s (put f path (beside x (more m tt (without_marks b) none))) path (width x) rest text ws o g
  behind_move rest text h g at =
      let y = with_last m tt x in
      let k = width x in
      let q = path ++ k ∷ [] in
      let f2 = put f path y in
      let longer : length q ≡ length path + 1 = length-append path (k ∷ []) in
      let hole : f2 ≡ put f2 q none = sym (put_put y f path (k ∷ []) none node.here ∙ ap (put f path) (last_put x m none ∙ sym (last_is x m))) in
      let counts = put_nodes y f path node.here in
      let most = put_nodes x f path node.here in
      let more_nodes = last_nodes x m in
      let same_nodes : nodes_in (put f2 q none) ≡ nodes_in f2 = ap (λ (z : Plain). nodes_in z) (sym hole) in
      let limits : Limits f2 q none (without_marks b) (length path) ws d = record {
        deep = omega arith;
        within = within;
        room = omega arith;
        begun = omega arith;
        few = omega arith;
      } in
      let child = child_node s f path st y k m node legal (omega arith) (last_has x m) (last_moves x m) in
      let r = fb s f2 q (start_after st m) (length path) ws o d rest text child
      (subst (λ (p : Position). IsPlayable p (without_marks b)) (sym (start_position st m)) playable) distinct
      limits h g (restated s f2 (put f2 q none) q q (length path) ws o g hole refl at) in
      let made : put f2 q (without_marks b) ≡ put f path (beside x (more m tt (without_marks b) none)) =
      put_put y f path (k ∷ []) (without_marks b) node.here ∙ ap (put f path) (last_put x m (without_marks b)) in
      record {
        way = r.way;
        piece = record {
          back = r.back;
          same = r.same;
          reached = subst (λ (z : Plain). Reached text r.back (on_tree s z) (q ++ r.way) (length path) ws o g)
              made r.reached;
        };
      }

  body_read : (rest text : List ℕ) → Same (words_of_move st m mark ++ (continuation_text (start_after st m) b ++ rest)) text → (g : GameRead)
      → At (on_tree s (put f path x)) path (length path) ws o g → Body s (put f path (beside x (more m tt (without_marks b) none))) path
      (width x) rest text ws o g
  body_read rest text h g at =
      let mv = words_move s f path st node (length path) ws o x m mark (continuation_text (start_after st m) b ++ rest) text legal new (omega arith)
      (omega arith) h g
      at in
      let r = behind_move rest mv.back mv.same mv.reached.next mv.reached.at in
      record {
        way = r.way;
        piece = record {
          back = r.piece.back;
          same = r.piece.same;
          reached = joined text mv.back r.piece.back (on_tree s (put f path (with_last m tt x)))
              (on_tree s (put f path (beside x (more m tt (without_marks b) none)))) (path ++ width x ∷ [])
              ((path ++ width x ∷ []) ++ r.way) (length path) (length path) ws ws o g mv.reached r.piece.reached;
        };
      }

  -- a whole variation
  variation_read : (from : ℕ) (vs : List Waiting) (rest text : List ℕ) → ws ≡ waits from ∷ vs → from ≤ length path → length vs < 256
      → Same (32 ∷ 40 ∷ (words_of_move st m mark ++ (continuation_text (start_after st m) b ++ (41 ∷ rest)))) text → (g : GameRead)
      → At (on_tree s (put f path x)) (path ++ 0 ∷ []) from vs o g
      → Piece text rest (on_tree s (put f path (beside x (more m tt (without_marks b) none)))) (path ++ 0 ∷ []) from vs o g
  variation_read from vs rest text is le small h g at =
      let w = words_of_move st m mark ++ (continuation_text (start_after st m) b ++ (41 ∷ rest)) in
      let old = on_tree s (put f path x) in
      let new_tree = on_tree s (put f path (beside x (more m tt (without_marks b) none))) in
      let a = opened old path from vs o w text le small h g at in
      let c = body_read (41 ∷ rest) a.back a.same a.reached.next (subst (λ (z : List Waiting). At old path (length path) z o a.reached.next) (sym is)
      a.reached.at) in
      let e = ended new_tree path (width x) c.way from vs o rest c.piece.back c.piece.same c.piece.reached.next
      (subst (λ (z : List Waiting). At new_tree ((path ++ width x ∷ []) ++ c.way) (length path) z o c.piece.reached.next) is c.piece.reached.at) in
      record {
        back = e.back;
        same = e.same;
        reached = record {
          next = e.reached.next;
          goes = λ fresh. let i = a.reached.goes fresh in let j = c.piece.reached.goes i.0 in let k = e.reached.goes j.0 in (k.0, i.1 ∙ (j.1 ∙ k.1));
          at = e.reached.at;
        };
      }

module _ (m : Move) (mark : Mark) (b r : Forest Mark) (fb : FollowOk b) (vr : VaryOk r) where
  vary_more : VaryOk (more m mark b r)
  unfolding NoneOf
  vary_more s f path st from ws o d x rest text node playable distinct apart limits h g at =
      let dd = depth_some d m (without_marks b) (without_marks r) limits.within in
      let deep = limits.deep in
      let room = limits.room in
      let few = limits.few in
      let begun = limits.begun in
      let v = variations st r in
      let most = put_nodes x f path node.here in
      let piece = variation_read m mark b fb s f path st node playable.0 playable.1 distinct.1 dd.0 (omega (arith, dd.1)) dd.2 (waits from ∷ ws) (omega arith)
      o x apart.0 (omega arith)
      from ws (v ++ rest) text refl begun (omega (arith, dd.1))
      (subst (λ (y : List ℕ). Same y text) (cut_line (words_of_move st m mark) (continuation_text (start_after st m) b) v rest) h) g at in
      let done = beside x (more m tt (without_marks b) none) in
      let count_b = put_nodes done f path node.here in
      let count_done = beside_nodes x (more m tt (without_marks b) none) in
      let vl : Limits f path done (without_marks r) from ws d = record { deep = deep; within = dd.3; room = omega arith; begun = begun; few = few } in
      let va = vr s f path st from ws o d done rest piece.back node playable.2 distinct.2
      (others_none x m (without_marks b) (without_marks r) apart.1 distinct.0) vl
      piece.same
      piece.reached.next piece.reached.at in
      record {
        back = va.back;
        same = va.same;
        reached = subst (λ (z : Plain). Reached text va.back (on_tree s (put f path z)) (path ++ 0 ∷ []) from ws o g)
            (beside_assoc x m (without_marks b) (without_marks r))
            (joined text piece.back va.back (on_tree s (put f path done)) (on_tree s (put f path (beside done (without_marks r)))) (path ++ 0 ∷ [])
            (path ++ 0 ∷ [])
            from from ws ws o g
            piece.reached va.reached);
      }
    where
      cut_line : (a b c d : List ℕ) → (32 ∷ 40 ∷ (a ++ (b ++ (41 ∷ c)))) ++ d ≡ 32 ∷ 40 ∷ (a ++ (b ++ (41 ∷ (c ++ d))))
      cut_line a b c d = simp append_assoc

read_forest : (t : Forest Mark) → FollowOk t × VaryOk t
read_forest none = (follow_none, vary_none)
read_forest (more m mark b r) =
    let x = read_forest b in
    let y = read_forest r in
    (follow_more m mark b r x.0 y.1, vary_more m mark b r x.0 y.1)

pub follow_read : (t : Forest Mark) → FollowOk t
follow_read t = (read_forest t).0

-- Studies that are written into one file are cut apart again as they were written.
use Rattle.std.proofs.Common.{◌≡◌, ℕ, zero, suc, ◌+◌, ◌<◌, ◌≤◌, Bool, true, false, not, List, [], ◌∷◌, ◌++◌, length, drop, map, Option, Some, None}
use Rattle.std.proofs.Common.{refl, sym, ap, subst, ◌∙◌, ◌⊎◌, inl, inr, arith, length-append, append_assoc}
use Rattle.std.specs.Prelude.{◌*◌, ◌==◌, ◌&&◌, ◌||◌, min, nat_le, codes, if◌then◌else◌}
use Rattle.std.specs.List.{list_all, flat_map, prefix_len, AllByRecursion}
use Rattle.std.proofs.lemmas.Bool.{cases_Bool, ne_eqb, le-leb, lt-leb, leb-true, and_from, and_parts}
use Rattle.std.proofs.lemmas.List.{append-nil}
use Rattle.std.proofs.lemmas.List.Folds.{list_all-append}
use Rattle.study_text.specs.Words.{words}
use Rattle.study_notation.specs.FenSpelling.{fen_text}
use Rattle.study_values.specs.declared.value.Value.{Value}
use Rattle.study_values.specs.declared.value.Value.TheVariants.{Win, Loss, Draw}
use Rattle.study_board.specs.declared.men.Side.{Side}
use Rattle.study_board.specs.declared.men.Side.TheVariants.{White, Black}
use Rattle.study_board.specs.Men.{other_side}
use Rattle.study_marks.specs.declared.mark.Mark.{Mark}
use Rattle.study_marks.specs.declared.tag.TagName.TheVariants as name_of
use Rattle.study_marks.specs.Study.{Study, tag_of}
use Rattle.study_marks.specs.Edits.{PlainStudy, is_printable}
use Rattle.study_pgn.specs.Values.{win_of, result_text}
use Rattle.study_pgn.specs.Tags.{with_backslash, tag_line, text_or_unknown}
use Rattle.study_pgn.specs.Pgn.{movetext, pgn_text}
use Rattle.study_pgn.specs.Wrap.{lines_text}
use Rattle.study_games.specs.Bytes.{is_blank, is_gap, is_letter, is_name_byte}
use Rattle.study_games.specs.Tokens.{front, behind}
use Rattle.study_games.specs.declared.games.LineKind.{LineKind}
use Rattle.study_games.specs.declared.games.LineKind.TheVariants.{Silent, Tag, EventTag, Moves}
use Rattle.study_games.specs.declared.games.Seen.{Seen}
use Rattle.study_games.specs.Games.{Game, Begun, with_byte, lines_behind, begins_value, name_of as name_in, name_in_brackets, tag_name, is_remark, kind_named}
use Rattle.study_games.specs.Games.{kind_of, begins_game, seen_then, with_bytes, with_line, begun_by, first_line, one_more, without_mark}
use Rattle.study_games.specs.Games.{taken_to, game_at_hand, games_from, games_of}
use Rattle.study_import.specs.Imported.{all_games}
use Rattle.study_import.specs.Meant.{studies_of_game}
use Rattle.study_import.specs.Written.{CanBeMade, unmarked_study, AreFilesReadBack}
use Rattle.study_import.proofs.Ink.{all_print}
use Rattle.study_import.proofs.Spelling.{fen_is}
use Rattle.study_import.proofs.HeaderRead.{Named, written}
use Rattle.study_import.proofs.PlainText.{is_plain, plain_append, lines_piece}
use Rattle.study_import.proofs.RoundTrip.{Prints, tag_texts_are, start_read, result_prints, text_behind, header_is, opened, read_back}

-- ---- lines

longer_is : (line : List ℕ) (b : ℕ) → length line ≤ 1048579 → with_byte line b ≡ line ++ b ∷ []
longer_is line b le = rw (lt-leb 1048580 (length line) (omega (arith, le))) refl

abbrev no_feed : ℕ → Bool
no_feed b = not (b == 10)

-- a line that is written out
line_cut : (line xs rest : List ℕ) → list_all no_feed xs ≡ true → length line + length xs ≤ 1048579
    → lines_behind line (xs ++ 10 ∷ rest) ≡ (line ++ (xs ++ 10 ∷ [])) ∷ lines_behind [] rest
line_cut line [] rest h le = ap (λ (l : List ℕ). l ∷ lines_behind [] rest) (longer_is line 10 (omega (arith, le)))
line_cut line (x ∷ xs) rest h le =
    let a = and_parts (no_feed x) (list_all no_feed xs) h in
    elim (cases_Bool (x == 10)) [
      | inl feed ↦ absurd (no_both (x == 10) feed a.0)
      | inr other ↦
          rw other
          (ap (λ (l : List ℕ). lines_behind l (xs ++ 10 ∷ rest)) (longer_is line x (omega (arith, le)))
          ∙ line_cut (line ++ x ∷ []) xs rest a.1 (omega (arith, le, length-append line (x ∷ [])))
          ∙ ap (λ (l : List ℕ). l ∷ lines_behind [] rest) (append_assoc line (x ∷ []) (xs ++ 10 ∷ [])))
    ]
  where
    no_both : (b : Bool) → b ≡ true → not b ≡ true → ⊥
    no_both true e h = absurd cc
    no_both false e h = absurd cc

-- ---- a line without a quotation mark begins no game

plain_drop : (n : ℕ) (xs : List ℕ) → list_all is_plain xs ≡ true → list_all is_plain (drop n xs) ≡ true
plain_drop zero xs h = h
plain_drop (suc n) [] h = refl
plain_drop (suc n) (x ∷ xs) h = plain_drop n xs (and_parts (is_plain x) (list_all is_plain xs) h).1

no_value : (xs : List ℕ) → list_all is_plain xs ≡ true → begins_value xs ≡ false
no_value [] h = refl
no_value (b ∷ bs) h = not_first (b == 34) (b == 239) (and_parts (is_plain b) (list_all is_plain bs) h).0
  where
    not_first : (x y : Bool) → not (x || y) ≡ true → x ≡ false
    not_first true y e = absurd cc
    not_first false y e = refl

no_name : (xs : List ℕ) → list_all is_plain xs ≡ true → name_in xs ≡ None
no_name [] h = refl
no_name (b ∷ bs) h =
    let rest = behind is_name_byte (b ∷ bs) in
    let none = no_value (behind is_gap rest) (plain_drop (prefix_len is_gap rest) rest (plain_drop (prefix_len is_name_byte (b ∷ bs)) (b ∷ bs) h)) in
    by (is_letter b) (begins_value (behind is_gap rest)) (front is_name_byte (b ∷ bs)) none
  where
    by : (x y : Bool) (name : List ℕ) → y ≡ false → (if x && y then Some name else None) ≡ None
    by true y name e = rw e refl
    by false y name e = refl

no_bracket : (xs : List ℕ) → list_all is_plain xs ≡ true → name_in_brackets xs ≡ None
no_bracket [] h = refl
no_bracket (b ∷ bs) h = by (b == 91) (name_in (behind is_gap bs))
    (no_name (behind is_gap bs) (plain_drop (prefix_len is_gap bs) bs (and_parts (is_plain b) (list_all is_plain bs) h).1))
  where
    by : (x : Bool) (o : Option (List ℕ)) → o ≡ None → (if x then o else None) ≡ None
    by true o e = e
    by false o e = refl

no_tag : (line : List ℕ) → list_all is_plain line ≡ true → tag_name line ≡ None
unfolding tag_name
no_tag line h = no_bracket (behind is_gap line) (plain_drop (prefix_len is_gap line) line h)

quiet : (s : Seen) (line : List ℕ) → list_all is_plain line ≡ true → begins_game s (kind_of line) ≡ false
unfolding kind_of
quiet s line h =
    ap (λ (o : Option (List ℕ)). begins_game s (if is_remark line then Silent else kind_named line o)) (no_tag line h)
    ∙ by (is_remark line) (list_all is_blank line)
  where
    by : (x y : Bool) → begins_game s (if x then Silent else (if y then Silent else Moves)) ≡ false
    by true y = refl
    by false true = refl
    by false false = refl

-- ---- a line and the current game

bytes_kept : (o : Option (List ℕ)) (t line : List ℕ) → o ≡ Some t → length t + length line ≤ 1048576 → with_bytes o line ≡ Some (t ++ line)
bytes_kept o t line is le = ap (λ (x : Option (List ℕ)). with_bytes x line) is ∙ rw (le-leb (length t + length line) 1048576 le) refl

behind_one : (n : ℕ) → 1 ≤ n → 2 ≤ one_more n
behind_one n le = at_most (n + 1) 4294967295 (omega (arith, le)) (omega arith)
  where
    at_most : (m k : ℕ) → 2 ≤ m → 2 ≤ k → 2 ≤ min m k
    at_most m k h e = omega (arith, h, e)

-- a line that does not begin with the first byte of a byte order mark is kept
unmarked : (b : ℕ) (bs : List ℕ) → (b == 239) ≡ false → without_mark (b ∷ bs) ≡ b ∷ bs
unmarked b [] e = refl
unmarked b (c ∷ []) e = refl
unmarked b (c ∷ d ∷ bs) e = rw e refl

plain_unmarked : (line : List ℕ) → list_all is_plain line ≡ true → without_mark line ≡ line
plain_unmarked [] h = refl
plain_unmarked (b ∷ bs) h = unmarked b bs (not_second (b == 34) (b == 239) (and_parts (is_plain b) (list_all is_plain bs) h).0)
  where
    not_second : (x y : Bool) → not (x || y) ≡ true → y ≡ false
    not_second true y e = absurd cc
    not_second false true e = absurd cc
    not_second false false e = refl

tag_unmarked : (name t : List ℕ) → without_mark (tag_line name t) ≡ tag_line name t
unfolding tag_line
tag_unmarked name t = unmarked 91 (name ++ (codes " \"" ++ (flat_map with_backslash t ++ codes "\"]\n"))) refl

-- a line that does not begin a game is added to the current game
line_added : (n : ℕ) (g : Begun) (line : List ℕ) (lines : List (List ℕ)) → without_mark line ≡ line → begins_game g.seen (kind_of line) ≡ false
    → games_from n (Some g) (line ∷ lines) ≡ games_from (one_more n) (Some (with_line g line (kind_of line))) lines
line_added n g line lines kept e =
    let next = λ (l : List ℕ). λ (begins : Bool).
    if begins then game_at_hand (Some g) ++ games_from (one_more n) (first_line n l (kind_of l)) lines else games_from (one_more n)
    (taken_to n (Some g) l (kind_of l)) lines in
    ap (λ (l : List ℕ). next l (begins_game g.seen (kind_of l))) kept ∙ ap (next line) e

-- a line of a tag Event begins the first game
game_begun : (n : ℕ) (line : List ℕ) (lines : List (List ℕ)) → without_mark line ≡ line → kind_of line ≡ EventTag
    → games_from n None (line ∷ lines) ≡ games_from (one_more n) (Some (begun_by n line EventTag)) lines
game_begun n line lines e k =
    ap (λ (l : List ℕ). games_from (one_more n) (first_line n l (kind_of l)) lines) e
    ∙ ap (λ (x : LineKind). games_from (one_more n) (first_line n line x) lines) k

-- and it ends a game that has moves
game_ended : (n : ℕ) (g : Begun) (line : List ℕ) (lines : List (List ℕ)) → without_mark line ≡ line → kind_of line ≡ EventTag → g.seen.moves ≡ true
    → games_from n (Some g) (line ∷ lines) ≡ g.game ∷ games_from n None (line ∷ lines)
game_ended n g line lines kept k moves =
    let next = λ (l : List ℕ). λ (x : LineKind).
    if begins_game g.seen x then game_at_hand (Some g) ++ games_from (one_more n) (first_line n l x) lines else games_from (one_more n)
    (taken_to n (Some g) l x) lines in
    let yes : begins_game g.seen EventTag ≡ true = rw moves refl in
    ap (λ (l : List ℕ). next l (kind_of l)) kept ∙ ap (next line) k
    ∙ ap (λ (b : Bool). if b then g.game ∷ games_from (one_more n) (first_line n line EventTag) lines else games_from (one_more n)
    (taken_to n (Some g) line EventTag) lines) yes
    ∙ ap (λ (gs : List Game). g.game ∷ gs) (sym (game_begun n line lines kept k))

-- ---- lines of moves

abbrev Brace : List ℕ → Type 0
Brace [] = ⊥
Brace (b ∷ bs) = b ≡ 123

abbrev HasMoves : Begun → List ℕ → Type 0
HasMoves g line = (g.seen.moves ≡ true) ⊎ Brace line

seen_kept : (s : Seen) (kind : LineKind) → s.moves ≡ true → (seen_then s kind).moves ≡ true
seen_kept s Silent e = e
seen_kept s Tag e = e
seen_kept s EventTag e = e
seen_kept s Moves e = refl

brace_moves : (s : Seen) (line : List ℕ) → Brace line → (seen_then s (kind_of line)).moves ≡ true
unfolding kind_of tag_name
brace_moves s [] h = absurd h
brace_moves s (b ∷ bs) h = subst (λ (x : ℕ). (seen_then s (kind_of (x ∷ bs))).moves ≡ true) (sym h) refl

then_moves : (g : Begun) (line : List ℕ) → HasMoves g line → (with_line g line (kind_of line)).seen.moves ≡ true
then_moves g line (inl e) = seen_kept g.seen (kind_of line) e
then_moves g line (inr h) = brace_moves g.seen line h

front_moves : (g : Begun) (line : List ℕ) (b : ℕ) (bs : List ℕ) → HasMoves g (line ++ b ∷ bs) → HasMoves g (line ++ b ∷ [])
front_moves g line b bs (inl e) = inl e
front_moves g [] b bs (inr h) = inr h
front_moves g (x ∷ xs) b bs (inr h) = inr h

-- the text of the current game and the game itself after some lines
record Behind (n : ℕ) (g : Begun) (lines : List (List ℕ)) (t rest : List ℕ) (moves : Bool) : Type 0 where
  next : ℕ
  late : 2 ≤ next
  at_hand : Begun
  text : at_hand.game.text ≡ Some t
  seen : at_hand.seen.moves ≡ moves
  is : games_from n (Some g) lines ≡ games_from next (Some at_hand) (lines_behind [] rest)

-- a line, and the rest
behind_line : (n : ℕ) (g : Begun) (t line : List ℕ) (lines : List (List ℕ)) (u rest : List ℕ) → 2 ≤ n → g.game.text ≡ Some t → list_all is_plain line ≡ true
    → length t + length line ≤ 1048576 → HasMoves g line
    → ((next : ℕ) (h : Begun) → 2 ≤ next → h.game.text ≡ Some (t ++ line) → h.seen.moves ≡ true → Behind next h lines u rest true)
    → Behind n g (line ∷ lines) u rest true
behind_line n g t line lines u rest late text plain few moves later =
    let h = with_line g line (kind_of line) in
    let r = later (one_more n) h (behind_one n (omega (arith, late))) (bytes_kept g.game.text t line text few) (then_moves g line moves) in
    record {
      next = r.next;
      late = r.late;
      at_hand = r.at_hand;
      text = r.text;
      seen = r.seen;
      is = line_added n g line lines (plain_unmarked line plain) (quiet g.seen line plain)
          ∙ r.is;
    }

moves_behind : (text : List ℕ) (n : ℕ) (g : Begun) (t line rest : List ℕ) → 2 ≤ n → g.game.text ≡ Some t → list_all is_plain (line ++ text) ≡ true
    → length t + (length line + length text) < 1048576 → HasMoves g (line ++ (text ++ 10 ∷ []))
    → Behind n g (lines_behind line (text ++ 10 ∷ rest)) (t ++ (line ++ (text ++ 10 ∷ []))) rest true
moves_behind [] n g t line rest late is plain few moves =
    subst (λ (l : List ℕ). Behind n g (l ∷ lines_behind [] rest) (t ++ (line ++ 10 ∷ [])) rest true) (sym (longer_is line 10 (omega (arith, few))))
    (behind_line n g t (line ++ 10 ∷ []) (lines_behind [] rest) (t ++ (line ++ 10 ∷ [])) rest late is
    (plain_append line (10 ∷ []) (ap (list_all is_plain) (sym (append-nil line)) ∙ plain) refl)
    (omega (arith, few, length-append line (10 ∷ []))) moves
    (λ next h two text seen. record { next = next; late = two; at_hand = h; text = text; seen = seen; is = refl }))
moves_behind (b ∷ bs) n g t line rest late is plain few moves =
    let wide = longer_is line b (omega (arith, few)) in
    let whole = append_assoc line (b ∷ []) (bs ++ 10 ∷ []) in
    let all : list_all is_plain ((line ++ b ∷ []) ++ bs) ≡ true = ap (list_all is_plain) (append_assoc line (b ∷ []) bs) ∙ plain in
    let parts = and_parts (list_all is_plain (line ++ b ∷ [])) (list_all is_plain bs) (sym (list_all-append is_plain (line ++ b ∷ []) bs) ∙ all) in
    elim (cases_Bool (b == 10)) [
      | inl feed ↦
          rw feed
          (subst (λ (l : List ℕ). Behind n g (l ∷ lines_behind [] (bs ++ 10 ∷ rest)) (t ++ (line ++ (b ∷ (bs ++ 10 ∷ [])))) rest true) (sym wide)
          (behind_line n g t (line ++ b ∷ []) (lines_behind [] (bs ++ 10 ∷ rest)) (t ++ (line ++ (b ∷ (bs ++ 10 ∷ [])))) rest late is parts.0
          (omega (arith, few, length-append line (b ∷ []))) (front_moves g line b (bs ++ 10 ∷ []) moves)
          (λ next h two text seen.
          subst (λ (u : List ℕ). Behind next h (lines_behind [] (bs ++ 10 ∷ rest)) u rest true)
          (append_assoc t (line ++ b ∷ []) (bs ++ 10 ∷ []) ∙ ap (λ (u : List ℕ). t ++ u) whole)
          (moves_behind bs next h (t ++ (line ++ b ∷ [])) [] rest two text parts.1
          (omega (arith, few, length-append t (line ++ b ∷ []), length-append line (b ∷ []))) (inl seen)))))
      | inr other ↦
          rw other
          (subst (λ (l : List ℕ). Behind n g (lines_behind l (bs ++ 10 ∷ rest)) (t ++ (line ++ (b ∷ (bs ++ 10 ∷ [])))) rest true) (sym wide)
          (subst (λ (u : List ℕ). Behind n g (lines_behind (line ++ b ∷ []) (bs ++ 10 ∷ rest)) (t ++ u) rest true) whole
          (moves_behind bs n g t (line ++ b ∷ []) rest late is all (omega (arith, few, length-append line (b ∷ [])))
          (subst (λ (u : List ℕ). HasMoves g u) (sym whole) moves))))
    ]

-- ---- lines of tags

-- a line of a tag without its line feed
record IsTagLine (p : Named) : Type 0 where
  line : List ℕ
  text : tag_line p.0 p.1 ≡ line ++ 10 ∷ []
  feeds : list_all no_feed line ≡ true
  few : length line ≤ 139

feeds_append : (xs ys : List ℕ) → list_all no_feed xs ≡ true → list_all no_feed ys ≡ true → list_all no_feed (xs ++ ys) ≡ true
feeds_append xs ys h k = list_all-append no_feed xs ys ∙ and_from (list_all no_feed xs) (list_all no_feed ys) h k

printed_feed : (b : ℕ) → is_printable b ≡ true → no_feed b ≡ true
printed_feed b h = let low : 32 ≤ b = leb-true 32 b (and_parts (nat_le 32 b) (nat_le b 126) h).0 in rw (ne_eqb b 10 (λ e. omega (arith, e, low))) refl

escaped_feeds : (t : List ℕ) → Prints t → list_all no_feed (flat_map with_backslash t) ≡ true
escaped_feeds [] h = refl
escaped_feeds (b ∷ t) h =
    let a = and_parts (is_printable b) (list_all is_printable t) h in
    feeds_append (with_backslash b) (flat_map with_backslash t) (by (b == 34 || b == 92) b (printed_feed b a.0)) (escaped_feeds t a.1)
  where
    by : (x : Bool) (b : ℕ) → no_feed b ≡ true → list_all no_feed (if x then 92 ∷ b ∷ [] else b ∷ []) ≡ true
    by true b e = rw e refl
    by false b e = rw e refl

escaped_few : (t : List ℕ) → length (flat_map with_backslash t) ≤ 2 * length t
escaped_few [] = omega arith
escaped_few (b ∷ t) = omega (arith, by (b == 34 || b == 92) b, length-append (with_backslash b) (flat_map with_backslash t), escaped_few t)
  where
    by : (x : Bool) (b : ℕ) → length (if x then 92 ∷ b ∷ [] else b ∷ []) ≤ 2
    by true b = omega arith
    by false b = omega arith

tag_line_is : (name t : List ℕ) → list_all no_feed name ≡ true → nat_le (length name) 6 ≡ true → Prints t → length t ≤ 60 → IsTagLine (name, t)
unfolding tag_line
tag_line_is name t feeds six prints few =
    let v = flat_map with_backslash t in record {
      line = codes "[" ++ (name ++ (codes " \"" ++ (v ++ codes "\"]")));
      text = regroup name v;
      feeds = feeds_append (codes "[") (name ++ (codes " \"" ++ (v ++ codes "\"]"))) refl
          (feeds_append name (codes " \"" ++ (v ++ codes "\"]")) feeds
          (feeds_append (codes " \"") (v ++ codes "\"]") refl (feeds_append v (codes "\"]") (escaped_feeds t prints) refl)));
      few = omega (
        arith,
        leb-true (length name) 6 six,
        few,
        escaped_few t,
        length-append name (codes " \"" ++ (v ++ codes "\"]")),
        length-append v (codes "\"]"),
      );
    }
  where
    regroup : (a b : List ℕ) → codes "[" ++ (a ++ (codes " \"" ++ (b ++ codes "\"]\n"))) ≡ (codes "[" ++ (a ++ (codes " \"" ++ (b ++ codes "\"]")))) ++ 10 ∷ []
    regroup a b = simp append_assoc

-- the first line of a text that begins with such a line
tag_cut : (p : Named) (rest : List ℕ) → IsTagLine p → lines_behind [] (tag_line p.0 p.1 ++ rest) ≡ tag_line p.0 p.1 ∷ lines_behind [] rest
tag_cut p rest h =
    ap (lines_behind []) (ap (λ (x : List ℕ). x ++ rest) h.text ∙ append_assoc h.line (10 ∷ []) rest) ∙ line_cut [] h.line rest h.feeds (omega (arith, h.few))
    ∙ ap (λ (x : List ℕ). x ∷ lines_behind [] rest) (sym h.text)

tag_length : (p : Named) → IsTagLine p → length (tag_line p.0 p.1) ≤ 140
tag_length p h = omega (arith, ap length h.text, length-append h.line (10 ∷ []), h.few)

abbrev IsOther : Named → Type 0
IsOther p = IsTagLine p × (kind_of (tag_line p.0 p.1) ≡ Tag)

tags_behind : (ps : List Named) (n : ℕ) (g : Begun) (t rest : List ℕ) → AllByRecursion IsOther ps → 2 ≤ n → g.game.text ≡ Some t → g.seen.moves ≡ false
    → length t + 140 * length ps ≤ 1048576 → Behind n g (lines_behind [] (written ps rest)) (t ++ written ps []) rest false
tags_behind [] n g t rest h late is seen few =
    record { next = n; late = late; at_hand = g; text = is ∙ ap (λ (x : List ℕ). Some x) (sym (append-nil t)); seen = seen; is = refl }
tags_behind (p ∷ ps) n g t rest h late is seen few =
    let line = tag_line p.0 p.1 in
    let long = tag_length p h.0.0 in
    let kept : begins_game g.seen (kind_of line) ≡ false = ap (begins_game g.seen) h.0.1 ∙ seen in
    let next = with_line g line (kind_of line) in
    let same : next.seen.moves ≡ false = ap (λ (k : LineKind). (seen_then g.seen k).moves) h.0.1 ∙ seen in
    let r = tags_behind ps (one_more n) next (t ++ line) rest h.1 (behind_one n (omega (arith, late)))
    (bytes_kept g.game.text t line is (omega (arith, few, long))) same
    (omega (arith, few, long, length-append t line)) in
    record {
      next = r.next;
      late = r.late;
      at_hand = r.at_hand;
      text = r.text ∙ ap (λ (x : List ℕ). Some x) (append_assoc t line (written ps []));
      seen = r.seen;
      is = ap (games_from n (Some g)) (tag_cut p (written ps rest) h.0.0) ∙ line_added n g line (lines_behind [] (written ps rest)) (tag_unmarked p.0 p.1) kept ∙ r.is;
    }

-- ---- the header of a study

event_kind : (t : List ℕ) → kind_of (tag_line (codes "Event") t) ≡ EventTag
unfolding kind_of tag_name tag_line
event_kind t = refl

site_kind : (t : List ℕ) → kind_of (tag_line (codes "Site") t) ≡ Tag
unfolding kind_of tag_name tag_line
site_kind t = refl

date_kind : (t : List ℕ) → kind_of (tag_line (codes "Date") t) ≡ Tag
unfolding kind_of tag_name tag_line
date_kind t = refl

round_kind : (t : List ℕ) → kind_of (tag_line (codes "Round") t) ≡ Tag
unfolding kind_of tag_name tag_line
round_kind t = refl

white_kind : (t : List ℕ) → kind_of (tag_line (codes "White") t) ≡ Tag
unfolding kind_of tag_name tag_line
white_kind t = refl

black_kind : (t : List ℕ) → kind_of (tag_line (codes "Black") t) ≡ Tag
unfolding kind_of tag_name tag_line
black_kind t = refl

result_kind : (t : List ℕ) → kind_of (tag_line (codes "Result") t) ≡ Tag
unfolding kind_of tag_name tag_line
result_kind t = refl

fen_kind : (t : List ℕ) → kind_of (tag_line (codes "FEN") t) ≡ Tag
unfolding kind_of tag_name tag_line
fen_kind t = refl

setup_kind : (t : List ℕ) → kind_of (tag_line (codes "SetUp") t) ≡ Tag
unfolding kind_of tag_name tag_line
setup_kind t = refl

won_few : (side : Side) → length (win_of side) ≤ 60
won_few White = omega arith
won_few Black = omega arith

result_few : (side : Side) (v : Value) → length (result_text side v) ≤ 60
result_few side Draw = omega arith
result_few side (Win n) = won_few side
result_few side (Loss n) = won_few (other_side side)

abbrev event_of : Study Mark → List ℕ
event_of s = text_or_unknown name_of.Event (tag_of s.tags name_of.Event)

-- the tags after Event
abbrev others : Study Mark → List Named
others s =
    (codes "Site", text_or_unknown name_of.Site (tag_of s.tags name_of.Site)) ∷ (codes "Date", text_or_unknown name_of.Date (tag_of s.tags name_of.Date))
    ∷ (codes "Round", text_or_unknown name_of.Round (tag_of s.tags name_of.Round))
    ∷ (codes "White", text_or_unknown name_of.White (tag_of s.tags name_of.White))
    ∷ (codes "Black", text_or_unknown name_of.Black (tag_of s.tags name_of.Black)) ∷ (codes "Result", result_text s.start.position.to_move s.tree.label.value)
    ∷ (codes "FEN", fen_text s.start) ∷ (codes "SetUp", codes "1") ∷ []

event_line : (s : Study Mark) → CanBeMade s → IsTagLine (codes "Event", event_of s)
event_line s c = let t = tag_texts_are s c name_of.Event in tag_line_is (codes "Event") (event_of s) refl refl t.prints t.few

others_are : (s : Study Mark) → CanBeMade s → AllByRecursion IsOther (others s)
others_are s c =
    let site = tag_texts_are s c name_of.Site in
    let date = tag_texts_are s c name_of.Date in
    let round = tag_texts_are s c name_of.Round in
    let white = tag_texts_are s c name_of.White in
    let black = tag_texts_are s c name_of.Black in
    let result = result_text s.start.position.to_move s.tree.label.value in
    let fen = fen_is s.start (start_read s c) in (
      (tag_line_is (codes "Site") (text_or_unknown name_of.Site (tag_of s.tags name_of.Site)) refl refl site.prints site.few, site_kind _),
      (
        (tag_line_is (codes "Date") (text_or_unknown name_of.Date (tag_of s.tags name_of.Date)) refl refl date.prints date.few, date_kind _),
        (
          (tag_line_is (codes "Round") (text_or_unknown name_of.Round (tag_of s.tags name_of.Round)) refl refl round.prints round.few, round_kind _),
          (
            (tag_line_is (codes "White") (text_or_unknown name_of.White (tag_of s.tags name_of.White)) refl refl white.prints white.few, white_kind _),
            (
              (tag_line_is (codes "Black") (text_or_unknown name_of.Black (tag_of s.tags name_of.Black)) refl refl black.prints black.few, black_kind _),
              (
                (
                  tag_line_is (codes "Result") result refl refl (result_prints s.start.position.to_move s.tree.label.value)
                      (result_few s.start.position.to_move s.tree.label.value),
                  result_kind _,
                ),
                (
                  (tag_line_is (codes "FEN") (fen_text s.start) refl refl (all_print (fen_text s.start) fen.prints) fen.few, fen_kind _),
                  ((tag_line_is (codes "SetUp") (codes "1") refl refl refl (omega arith), setup_kind _), tt),
                ),
              ),
            ),
          ),
        ),
      ),
    )

-- ---- a study

written_append : (ps : List Named) (a b : List ℕ) → written ps (a ++ b) ≡ written ps a ++ b
written_append [] a b = refl
written_append (p ∷ ps) a b =
    ap (λ (x : List ℕ). tag_line p.0 p.1 ++ x) (written_append ps a b) ∙ sym (append_assoc (tag_line p.0 p.1) (written ps a) b)

abbrev moves_of : Study Mark → List ℕ
moves_of s = lines_text (words (movetext s))

text_is : (s : Study Mark) → pgn_text s ≡ tag_line (codes "Event") (event_of s) ++ written (others s) (10 ∷ (moves_of s ++ 10 ∷ []))
unfolding text_behind
text_is s = header_is s

followed_is : (s : Study Mark) (rest : List ℕ) → pgn_text s ++ rest ≡ tag_line (codes "Event") (event_of s)
    ++ written (others s) (10 ∷ (moves_of s ++ 10 ∷ rest))
followed_is s rest =
    let behind = 10 ∷ (moves_of s ++ 10 ∷ []) in
    ap (λ (x : List ℕ). x ++ rest) (text_is s) ∙ append_assoc (tag_line (codes "Event") (event_of s)) (written (others s) behind) rest
    ∙ ap (λ (x : List ℕ). tag_line (codes "Event") (event_of s) ++ x)
    (sym (written_append (others s) behind rest) ∙ ap (λ (x : List ℕ). written (others s) (10 ∷ x)) (append_assoc (moves_of s) (10 ∷ []) rest))

-- an empty line
empty_behind : (n : ℕ) (g : Begun) (t more : List ℕ) (u rest : List ℕ) → 2 ≤ n → g.game.text ≡ Some t → g.seen.moves ≡ false → length t + 1 ≤ 1048576
    → ((next : ℕ) (h : Begun) → 2 ≤ next → h.game.text ≡ Some (t ++ 10 ∷ []) → h.seen.moves ≡ false → Behind next h (lines_behind [] more) u rest true)
    → Behind n g (lines_behind [] (10 ∷ more)) u rest true
unfolding kind_of tag_name
empty_behind n g t more u rest late text seen few later =
    let h = with_line g (10 ∷ []) (kind_of (10 ∷ [])) in
    let r = later (one_more n) h (behind_one n (omega (arith, late))) (bytes_kept g.game.text t (10 ∷ []) text (omega (arith, few))) seen in
    record {
      next = r.next;
      late = r.late;
      at_hand = r.at_hand;
      text = r.text;
      seen = r.seen;
      is = line_added n g (10 ∷ []) (lines_behind [] more) refl refl
          ∙ r.is;
    }

-- the first line, and the game after all lines
record CutOff (s : Study Mark) (n : ℕ) (rest : List ℕ) : Type 0 where
  next : ℕ
  late : 2 ≤ next
  at_hand : Begun
  text : at_hand.game.text ≡ Some (pgn_text s)
  seen : at_hand.seen.moves ≡ true
  is : games_from n None (lines_behind [] (pgn_text s ++ rest)) ≡ games_from next (Some at_hand) (lines_behind [] rest)

cut_off : (s : Study Mark) → CanBeMade s → (n : ℕ) (rest : List ℕ) → 1 ≤ n → CutOff s n rest
cut_off s c n rest one =
    let event = tag_line (codes "Event") (event_of s) in
    let line = event_line s c in
    let long = tag_length (codes "Event", event_of s) line in
    let piece = lines_piece s c in
    let o = opened s c in
    let more = moves_of s ++ 10 ∷ rest in
    let lines = lines_behind [] (written (others s) (10 ∷ more)) in
    let g = begun_by n event EventTag in
    let start : g.game.text ≡ Some event = bytes_kept (Some []) [] event refl (omega (arith, long)) in
    let header = tags_behind (others s) (one_more n) g event (10 ∷ more) (others_are s c) (behind_one n one) start refl (omega (arith, long)) in
    let head = event ++ written (others s) [] in
    let few : length head ≤ 1260 = header_few (others s) event (others_are s c) long in
    let whole : (head ++ 10 ∷ []) ++ (moves_of s ++ 10 ∷ []) ≡ pgn_text s =
    append_assoc head (10 ∷ []) (moves_of s ++ 10 ∷ []) ∙ append_assoc event (written (others s) []) (10 ∷ (moves_of s ++ 10 ∷ []))
    ∙ ap (λ (x : List ℕ). event ++ x) (sym (written_append (others s) [] (10 ∷ (moves_of s ++ 10 ∷ [])))) ∙ sym (text_is s) in
    let moves = empty_behind header.next header.at_hand head more ((head ++ 10 ∷ []) ++ (moves_of s ++ 10 ∷ [])) rest header.late header.text header.seen
    (omega (arith, few))
    (λ next h late text seen. moves_behind (moves_of s) next h (head ++ 10 ∷ []) [] rest late text piece.plain
    (omega (arith, few, piece.few, length-append head (10 ∷ []))) (inr (subst Brace (sym o.text) refl))) in
    record {
      next = moves.next;
      late = moves.late;
      at_hand = moves.at_hand;
      text = moves.text ∙ ap (λ (x : List ℕ). Some x) whole;
      seen = moves.seen;
      is = ap (λ (x : List ℕ). games_from n None (lines_behind [] x)) (followed_is s rest)
          ∙ ap (games_from n None) (tag_cut (codes "Event", event_of s) (written (others s) (10 ∷ more)) line)
          ∙ game_begun n event lines (tag_unmarked (codes "Event") (event_of s)) (event_kind (event_of s)) ∙ header.is ∙ moves.is;
    }
  where
    header_few : (ps : List Named) (t : List ℕ) → AllByRecursion IsOther ps → length t ≤ 140 → length (t ++ written ps []) ≤ 140 + 140 * length ps
    header_few ps t h le = omega (arith, length-append t (written ps []), le, few_in ps h)
      where
        few_in : (ps : List Named) → AllByRecursion IsOther ps → length (written ps []) ≤ 140 * length ps
        few_in [] h = omega arith
        few_in (p ∷ ps) h = omega (arith, tag_length p h.0.0, length-append (tag_line p.0 p.1) (written ps []), few_in ps h.1)

-- ---- a file

abbrev text_of : Game → Option (List ℕ)
text_of g = g.text

-- the current game ends at the beginning of the next study, or at the end of the file
ended_before : (ss : List (Study Mark)) (n : ℕ) (g : Begun) → AllByRecursion CanBeMade ss → 2 ≤ n → g.seen.moves ≡ true
    → games_from n (Some g) (lines_behind [] (flat_map pgn_text ss)) ≡ g.game ∷ games_from n None (lines_behind [] (flat_map pgn_text ss))
ended_before [] n g h late seen = refl
ended_before (s ∷ ss) n g h late seen =
    let rest = flat_map pgn_text ss in
    let event = tag_line (codes "Event") (event_of s) in
    let lines = lines_behind [] (written (others s) (10 ∷ (moves_of s ++ 10 ∷ rest))) in
    let cut : lines_behind [] (pgn_text s ++ rest) ≡ event ∷ lines =
    ap (lines_behind []) (followed_is s rest) ∙ tag_cut (codes "Event", event_of s) (written (others s) (10 ∷ (moves_of s ++ 10 ∷ rest))) (event_line s h.0) in
    ap (games_from n (Some g)) cut ∙ game_ended n g event lines (tag_unmarked (codes "Event") (event_of s)) (event_kind (event_of s)) seen
    ∙ ap (λ (ls : List (List ℕ)). g.game ∷ games_from n None ls) (sym cut)

all_cut : (ss : List (Study Mark)) (n : ℕ) → AllByRecursion CanBeMade ss → 1 ≤ n
    → map text_of (games_from n None (lines_behind [] (flat_map pgn_text ss))) ≡ map (λ s. Some (pgn_text s)) ss
all_cut [] n h one = refl
all_cut (s ∷ ss) n h one =
    let rest = flat_map pgn_text ss in
    let cut = cut_off s h.0 n rest one in
    ap (map text_of) (cut.is ∙ ended_before ss cut.next cut.at_hand h.1 cut.late cut.seen)
    ∙ ap (λ (o : Option (List ℕ)). o ∷ map text_of (games_from cut.next None (lines_behind [] rest))) cut.text
    ∙ ap (λ (os : List (Option (List ℕ))). Some (pgn_text s) ∷ os) (all_cut ss cut.next h.1 (omega (arith, cut.late)))

texts_cut : (ss : List (Study Mark)) → AllByRecursion CanBeMade ss → map text_of (games_of (flat_map pgn_text ss)) ≡ map (λ s. Some (pgn_text s)) ss
unfolding games_of
texts_cut ss h = all_cut ss 1 h (omega arith)

-- the study of each text
studies_of : (ss : List (Study Mark)) → AllByRecursion CanBeMade ss
    → map (studies_of_game (all_games None)) (map (λ s. Some (pgn_text s)) ss) ≡ map (λ s. Some (unmarked_study s) ∷ []) ss
studies_of [] h = refl
studies_of (s ∷ ss) h =
    ap (λ (o : List (Option PlainStudy)). o ∷ map (studies_of_game (all_games None)) (map (λ t. Some (pgn_text t)) ss)) (read_back s h.0)
    ∙ ap (λ (os : List (List (Option PlainStudy))). (Some (unmarked_study s) ∷ []) ∷ os) (studies_of ss h.1)

of_texts : (gs : List Game) → map (λ g. studies_of_game (all_games None) g.text) gs ≡ map (studies_of_game (all_games None)) (map text_of gs)
of_texts [] = refl
of_texts (g ∷ gs) = ap (λ (os : List (List (Option PlainStudy))). studies_of_game (all_games None) g.text ∷ os) (of_texts gs)

pub files_back : AreFilesReadBack
files_back ss h = record {
  texts = texts_cut ss h;
  studies = of_texts (games_of (flat_map pgn_text ss)) ∙ ap (map (studies_of_game (all_games None))) (texts_cut ss h) ∙ studies_of ss h;
}

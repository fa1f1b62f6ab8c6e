-- The text written for a study reads back as that study.
use Rattle.std.proofs.Common.{◌≡◌, ℕ, suc, ◌+◌, ◌<◌, ◌≤◌, Bool, true, false, not, List, [], ◌∷◌, ◌++◌, length, take, drop, map, Option, Some, None}
use Rattle.std.proofs.Common.{Result, Ok, refl, sym, ap, subst, ◌∙◌, inl, inr, arith, length-drop, append_assoc}
use Rattle.std.specs.Prelude.{◌==◌, ◌&&◌, nat_le, codes, decimal, if◌then◌else◌}
use Rattle.std.specs.List.{list_all, flat_map, prefix_len}
use Rattle.std.proofs.lemmas.Bool.{ne_eqb, le-leb, lt-leb, leb-true, and_parts}
use Rattle.std.proofs.lemmas.List.{take_all}
use Rattle.study_text.specs.Words.{is_space, words, begun_word}
use Rattle.study_board.specs.declared.men.Side.{Side}
use Rattle.study_board.specs.declared.men.Side.TheVariants.{White, Black}
use Rattle.study_board.specs.Men.{other_side}
use Rattle.study_notation.specs.declared.start.Start.{Start}
use Rattle.study_notation.specs.Fen.{start_of}
use Rattle.study_notation.specs.FenSpelling.{fen_text}
use Rattle.study_notation.proofs.FenAgain.{start_again}
use Rattle.study_notation.proofs.FenStarts.{IsRead as IsStart}
use Rattle.study_notation.specs.StartAfter.{start_after}
use Rattle.study_notation.specs.SanSpelling.{move_text}
use Rattle.study_values.specs.declared.value.Value.{Value}
use Rattle.study_values.specs.declared.value.Value.TheVariants.{Win, Loss, Draw}
use Rattle.study_tree.specs.Forest.{Forest, none, more, nodes_in}
use Rattle.study_marks.specs.declared.mark.Mark.{Mark}
use Rattle.study_marks.specs.declared.stipulation.Goal.{Goal}
use Rattle.study_marks.specs.declared.stipulation.Goal.TheVariants as goal
use Rattle.study_marks.specs.declared.stipulation.Stipulation.{Stipulation}
use Rattle.study_marks.specs.declared.tag.TagName.{TagName}
use Rattle.study_marks.specs.declared.tag.TagName.TheVariants as name_of
use Rattle.study_marks.specs.Verdict.{Verdict, wrong, sound, unsound, verdict}
use Rattle.study_marks.specs.Study.{Study, tag_of}
use Rattle.study_marks.specs.Edits.{PlainStudy, is_printable, is_tag_text}
use Rattle.study_command.specs.Parser.{trim_end, trim}
use Rattle.study_pgn.specs.Values.{side_name, value_text, win_of, result_text}
use Rattle.study_pgn.specs.Moves.{move_dots, glyph_text, comment_text, words_of_move, continuation_text, variations}
use Rattle.study_pgn.specs.Tags.{with_backslash, tag_line, unknown_text, text_or_unknown, user_line, user_lines, tags_text}
use Rattle.study_pgn.specs.Pgn.{goal_text, stipulation_text, verdict_text, opening_words, opening_text, movetext, pgn_text}
use Rattle.study_pgn.specs.Wrap.{lines_text}
use Rattle.study_games.specs.Bytes.{is_digit, begins_symbol, is_symbol_byte}
use Rattle.study_games.specs.Characters.{is_utf8, read_at, character_at}
use Rattle.study_games.specs.Ascii.{ascii_of, spelled_behind, spelled_in, spelled_out, short_text}
use Rattle.study_games.specs.Words.{is_space as is_blank_space, without_spaces}
use Rattle.study_games.specs.Symbols.{without_end, said_of}
use Rattle.study_games.specs.Tokens.{Lexed, lexed_token, is_inside, blank, comment, symbol}
use Rattle.study_games.specs.Header.{Pair, on, ended as header_ended, tags_of, header_fault, unescape}
use Rattle.study_games.specs.declared.symbols.Outcome.{Outcome}
use Rattle.study_games.specs.declared.symbols.Outcome.TheVariants.{WhiteWins, BlackWins, Drawn}
use Rattle.study_games.specs.declared.symbols.Said.TheVariants as say
use Rattle.study_games.proofs.Lexing.{Stops, is_plain_symbol, symbol_read}
use Rattle.study_reading.specs.declared.token_effects.Reason.{Reason}
use Rattle.study_reading.specs.declared.movetext.MovesFault.{MovesFault}
use Rattle.study_remark.specs.declared.remark.Source.TheVariants.{Comment}
use Rattle.study_reading.specs.Aims.{aim_in, outcome_wanted, doubts_of, aim_by_sources}
use Rattle.study_reading.specs.Lines.{Lines}
use Rattle.study_reading.specs.declared.notes.Notes.{Notes}
use Rattle.study_reading.specs.Notes.{none_yet, with_comment, with_result}
use Rattle.study_reading.specs.declared.numbering.Numbering.{Numbering}
use Rattle.study_reading.specs.Numbering.{said_numbered}
use Rattle.study_games.specs.declared.language.Language.{Language}
use Rattle.study_reading.specs.Movetext.{goes_on}
use Rattle.study_import.specs.FewMen.{GameRead, GameTaken, game_taken, Ended, on_numbered, on_token}
use Rattle.study_reading.specs.Behind.{moves_or, moves_left, moves_in, ended_unless, to_the_end}
use Rattle.study_import.specs.Blocks.{no_moves, game_read, fen_in, printable_byte, tag_text, tag_value_text, text_or_unknown as import_text, sources_of, aim_of_game}
use Rattle.study_import.specs.Blocks.{repeated_name, language_by, language_of, text_in}
use Rattle.study_import.specs.Imported.{all_games}
use Rattle.study_import.specs.Meant.{tag_texts, study_aimed, study_of_moves, study_read, studies_begun, studies_unless_repeated}
use Rattle.study_import.specs.Meant.{studies_behind_header, studies_in}
use Rattle.study_import.specs.Laws.{IsCounted}
use Rattle.study_import.specs.Written.{without_marks, IsTagged, CanBeMade, unmarked_study, AreReadBack}
use Rattle.study_import.proofs.Ink.{Ink, ink_of, all_print, decimal_ink}
use Rattle.study_import.proofs.Spelling.{fen_is}
use Rattle.study_import.proofs.TagsTrimmed.{same_end}
use Rattle.study_import.proofs.Blanks.{SameByte, Same, same_cut, word_cut, IsGap, space_cut, same_all, same_refl, same_append, lines_same}
use Rattle.study_import.proofs.TreeHoles.{put, root_put}
use Rattle.study_import.proofs.Numbers.{counted_start}
use Rattle.study_import.proofs.ReadSteps.{reads, on_reads, quiet_numbered, on_step, At, Reached, gap_step, lexed_brace, comment_is, decimal_digits, symbol_as}
use Rattle.study_import.proofs.ReadSteps.{decimal_some}
use Rattle.study_import.proofs.TreeRead.{on_tree, restated, inside_append, side_inside, number_inside, value_inside, begins_digit, digits_symbol}
use Rattle.study_import.proofs.TreeRead.{Node, Limits, follow_read}
use Rattle.study_import.proofs.Singles.{movetext_runs}
use Rattle.study_import.proofs.OpeningRead.{aim_read}
use Rattle.study_import.proofs.HeaderRead.{value_again, Named, written, AllNamed, pairs_of, lines_read, tags_from, fault_from, tags_step, fault_step, feed_lexed}

-- ---- texts of tags

abbrev pub Prints : List ℕ → Type 0
Prints t = list_all is_printable t ≡ true

ascii_same : (b : ℕ) → 32 ≤ b → b ≤ 126 → ascii_of b ≡ b ∷ []
unfolding ascii_of
ascii_same b low high = rw (lt-leb b 31 (omega arith), ne_eqb b 127 (λ e. omega arith), ne_eqb b 160 (λ e. omega arith), le-leb b 126 high) refl

read_same : (utf8 : Bool) (b : ℕ) (bs : List ℕ) → b ≤ 127 → read_at utf8 (b ∷ bs) ≡ Some (b, bs)
unfolding character_at
read_same true b bs h = rw (le-leb b 127 h) refl
read_same false b bs h = refl

spelled_same : (utf8 : Bool) (text : List ℕ) → Prints text → spelled_in (length text) utf8 text ≡ text
spelled_same utf8 [] h = refl
spelled_same utf8 (b ∷ bs) h =
    let a = and_parts (is_printable b) (list_all is_printable bs) h in
    let c = and_parts (nat_le 32 b) (nat_le b 126) a.0 in
    let low = leb-true 32 b c.0 in
    let high = leb-true b 126 c.1 in
    ap (spelled_behind (spelled_in (length bs) utf8)) (read_same utf8 b bs (omega arith))
    ∙ ap (λ (t : List ℕ). t ++ spelled_in (length bs) utf8 bs) (ascii_same b low high) ∙ ap (λ (t : List ℕ). b ∷ t) (spelled_same utf8 bs a.1)

-- a text that a script can hold
pub record IsText (t : List ℕ) : Type 0 where
  pub first : ℕ
  pub rest : List ℕ
  pub begins : t ≡ first ∷ rest
  pub inked : is_space first ≡ false
  pub ends : trim_end t ≡ t
  pub prints : Prints t
  pub few : length t ≤ 60

no_spaces : (b : ℕ) (bs : List ℕ) → is_space b ≡ false → without_spaces (b ∷ bs) ≡ b ∷ bs
no_spaces b bs h = rw h refl

text_again : (t : List ℕ) → IsText t → tag_text t ≡ t
unfolding spelled_out short_text
text_again t h =
    ap (λ (x : List ℕ). without_end is_blank_space (take 60 (without_spaces x))) (spelled_same (is_utf8 t) t h.prints)
    ∙ ap (λ (x : List ℕ). without_end is_blank_space (take 60 x)) (ap without_spaces h.begins ∙ no_spaces h.first h.rest h.inked ∙ sym h.begins)
    ∙ ap (without_end is_blank_space) (take_all 60 t h.few) ∙ same_end t ∙ h.ends

value_text_again : (name : TagName) (t : List ℕ) → IsText t → tag_value_text name (Some (flat_map with_backslash t)) ≡ t
value_text_again name t h =
    let same : tag_text (unescape (flat_map with_backslash t)) ≡ t = ap tag_text (value_again t) ∙ text_again t h in
    let some : (length t == 0) ≡ false = ap (λ (x : List ℕ). length x == 0) h.begins ∙ ne_eqb (length (h.first ∷ h.rest)) 0 (λ e. omega arith) in
    ap (import_text name) same ∙ rw some refl

unknown_is : (name : TagName) → IsText (unknown_text name)
unknown_is name_of.Date = record { first = 63; rest = codes "???.??.??"; begins = refl; inked = refl; ends = refl; prints = refl; few = omega arith }
unknown_is name_of.Event = record { first = 63; rest = []; begins = refl; inked = refl; ends = refl; prints = refl; few = omega arith }
unknown_is name_of.Site = record { first = 63; rest = []; begins = refl; inked = refl; ends = refl; prints = refl; few = omega arith }
unknown_is name_of.Round = record { first = 63; rest = []; begins = refl; inked = refl; ends = refl; prints = refl; few = omega arith }
unknown_is name_of.White = record { first = 63; rest = []; begins = refl; inked = refl; ends = refl; prints = refl; few = omega arith }
unknown_is name_of.Black = record { first = 63; rest = []; begins = refl; inked = refl; ends = refl; prints = refl; few = omega arith }

-- ---- a text without spaces at its ends has none at the front

ended_few : (xs : List ℕ) → length (trim_end xs) ≤ length xs
ended_few [] = omega arith
ended_few (x ∷ xs) = go (list_all is_space (x ∷ xs)) (ended_few xs)
  where
    go : (b : Bool) → length (trim_end xs) ≤ length xs → length (if b then [] else x ∷ trim_end xs) ≤ suc (length xs)
    go true h = omega arith
    go false h = omega arith

drop_few : (n : ℕ) (xs : List ℕ) → length (drop n xs) ≤ length xs
drop_few n xs = omega (arith, length-drop n xs)

-- the first byte of such a text is not a space
first_inked : (b : ℕ) (bs : List ℕ) (space : Bool) → is_space b ≡ space → trim (b ∷ bs) ≡ b ∷ bs → (is_space b ≡ false) × (trim_end (b ∷ bs) ≡ b ∷ bs)
unfolding trim
first_inked b bs true e same =
    let shorter : length (trim_end (begun_word (b ∷ bs))) ≤ length bs = one_less b bs e in
    absurd (omega (arith, ap length same))
  where
    one_less : (b : ℕ) (bs : List ℕ) → is_space b ≡ true → length (trim_end (begun_word (b ∷ bs))) ≤ length bs
    one_less b bs e =
        let n = prefix_len is_space bs in
        let up : 1 + n ≡ suc n = omega arith in
        let begun : begun_word (b ∷ bs) ≡ drop n bs = rw e (rw up refl) in
        rw begun (omega (arith, ended_few (drop n bs), drop_few n bs))
first_inked b bs false e same = (e, ap trim_end (sym (begun b bs e)) ∙ same)
  where
    begun : (b : ℕ) (bs : List ℕ) → is_space b ≡ false → begun_word (b ∷ bs) ≡ b ∷ bs
    begun b bs e = rw e refl

trimmed_is : (t : List ℕ) → trim t ≡ t → is_tag_text t ≡ true → IsText t
trimmed_is t same h =
    let a = and_parts (nat_le 1 (length t) && nat_le (length t) 60) (list_all is_printable t) h in
    let b = and_parts (nat_le 1 (length t)) (nat_le (length t) 60) a.0 in
    let x = first_byte t same (leb-true 1 (length t) b.0) in
    record { first = x.0; rest = x.1; begins = x.2; inked = x.3; ends = x.4; prints = a.1; few = leb-true (length t) 60 b.1 }
  where
    first_byte : (t : List ℕ) → trim t ≡ t → 1 ≤ length t → (b : ℕ) × (bs : List ℕ) × (t ≡ b ∷ bs) × (is_space b ≡ false) × (trim_end t ≡ t)
    first_byte [] same h = absurd (omega arith)
    first_byte (b ∷ bs) same h = let i = first_inked b bs (is_space b) refl same in (b, bs, refl, i.0, i.1)

pub tag_texts_are : (s : Study Mark) → CanBeMade s → (name : TagName) → IsText (text_or_unknown name (tag_of s.tags name))
tag_texts_are s c name = go (tag_of s.tags name) (c.tags name)
  where
    go : (o : Option (List ℕ)) → IsTagged o → IsText (text_or_unknown name o)
    go None h = unknown_is name
    go (Some t) h = trimmed_is t h.1 h.0

-- ---- the header

abbrev pub header_of : Study Mark → List Named
header_of s =
    (codes "Event", text_or_unknown name_of.Event (tag_of s.tags name_of.Event)) ∷ (codes "Site", text_or_unknown name_of.Site (tag_of s.tags name_of.Site))
    ∷ (codes "Date", text_or_unknown name_of.Date (tag_of s.tags name_of.Date)) ∷ (codes "Round", text_or_unknown name_of.Round (tag_of s.tags name_of.Round))
    ∷ (codes "White", text_or_unknown name_of.White (tag_of s.tags name_of.White))
    ∷ (codes "Black", text_or_unknown name_of.Black (tag_of s.tags name_of.Black))
    ∷ (codes "Result", result_text s.start.position.to_move s.tree.label.value) ∷ (codes "FEN", fen_text s.start) ∷ (codes "SetUp", codes "1") ∷ []

won_prints : (side : Side) → Prints (win_of side)
won_prints White = refl
won_prints Black = refl

pub result_prints : (side : Side) (v : Value) → Prints (result_text side v)
result_prints side Draw = refl
result_prints side (Win n) = won_prints side
result_prints side (Loss n) = won_prints (other_side side)

pub start_read : (s : Study Mark) → CanBeMade s → IsStart s.start
start_read s c = record { valid = c.valid; clock = c.clock; positive = c.positive; number = c.number }

pub header_named : (s : Study Mark) → CanBeMade s → AllNamed (header_of s)
header_named s c =
    let fen = fen_is s.start (start_read s c) in (
      record { first = 69; more = codes "vent"; text = refl; letter = refl; gap = refl; all = refl },
      (tag_texts_are s c name_of.Event).prints,
      (
        record { first = 83; more = codes "ite"; text = refl; letter = refl; gap = refl; all = refl },
        (tag_texts_are s c name_of.Site).prints,
        (
          record { first = 68; more = codes "ate"; text = refl; letter = refl; gap = refl; all = refl },
          (tag_texts_are s c name_of.Date).prints,
          (
            record { first = 82; more = codes "ound"; text = refl; letter = refl; gap = refl; all = refl },
            (tag_texts_are s c name_of.Round).prints,
            (
              record { first = 87; more = codes "hite"; text = refl; letter = refl; gap = refl; all = refl },
              (tag_texts_are s c name_of.White).prints,
              (
                record { first = 66; more = codes "lack"; text = refl; letter = refl; gap = refl; all = refl },
                (tag_texts_are s c name_of.Black).prints,
                (
                  record { first = 82; more = codes "esult"; text = refl; letter = refl; gap = refl; all = refl },
                  result_prints s.start.position.to_move s.tree.label.value,
                  (
                    record { first = 70; more = codes "EN"; text = refl; letter = refl; gap = refl; all = refl },
                    all_print (fen_text s.start) fen.prints,
                    (
                      record { first = 83; more = codes "etUp"; text = refl; letter = refl; gap = refl; all = refl },
                      refl,
                      tt,
                    ),
                  ),
                ),
              ),
            ),
          ),
        ),
      ),
    )

unfoldable pub text_behind : Study Mark → List ℕ
text_behind s = 10 ∷ (lines_text (words (movetext s)) ++ 10 ∷ [])

pub header_is : (s : Study Mark) → pgn_text s ≡ written (header_of s) (text_behind s)
unfolding pgn_text tags_text user_lines text_behind
header_is s =
    nine (user_line s name_of.Event) (user_line s name_of.Site) (user_line s name_of.Date) (user_line s name_of.Round) (user_line s name_of.White)
    (user_line s name_of.Black)
    (tag_line (codes "Result") (result_text s.start.position.to_move s.tree.label.value)) (tag_line (codes "FEN") (fen_text s.start))
    (tag_line (codes "SetUp") (codes "1"))
    (10 ∷ (lines_text (words (movetext s)) ++ 10 ∷ []))
  where
    nine : (a b c d e f g h i t : List ℕ) → ((a ++ (b ++ (c ++ (d ++ (e ++ f))))) ++ (g ++ (h ++ i))) ++ t ≡ a
        ++ (b ++ (c ++ (d ++ (e ++ (f ++ (g ++ (h ++ (i ++ t))))))))
    nine a b c d e f g h i t = simp append_assoc

-- ---- the opening comment

goal_inside : (g : Goal) → list_all is_inside (goal_text g) ≡ true
goal_inside goal.Win = refl
goal_inside goal.Draw = refl
goal_inside (goal.MateIn k) = inside_append (codes " to mate in ") (decimal k) refl (number_inside k)

verdict_inside : (v : Verdict) → list_all is_inside (verdict_text v) ≡ true
verdict_inside wrong = refl
verdict_inside sound = refl
verdict_inside (unsound n) = inside_append (codes "unsound ") (decimal n) refl (number_inside n)

words_inside : (s : Study Mark) → list_all is_inside (opening_words s) ≡ true
unfolding opening_words
words_inside s =
    let value = value_text s.start.position.to_move s.tree.label.value in
    inside_append (stipulation_text s.stipulation) (codes ": " ++ (verdict_text (verdict s) ++ (codes ", " ++ value)))
    (inside_append (side_name s.stipulation.hero) (goal_text s.stipulation.goal) (side_inside s.stipulation.hero) (goal_inside s.stipulation.goal))
    (inside_append (codes ": ") (verdict_text (verdict s) ++ (codes ", " ++ value)) refl
    (inside_append (verdict_text (verdict s)) (codes ", " ++ value) (verdict_inside (verdict s))
    (inside_append (codes ", ") value refl (value_inside s.start.position.to_move s.tree.label.value))))

opening_aim : (s : Study Mark) (t : List ℕ) → IsCounted s.stipulation.goal → Same (opening_words s) t → aim_in t ≡ Some s.stipulation
unfolding opening_words
opening_aim s t counted h = aim_read s.stipulation (verdict_text (verdict s) ++ (codes ", " ++ value_text s.start.position.to_move s.tree.label.value)) t
    counted h

-- ---- the result

abbrev pub Ending : Study Mark → List ℕ
Ending s = 32 ∷ (result_text s.start.position.to_move s.tree.label.value ++ 10 ∷ 10 ∷ [])

record IsResult (w : List ℕ) : Type 0 where
  first : ℕ
  more : List ℕ
  outcome : Outcome
  text : w ≡ first ∷ more
  begins : begins_symbol first ≡ true
  all : list_all is_plain_symbol (first ∷ more) ≡ true
  ink : Ink w
  said : said_of (first ∷ more) ≡ say.Result outcome

won_is : (side : Side) → IsResult (win_of side)
unfolding said_of
won_is White = record {
  first = 49;
  more = codes "-0";
  outcome = WhiteWins;
  text = refl;
  begins = refl;
  all = refl;
  ink = ink_of (codes "1-0") refl;
  said = refl;
}
won_is Black = record {
  first = 48;
  more = codes "-1";
  outcome = BlackWins;
  text = refl;
  begins = refl;
  all = refl;
  ink = ink_of (codes "0-1") refl;
  said = refl;
}

result_is : (side : Side) (v : Value) → IsResult (result_text side v)
unfolding said_of
result_is side Draw = record {
  first = 49;
  more = codes "/2-1/2";
  outcome = Drawn;
  text = refl;
  begins = refl;
  all = refl;
  ink = ink_of (codes "1/2-1/2") refl;
  said = refl;
}
result_is side (Win n) = won_is side
result_is side (Loss n) = won_is (other_side side)

gap_stop : (b : ℕ) (rest : List ℕ) → IsGap b → Stops is_symbol_byte (b ∷ rest)
gap_stop b rest (inl e) = rw e refl
gap_stop b rest (inr e) = rw e refl

symbol_lexed : (fresh : Bool) (b : ℕ) (w rest : List ℕ) → begins_symbol b ≡ true → list_all is_plain_symbol (b ∷ w) ≡ true → Stops is_symbol_byte rest
    → lexed_token fresh b (w ++ rest) ≡ Ok (symbol (b ∷ w), rest)
symbol_lexed fresh b w rest begins all stops = lexed_is (lexed_token fresh b (w ++ rest)) (Ok (symbol (b ∷ w), rest))
    (symbol_read fresh b w rest begins all stops)
  where
    lexed_is : (x y : Lexed) → Some x ≡ Some y → x ≡ y
    lexed_is x y e = cc

-- the reading ends with this tree and this stipulation, and there are no moves behind the result
record EndsWith (x : Result Ended MovesFault) (s : PlainStudy) (o : Option Stipulation) : Type 0 where
  ended_by : Ended
  is : x ≡ Ok ended_by
  study : ended_by.game.reading.study ≡ s
  opening : ended_by.game.notes.opening ≡ o
  quiet : moves_in ended_by.behind ≡ None

result_ends : (s : PlainStudy) (path : List ℕ) (o : Option Stipulation) (g : GameRead) → At s path 0 [] o g → (w : List ℕ) → IsResult w
    → (b : ℕ) (rest : List ℕ) → IsGap b
    → moves_in (b ∷ rest) ≡ None → (fresh : Bool) → EndsWith (reads fresh (w ++ (b ∷ rest)) g) s o
result_ends s path o g at w r b rest gap quiet fresh =
    let waits = not (length g.reading.lines.waiting == 0) in
    let n = with_result g.notes waits r.outcome in
    let none : (length g.reading.lines.waiting == 0) ≡ true = ap (λ (l : Lines). length l.waiting == 0) at.lines in
    let takes : game_taken g (symbol (r.first ∷ r.more)) ≡ Ok (record { game = record { reading = g.reading; notes = n }; ended = true }) =
    symbol_as g (r.first ∷ r.more) (say.Result r.outcome) r.said
    ∙ ap (λ (e : Bool). Ok (record { game = record { reading = g.reading; notes = n }; ended = e })) none in
    let bs = r.more ++ (b ∷ rest) in
    let lex = symbol_lexed fresh r.first r.more (b ∷ rest) r.begins r.all (gap_stop b rest gap) in
    record {
      ended_by = record { game = record { reading = g.reading; notes = n }; behind = b ∷ rest };
      is = ap (λ (t : List ℕ). reads fresh (t ++ (b ∷ rest)) g) r.text ∙ on_reads fresh r.first bs g
          ∙ ap (λ (x : Lexed). on_token (λ t h. reads (r.first == 10) t h) (length (r.first ∷ bs)) g x) lex
          ∙ ap (λ (x : Option Numbering). on_numbered (λ h. reads (r.first == 10) (b ∷ rest) h) (length (r.first ∷ bs)) g (symbol (r.first ∷ r.more)) (b
          ∷ rest) x)
          (quiet_numbered g (symbol (r.first ∷ r.more)) (b ∷ rest) (λ side d s. ap (said_numbered side d s (r.first ∷ r.more) (b ∷ rest)) r.said))
          ∙ ap (λ (x : Result GameTaken Reason). goes_on (λ h. reads (r.first == 10) (b ∷ rest) h) (length (r.first ∷ bs)) (b ∷ rest) x) takes;
      study = at.study;
      opening = at.opening;
      quiet = quiet;
    }

-- two gaps, as they are behind the result
space_is : (fresh : Bool) (bs : List ℕ) → lexed_token fresh 32 bs ≡ Ok (blank, bs)
unfolding lexed_token
space_is true bs = refl
space_is false bs = refl

gap_lexed : (b : ℕ) (bs : List ℕ) → IsGap b → (fresh : Bool) → lexed_token fresh b bs ≡ Ok (blank, bs)
gap_lexed b bs (inl e) fresh = subst (λ (x : ℕ). lexed_token fresh x bs ≡ Ok (blank, bs)) (sym e) (space_is fresh bs)
gap_lexed b bs (inr e) fresh = subst (λ (x : ℕ). lexed_token fresh x bs ≡ Ok (blank, bs)) (sym e) (feed_lexed bs fresh)

gaps_quiet : (b c : ℕ) → IsGap b → IsGap c → moves_in (b ∷ c ∷ []) ≡ None
unfolding moves_in
gaps_quiet b c first second =
    ap (moves_or (moves_left 1 (b == 10)) (b ∷ c ∷ [])) (gap_lexed b (c ∷ []) first false)
    ∙ ap (moves_or (moves_left 0 (c == 10)) (c ∷ [])) (gap_lexed c [] second (b == 10))

-- ---- the movetext

-- after the opening comment
abbrev start_study : Start → PlainStudy
start_study start = (no_moves start).reading.study

tree_ends : (s : Study Mark) → CanBeMade s → (o : Option Stipulation) (t : List ℕ) → Same (continuation_text s.start s.tree.below ++ Ending s) t
    → (g : GameRead)
    → At (start_study s.start) [] 0 [] o g → (fresh : Bool) → EndsWith (reads fresh t g) (on_tree (start_study s.start) (without_marks s.tree.below)) o
tree_ends s c o t h g at fresh =
    let base = start_study s.start in
    let node : Node base none [] s.start = record { here = refl; position = refl; valid = c.valid; counted = counted_start s.start c.number } in
    let count : nodes_in (put none [] none) ≡ 0 = ap (λ (x : Forest (Unit {0})). nodes_in x) (root_put none) in
    let few = c.few in
    let limits : Limits none [] none (without_marks s.tree.below) 0 [] 256 = record {
      deep = omega arith;
      within = c.within;
      room = omega arith;
      begun = omega arith;
      few = omega arith;
    } in
    let f = follow_read s.tree.below base none [] s.start 0 [] o 256 (Ending s) t node c.playable c.distinct limits h g
    (restated base none (put none [] none) [] [] 0 [] o g (sym (root_put none)) refl at) in
    let made = on_tree base (without_marks s.tree.below) in
    let reached : Reached t f.back made f.way 0 [] o g =
    subst (λ (x : Forest (Unit {0})). Reached t f.back (on_tree base x) f.way 0 [] o g) (root_put (without_marks s.tree.below)) f.reached in
    let result = result_text s.start.position.to_move s.tree.label.value in
    let r = result_is s.start.position.to_move s.tree.label.value in
    let a = space_cut (result ++ 10 ∷ 10 ∷ []) f.back f.same in
    let w = word_cut result (10 ∷ 10 ∷ []) a.back r.ink a.rest in
    let e = last_gap w.back w.rest in
    let gap = gap_step made f.way 0 [] o reached.next reached.at a.byte a.back a.gap in
    let first = reached.goes fresh in
    let second = gap.goes first.0 in
    let last = result_ends made f.way o gap.next gap.at result r e.0 e.1 e.3 e.4 second.0 in
    record {
      ended_by = last.ended_by;
      is = first.1 ∙ ap (λ (x : List ℕ). reads first.0 x reached.next) a.text ∙ second.1
          ∙ ap (λ (x : List ℕ). reads second.0 x gap.next) (w.text ∙ ap (λ (x : List ℕ). result ++ x) e.2) ∙ last.is;
      study = last.study;
      opening = last.opening;
      quiet = last.quiet;
    }
  where
    feed_gap : (y : ℕ) → SameByte 10 y → IsGap y
    feed_gap y (inl e) = inr e
    feed_gap y (inr e) = inr e.1

    last_gap : (t : List ℕ) → Same (10 ∷ 10 ∷ []) t → (b : ℕ) × (bs : List ℕ) × (t ≡ b ∷ bs) × IsGap b × (moves_in (b ∷ bs) ≡ None)
    last_gap [] h = absurd h
    last_gap (b ∷ []) h = absurd h.1
    last_gap (b ∷ c ∷ []) h = (b, c ∷ [], refl, feed_gap b h.0, gaps_quiet b c (feed_gap b h.0) (feed_gap c h.1.0))
    last_gap (b ∷ c ∷ d ∷ ds) h = absurd h.1.1

-- the opening comment, cut into lines, and the rest
pub record Opened (s : Study Mark) (t : List ℕ) : Type 0 where
  pub words : List ℕ
  pub back : List ℕ
  pub text : t ≡ 123 ∷ (words ++ (125 ∷ back))
  pub inside : list_all is_inside words ≡ true
  pub aim : aim_in words ≡ Some s.stipulation
  pub rest : Same (continuation_text s.start s.tree.below ++ Ending s) back

pub opened : (s : Study Mark) → CanBeMade s → Opened s (lines_text (words (movetext s)) ++ 10 ∷ [])
unfolding movetext opening_text
opened s c =
    let fo = continuation_text s.start s.tree.below in
    let result = result_text s.start.position.to_move s.tree.label.value in
    let t = lines_text (words (movetext s)) ++ 10 ∷ [] in
    let lines = lines_same (movetext s) (movetext_runs s c.valid c.playable) in
    let whole = same_append (movetext s ++ 10 ∷ []) (10 ∷ []) (lines_text (words (movetext s))) (10 ∷ []) lines (same_refl (10 ∷ [])) in
    let h : Same (123 ∷ (opening_words s ++ (125 ∷ (fo ++ Ending s)))) t = subst (λ (x : List ℕ). Same x t) (regroup (opening_words s) fo result) whole in
    let a = word_cut (123 ∷ []) (opening_words s ++ (125 ∷ (fo ++ Ending s))) t (omega arith, omega arith, tt) h in
    let b = same_cut (opening_words s) (125 ∷ (fo ++ Ending s)) a.back a.rest in
    let d = word_cut (125 ∷ []) (fo ++ Ending s) b.back (omega arith, omega arith, tt) b.rest in
    record {
      words = b.front;
      back = d.back;
      text = a.text ∙ ap (λ (x : List ℕ). 123 ∷ x) (b.text ∙ ap (λ (x : List ℕ). b.front ++ x) d.text);
      inside = same_all is_inside (opening_words s) b.front refl (words_inside s) b.same;
      aim = opening_aim s b.front c.counted b.same;
      rest = d.rest;
    }
  where
    regroup : (a b c : List ℕ) → (((codes "{" ++ (a ++ codes "}")) ++ (b ++ (codes " " ++ c))) ++ 10 ∷ []) ++ 10 ∷ [] ≡ 123
        ∷ (a ++ (125 ∷ (b ++ (32 ∷ (c ++ 10 ∷ 10 ∷ [])))))
    regroup a b c = simp append_assoc

moves_end : (s : Study Mark) → CanBeMade s → (fresh : Bool)
    → EndsWith (reads fresh (text_behind s) (no_moves s.start)) (on_tree (start_study s.start) (without_marks s.tree.below)) (Some s.stipulation)
unfolding text_behind
moves_end s c fresh =
    let g = no_moves s.start in
    let t = lines_text (words (movetext s)) ++ 10 ∷ [] in
    let o = opened s c in
    let next : GameRead = record { reading = g.reading; notes = with_comment none_yet o.words } in
    let bs = o.words ++ (125 ∷ o.back) in
    let at : At (start_study s.start) [] 0 [] (Some s.stipulation) next = record { study = refl; lines = refl; opening = o.aim; had = refl; numbers = (tt, refl); apart = refl } in
    let tree = tree_ends s c (Some s.stipulation) o.back o.rest next at false in
    record {
      ended_by = tree.ended_by;
      is = on_step fresh 10 t g blank t g (feed_lexed t fresh) (λ _ _ _. refl) refl ∙ ap (λ (x : List ℕ). reads true x g) o.text
          ∙ on_step true 123 bs g (comment o.words) o.back next (lexed_brace bs true ∙ comment_is o.words o.back o.inside) (λ _ _ _. refl) refl ∙ tree.is;
      study = tree.study;
      opening = tree.opening;
      quiet = tree.quiet;
    }

-- ---- neither a fault nor a tag after the header

abbrev HasNone : Bool → List ℕ → Type 0
HasNone fresh t = (fault_from fresh t ≡ None) × (tags_from fresh t ≡ [])

symbol_none : (fresh : Bool) (b : ℕ) (w rest : List ℕ) → begins_symbol b ≡ true → list_all is_plain_symbol (b ∷ w) ≡ true → Stops is_symbol_byte rest
    → HasNone fresh (b ∷ (w ++ rest))
symbol_none fresh b w rest begins all stops =
    let lexed = symbol_lexed fresh b w rest begins all stops in (
      fault_step fresh b (w ++ rest) rest (symbol (b ∷ w)) header_ended lexed refl,
      tags_step fresh b (w ++ rest) rest (symbol (b ∷ w)) header_ended lexed refl,
    )

gap_none : (fresh : Bool) (b : ℕ) (bs : List ℕ) → IsGap b → (f : Bool) × (HasNone f bs → HasNone fresh (b ∷ bs))
gap_none fresh b bs gap =
    let lexed = gap_lexed b bs gap fresh in
    (b == 10, λ h. (fault_step fresh b bs bs blank (on None bs) lexed refl ∙ h.0, tags_step fresh b bs bs blank (on None bs) lexed refl ∙ h.1))

digits_none : (fresh : Bool) (ds rest : List ℕ) → list_all is_digit ds ≡ true → 0 < length ds → Stops is_symbol_byte rest → HasNone fresh (ds ++ rest)
digits_none fresh [] rest h some stops = absurd (omega arith)
digits_none fresh (d ∷ ds) rest h some stops =
    symbol_none fresh d ds rest (begins_digit d (and_parts (is_digit d) (list_all is_digit ds) h).0) (digits_symbol (d ∷ ds) h) stops

dots_stop : (side : Side) (rest : List ℕ) → Stops is_symbol_byte (move_dots side ++ rest)
dots_stop White rest = refl
dots_stop Black rest = refl

-- the text after the opening comment begins with a number or with the result
tree_none : (s : Study Mark) (st : Start) (f : Forest Mark) (t : List ℕ) (fresh : Bool) → Same (continuation_text st f ++ Ending s) t → HasNone fresh t
unfolding words_of_move
tree_none s st none t fresh h =
    let result = result_text s.start.position.to_move s.tree.label.value in
    let r = result_is s.start.position.to_move s.tree.label.value in
    let a = space_cut (result ++ 10 ∷ 10 ∷ []) t h in
    let w = word_cut result (10 ∷ 10 ∷ []) a.back r.ink a.rest in
    let gap = gap_none fresh a.byte a.back a.gap in
    subst (HasNone fresh) (sym a.text)
    (gap.1 (subst (HasNone gap.0) (sym (w.text ∙ ap (λ (x : List ℕ). x ++ w.back) r.text))
    (symbol_none gap.0 r.first r.more w.back r.begins r.all (feed_stop w.back w.rest))))
  where
    byte_stop : (y : ℕ) → SameByte 10 y → is_symbol_byte y ≡ false
    byte_stop y (inl e) = rw e refl
    byte_stop y (inr e) = rw e.1 refl

    feed_stop : (t : List ℕ) → Same (10 ∷ 10 ∷ []) t → Stops is_symbol_byte t
    feed_stop [] h = tt
    feed_stop (b ∷ bs) h = byte_stop b h.0
tree_none s st (more m mark b r) t fresh h =
    let n = decimal st.number in
    let rest = codes " " ++ (move_text st.position m ++ (glyph_text mark.on_move ++ (codes " " ++ comment_text (other_side st.position.to_move) mark))) in
    let tail = move_dots st.position.to_move ++ (rest ++ ((variations st r ++ continuation_text (start_after st m) b) ++ Ending s)) in
    let a = space_cut (n ++ tail) t (subst (λ (x : List ℕ). Same x t)
    (regroup n (move_dots st.position.to_move) rest (variations st r ++ continuation_text (start_after st m) b) (Ending s)) h) in
    let w = word_cut n tail a.back (decimal_ink st.number) a.rest in
    let d = word_cut (move_dots st.position.to_move) (rest ++ ((variations st r ++ continuation_text (start_after st m) b) ++ Ending s)) w.back
    (dots_ink st.position.to_move) w.rest in
    let gap = gap_none fresh a.byte a.back a.gap in
    subst (HasNone fresh) (sym a.text)
    (gap.1 (subst (HasNone gap.0) (sym w.text)
    (digits_none gap.0 n w.back (decimal_digits st.number) (decimal_some st.number)
    (subst (λ (x : List ℕ). Stops is_symbol_byte x) (sym d.text) (dots_stop st.position.to_move d.back)))))
  where
    dots_ink : (side : Side) → Ink (move_dots side)
    dots_ink White = ink_of (codes ".") refl
    dots_ink Black = ink_of (codes "...") refl

    regroup : (a b c d e : List ℕ) → (32 ∷ (((a ++ b) ++ c) ++ d)) ++ e ≡ 32 ∷ (a ++ (b ++ (c ++ (d ++ e))))
    regroup a b c d e = simp append_assoc

lines_none : (s : Study Mark) → CanBeMade s → (fresh : Bool) → HasNone fresh (text_behind s)
unfolding text_behind
lines_none s c fresh =
    let t = lines_text (words (movetext s)) ++ 10 ∷ [] in
    let o = opened s c in
    let bs = o.words ++ (125 ∷ o.back) in
    let tree = tree_none s s.start s.tree.below o.back false o.rest in
    let brace = lexed_brace bs true ∙ comment_is o.words o.back o.inside in
    let all : HasNone true t = subst (HasNone true) (sym o.text) (
      fault_step true 123 bs o.back (comment o.words) (on None o.back) brace refl ∙ tree.0,
      tags_step true 123 bs o.back (comment o.words) (on None o.back) brace refl ∙ tree.1,
    ) in (
      fault_step fresh 10 t t blank (on None t) (feed_lexed t fresh) refl ∙ all.0,
      tags_step fresh 10 t t blank (on None t) (feed_lexed t fresh) refl ∙ all.1,
    )

-- ---- the whole

printed_same : (t : List ℕ) → Prints t → map printable_byte t ≡ t
printed_same [] h = refl
printed_same (b ∷ bs) h = let a = and_parts (is_printable b) (list_all is_printable bs) h in rw a.0 (ap (λ (x : List ℕ). b ∷ x) (printed_same bs a.1))

by_comment : (s : Study Mark) (tags : List Pair) (side : Side) (n : Notes) → n.opening ≡ Some s.stipulation
    → aim_of_game None tags side n
    ≡ Some (record { stipulation = s.stipulation; source = Comment; doubts = doubts_of (sources_of None tags side n) (outcome_wanted s.stipulation) })
unfolding aim_by_sources sources_of
by_comment s tags side n e = rw e refl

-- no name stands twice in the header
repeated_none : (s : Study Mark) → repeated_name (pairs_of (header_of s) ++ []) ≡ None
unfolding repeated_name
repeated_none s = refl

tags_again : (s : Study Mark) → CanBeMade s → (rest : List Pair) → tag_texts (pairs_of (header_of s) ++ rest) ≡ (unmarked_study s).tags
tags_again s c rest =
    let one = λ (name : TagName). value_text_again name (text_or_unknown name (tag_of s.tags name)) (tag_texts_are s c name) in
    six (one name_of.Event) (one name_of.Site) (one name_of.Date) (one name_of.Round) (one name_of.White) (one name_of.Black)
  where
    six : {a b c d e f u v w x y z : List ℕ} → a ≡ u → b ≡ v → c ≡ w → d ≡ x → e ≡ y → f ≡ z
        → ◌≡◌ {A = List (Option (List ℕ))} (Some a ∷ Some b ∷ Some c ∷ Some d ∷ Some e ∷ Some f ∷ []) (Some u ∷ Some v ∷ Some w ∷ Some x ∷ Some y ∷ Some z ∷ [])
    six g h i j k l = cc

fen_again : (s : Study Mark) → CanBeMade s → fen_in (flat_map with_backslash (fen_text s.start)) ≡ fen_text s.start
fen_again s c = ap (map printable_byte) (value_again (fen_text s.start))
    ∙ printed_same (fen_text s.start) (all_print (fen_text s.start) (fen_is s.start (start_read s c)).prints)

pub read_back : AreReadBack
unfolding studies_in tags_of header_fault game_read language_of
read_back s c =
    let whole = all_games None in
    let lines = lines_read (header_of s) (text_behind s) true (no_moves s.start) (header_named s c) in
    let text = header_is s in
    let behind = lines_none s c lines.then_fresh in
    let fault : header_fault (pgn_text s) ≡ None = ap (fault_from true) text ∙ lines.fault ∙ behind.0 in
    let all = pairs_of (header_of s) ++ [] in
    let tags : tags_of (pgn_text s) ≡ all = ap (tags_from true) text ∙ lines.tags ∙ ap (λ (ps : List Pair). pairs_of (header_of s) ++ ps) behind.1 in
    let moves = moves_end s c lines.then_fresh in
    let read : game_read (pgn_text s) s.start ≡ Ok moves.ended_by =
    ap (λ (t : List ℕ). to_the_end (reads true t (no_moves s.start))) text ∙ ap to_the_end (lines.moves refl ∙ moves.is)
    ∙ ap (ended_unless moves.ended_by) moves.quiet in
    let english : language_of (pgn_text s) s.start ≡ None = ap (language_by (pgn_text s) s.start) read in
    let start : start_of (fen_in (flat_map with_backslash (fen_text s.start))) ≡ Ok s.start = ap start_of (fen_again s c)
    ∙ start_again s.start c.valid c.clock c.positive c.number in
    let fen = fen_in (flat_map with_backslash (fen_text s.start)) in
    ap (studies_behind_header whole (pgn_text s)) fault
    ∙ ap (λ (ps : List Pair). if length ps == 0 then None ∷ [] else studies_unless_repeated whole (pgn_text s) ps (repeated_name ps)) tags
    ∙ ap (studies_unless_repeated whole (pgn_text s) all) (repeated_none s)
    ∙ ap (studies_begun whole (pgn_text s) fen) start
    ∙ ap (λ (o : Option PlainStudy). o ∷ [])
    (ap (λ (o : Option Language). study_read whole (pgn_text s) s.start (game_read (text_in o (pgn_text s)) s.start)) english
    ∙ ap (study_read whole (pgn_text s) s.start) read
    ∙ ap (λ (ps : List Pair). study_of_moves None ps s.start (Ok moves.ended_by)) tags
    ∙ ap (study_aimed s.start all moves.ended_by) (by_comment s all s.start.position.to_move moves.ended_by.game.notes moves.opening)
    ∙ ap (λ (ts : List (Option (List ℕ))). Some
    (record { start = s.start; stipulation = s.stipulation; tags = ts; tree = moves.ended_by.game.reading.study.tree }))
    (tags_again s c [])
    ∙ ap (λ (p : PlainStudy). Some (record { start = s.start; stipulation = s.stipulation; tags = (unmarked_study s).tags; tree = p.tree })) moves.study)

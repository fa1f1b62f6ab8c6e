-- The lines of a block, and the documents that they lead to.
use Rattle.std.proofs.Common.{◌≡◌, ℕ, zero, suc, ◌-◌, ◌<◌, ◌≤◌, true, false, List, [], ◌∷◌, ◌++◌, length, get_or, Option, Some, None}
use Rattle.std.proofs.Common.{Result, Ok, refl, sym, ap, subst, ◌∙◌, arith, length-append, append_assoc, append-nil}
use Rattle.std.specs.Prelude.{is_some, count_by, codes, decimal}
use Rattle.std.specs.List.{list_all, flat_map, AllByRecursion}
use Rattle.std.proofs.lemmas.Bool.{ne_eqb, le-leb, leb-true, and_parts}
use Rattle.std.proofs.lemmas.List.Concat.{flat_map-append}
use Rattle.study_board.specs.declared.men.Side.{Side}
use Rattle.study_board.specs.declared.men.Side.TheVariants.{White, Black}
use Rattle.study_moves.specs.declared.moves.Move.{Move}
use Rattle.study_notation.specs.declared.start.Start.{Start}
use Rattle.study_notation.specs.declared.fault.FenFault.{FenFault}
use Rattle.study_notation.specs.declared.fault.FenFault.TheVariants as fen_fault
use Rattle.study_notation.specs.declared.fault.SanFault.{SanFault}
use Rattle.study_notation.specs.FenSpelling.{fen_text}
use Rattle.study_notation.specs.SanSpelling.{move_text}
use Rattle.study_notation.proofs.FenAgain.{start_again}
use Rattle.study_notation.proofs.FenStarts.{IsRead as IsStart}
use Rattle.study_text.specs.Paths.{path_text}
use Rattle.study_marks.specs.declared.stipulation.Goal.{Goal}
use Rattle.study_marks.specs.declared.stipulation.Goal.TheVariants.{Win, Draw, MateIn}
use Rattle.study_marks.specs.declared.stipulation.Stipulation.{Stipulation}
use Rattle.study_marks.specs.declared.tag.TagName.{TagName}
use Rattle.study_marks.specs.declared.refusal.Refusal.{Refusal}
use Rattle.study_marks.specs.Study.{tag_name, position_at}
use Rattle.study_marks.specs.Edits.{PlainStudy, with_insertion, with_tag}
use Rattle.study_command.specs.Lines.{script_lines, feed_count}
use Rattle.study_command.specs.Laws.{IsPlain}
use Rattle.study_command.specs.declared.command.FenCommand.TheVariants.{Position as PositionWord}
use Rattle.study_command.specs.Parser.{Asks, fen_command, stipulate, insert, tag, pgn, command_of}
use Rattle.study_command.proofs.LineTaken.{feeds-append}
use Rattle.study_command.proofs.LinesAgain.{lines-again}
use Rattle.study_games.specs.Header.{Pair, tags_of, value_of}
use Rattle.study_reading.specs.declared.aims.Aim.{Aim}
use Rattle.study_import.specs.Moves.{insert_line}
use Rattle.study_import.specs.Insertions.{Insertion, made_by, AllAccepted, AllReadAgain, lines_for}
use Rattle.study_import.specs.Blocks.{Entry, Block, no_study, Reported, head_line, remark_lines, position_line}
use Rattle.study_import.specs.Blocks.{stipulation_line, tag_line, tag_value_text, six_names, study_lines, block_lines}
use Rattle.study_import.specs.Blocks.{no_moves}
use Rattle.study_import.specs.Blocks.{under_remark}
use Rattle.study_command.specs.Documents.{Document, empty, start as placed, study as composed, with_start_of as with_start, after_position, new_study}
use Rattle.study_command.specs.Documents.{after_stipulate, unless_refused, after_move, after_line, after_lines}
use Rattle.study_import.specs.Meant.{tag_texts}
use Rattle.study_import.specs.Laws.{IsCounted, asks_pgn, IsNoPgn, HasSixTags, document_then}
use Rattle.study_import.specs.Laws.{IsSilent, IsStudyIn, IsPart as IsPartOf, AreParts}
use Rattle.study_import.specs.Laws.{IsShort as IsShortLine}
use Rattle.study_import.proofs.Ink.{Print}
use Rattle.study_import.proofs.Spelling.{IsShort, IsFen, AllBelow, move_short, move_some, fen_is, path_short, path_some}
use Rattle.study_import.proofs.PathAgain.{below_more, path_again}
use Rattle.study_import.proofs.Narrow.{IsOpen, IsNarrow, is_open, narrow_inserted, open_few}
use Rattle.study_import.proofs.TextAgain.{valid_along}
use Rattle.study_import.proofs.TagsTaken.{taken}
use Rattle.study_import.proofs.TagsTrimmed.{text_trimmed, text_prints, text_few}
use Rattle.study_import.proofs.CommandLines.{side_words, goal_words, stipulate_words, insert_words, tag_words, position_asked, stipulate_asked}
use Rattle.study_import.proofs.CommandLines.{stipulate_prints, insert_asked, insert_prints, tag_asked, tag_prints, pgn_asked, empty_asked}
use Rattle.study_import.proofs.CommandLines.{position_prints}
use Rattle.study_import.proofs.Remarks.{shows, IsLine, IsRemark, fed, AreLines, each_append, IsPart, number_part, joined, tag_part, head_remark}
use Rattle.study_import.proofs.Remarks.{remarks_are}

-- ---- lines are found as they were written

pub no_feed : (line : List ℕ) → list_all shows line ≡ true → feed_count line ≡ 0
no_feed [] h = refl
no_feed (b ∷ bs) h =
    let a = and_parts (shows b) (list_all shows bs) h in
    let low = leb-true 32 b a.0 in
    let one : feed_count (b ∷ []) ≡ 0 = rw (ne_eqb b 10 (λ e. omega arith)) refl in
    omega (arith, one, feeds-append (b ∷ []) bs, no_feed bs a.1)

pub no_return : (line : List ℕ) → list_all shows line ≡ true → (i : ℕ) → get_or line i 0 ≡ 13 → ⊥
no_return [] h i e = absurd (omega arith)
no_return (b ∷ bs) h zero e = let low = leb-true 32 b (and_parts (shows b) (list_all shows bs) h).0 in omega arith
no_return (b ∷ bs) h (suc i) e = no_return bs (and_parts (shows b) (list_all shows bs) h).1 i e

pub plain_line : (line : List ℕ) → IsLine line → IsPlain line
plain_line line h = (no_feed line h.shown, rw (ne_eqb (get_or line (length line - 1) 0) 13 (no_return line h.shown (length line - 1))) refl)

pub all_plain : (lines : List (List ℕ)) → AllByRecursion IsLine lines → AllByRecursion IsPlain lines
all_plain [] h = tt
all_plain (line ∷ lines) h = (plain_line line h.0, all_plain lines h.1)

pub all_short : (lines : List (List ℕ)) → AllByRecursion IsLine lines → AllByRecursion IsShortLine lines
all_short [] h = tt
all_short (line ∷ lines) h = (h.0.few, all_short lines h.1)

-- a text, and its lines
pub record Spelled (t : List ℕ) (lines : List (List ℕ)) : Type 0 where
  pub text : t ≡ flat_map fed lines
  pub each : AllByRecursion IsLine lines

pub found : (t : List ℕ) (lines : List (List ℕ)) → Spelled t lines → script_lines t ≡ lines
found t lines h = ap script_lines h.text ∙ lines-again lines (all_plain lines h.each)

pub both : (s t : List ℕ) (xs ys : List (List ℕ)) → Spelled s xs → Spelled t ys → Spelled (s ++ t) (xs ++ ys)
both s t xs ys h k = record {
  text = ap (λ (x : List ℕ). x ++ t) h.text ∙ ap (λ (x : List ℕ). flat_map fed xs ++ x) k.text ∙ sym (flat_map-append fed xs ys);
  each = each_append IsLine xs ys h.each k.each;
}

pub before : (s t line : List ℕ) (ys : List (List ℕ)) → s ≡ fed line → IsLine line → Spelled t ys → Spelled (s ++ t) (line ∷ ys)
before s t line ys e h k = record { text = ap (λ (x : List ℕ). x ++ t) e ∙ ap (λ (x : List ℕ). fed line ++ x) k.text; each = (h, k.each) }

pub lines_of_remarks : (lines : List (List ℕ)) → AllByRecursion IsRemark lines → AllByRecursion IsLine lines
lines_of_remarks [] h = tt
lines_of_remarks (line ∷ lines) h = (h.0.fits, lines_of_remarks lines h.1)

pub remarks_spelled : (t : List ℕ) (h : AreLines IsRemark t) → Spelled t h.lines
remarks_spelled t h = record { text = h.text; each = lines_of_remarks h.lines h.each }

pub shown_print : (xs : List ℕ) → Print xs → list_all shows xs ≡ true
shown_print [] h = refl
shown_print (x ∷ xs) h = rw (le-leb 32 x h.0) (shown_print xs h.2)

pub printed_line : (line : List ℕ) → Print line → length line ≤ 1024 → IsLine line
printed_line line p few = record { shown = shown_print line p; few = few }

-- ---- the document after lines

pub after_none : (lines : List (List ℕ)) → after_lines None lines ≡ None
after_none [] = refl
after_none (line ∷ lines) = refl

pub after_append : (o : Option Document) (xs ys : List (List ℕ)) → after_lines o (xs ++ ys) ≡ after_lines (after_lines o xs) ys
after_append o [] ys = refl
after_append None (x ∷ xs) ys = sym (after_none ys)
after_append (Some d) (x ∷ xs) ys = after_append (after_line d (command_of x)) xs ys

pub after_remarks : (lines : List (List ℕ)) → AllByRecursion IsRemark lines → (d : Document) → after_lines (Some d) lines ≡ Some d
after_remarks [] h d = refl
after_remarks (line ∷ lines) h d = ap (λ (a : Asks). after_lines (after_line d a) lines) h.0.silent ∙ after_remarks lines h.1 d

-- a line that is read as a command
pub on_command : (d : Document) (line : List ℕ) (lines : List (List ℕ)) (a : Asks) → command_of line ≡ a
    → after_lines (Some d) (line ∷ lines) ≡ after_lines (after_line d a) lines
on_command d line lines a e = ap (λ (x : Asks). after_lines (after_line d x) lines) e

-- ---- insertions

-- another stipulation, and other tags
abbrev pub framed : PlainStudy → Stipulation → List (Option (List ℕ)) → PlainStudy
framed s aim tags = record { start = s.start; stipulation = aim; tags = tags; tree = s.tree }

abbrev pub insert_words_of : PlainStudy → Insertion → List ℕ
insert_words_of s i = insert_words (path_text i.0) (move_text (position_at s i.0) i.1)

pub insert_lines : PlainStudy → List Insertion → List (List ℕ)
insert_lines s [] = []
insert_lines s (i ∷ later) = insert_words_of s i ∷ insert_lines (with_insertion s i.0 i.1) later

pub insert_is : (path san : List ℕ) → codes "insert " ++ (path ++ (codes " " ++ (san ++ codes "\n"))) ≡ fed (insert_words path san)
insert_is path san = ap (λ (t : List ℕ). codes "insert " ++ t) (sym (append_assoc path (32 ∷ san) (10 ∷ [])))

-- an accepted insertion, as a line
pub record IsInsert (s : PlainStudy) (i : Insertion) : Type 0 where
  pub path : IsShort 769 (path_text i.0)
  pub path_some : 0 < length (path_text i.0)
  pub again : AllBelow 62 i.0
  pub san : IsShort 9 (move_text (position_at s i.0) i.1)
  pub san_some : 0 < length (move_text (position_at s i.0) i.1)

pub is_insert : (s : PlainStudy) (i : Insertion) → IsNarrow s → IsOpen s i.0 i.1 → IsInsert s i
is_insert s i n o =
    let few = open_few s i.0 i.1 n o in
    let path = path_short i.0 few in
    let valid = valid_along s.start.position s.tree.below i.0 n.valid n.playable in
    record {
      path = record { ink = path.ink; few = omega (arith, path.few, o.depth) };
      path_some = path_some 62 i.0 (omega arith) few;
      again = few;
      san = move_short (position_at s i.0) i.1 valid o.legal;
      san_some = move_some (position_at s i.0) i.1 o.legal;
    }

pub insert_line_is : (s : PlainStudy) (i : Insertion) → IsInsert s i → IsLine (insert_words_of s i)
insert_line_is s i h =
    let path = path_text i.0 in
    let san = move_text (position_at s i.0) i.1 in
    printed_line (insert_words_of s i) (insert_prints path san h.path.ink h.san.ink)
    (omega (arith, length-append path (32 ∷ san), h.path.few, h.san.few))

pub inserts_spelled : (s : PlainStudy) (is : List Insertion) → IsNarrow s → AllAccepted (Unit {0}) s is → Spelled (lines_for s is) (insert_lines s is)
unfolding insert_lines
inserts_spelled s [] n h = record { text = refl; each = tt }
inserts_spelled s (i ∷ later) n h =
    let o = is_open (Unit {0}) s i.0 i.1 h.0 in
    before (insert_line (position_at s i.0) i.0 (Some i.1)) (lines_for (with_insertion s i.0 i.1) later) (insert_words_of s i)
    (insert_lines (with_insertion s i.0 i.1) later)
    (insert_is (path_text i.0) (move_text (position_at s i.0) i.1)) (insert_line_is s i (is_insert s i n o))
    (inserts_spelled (with_insertion s i.0 i.1) later (narrow_inserted s i.0 i.1 n o) h.1)

pub insert_read : (s : PlainStudy) (i : Insertion) → IsInsert s i
    → ◌≡◌ {A = Asks} (command_of (insert_words_of s i)) (Ok (Some (insert i.0 (move_text (position_at s i.0) i.1))))
insert_read s i h =
    insert_asked (path_text i.0) (move_text (position_at s i.0) i.1) i.0 h.path.ink h.path_some h.san.ink h.san_some (path_again i.0 (below_more 62 1000 i.0 (omega arith) h.again))

module _ (aim : Stipulation) (tags : List (Option (List ℕ))) where
  pub inserts_done : (s : PlainStudy) (is : List Insertion) → IsNarrow s → AllAccepted (Unit {0}) s is → AllReadAgain s is
      → after_lines (Some (composed (framed s aim tags))) (insert_lines s is) ≡ Some (composed (framed (made_by s is) aim tags))
  unfolding insert_lines
  inserts_done s [] n h k = refl
  inserts_done s (i ∷ later) n h k =
      let o = is_open (Unit {0}) s i.0 i.1 h.0 in
      let lines = insert_lines (with_insertion s i.0 i.1) later in
      let old = framed s aim tags in
      on_command (composed old) (insert_words_of s i) lines (Ok (Some (insert i.0 (move_text (position_at s i.0) i.1)))) (insert_read s i (is_insert s i n o))
      ∙ ap (λ (x : Result Move SanFault). after_lines (after_move old i.0 x) lines) k.0
      ∙ ap (λ (x : Option (Refusal (Unit {0}))). after_lines (unless_refused x (with_insertion old i.0 i.1)) lines) h.0
      ∙ inserts_done (with_insertion s i.0 i.1) later (narrow_inserted s i.0 i.1 n o) h.1 k.1

pub made_start : (s : PlainStudy) (is : List Insertion) → (made_by s is).start ≡ s.start
made_start s [] = refl
made_start s (i ∷ later) = made_start (with_insertion s i.0 i.1) later

-- ---- tags

module _ (tags : List Pair) where
  abbrev pub text_of : TagName → List ℕ
  text_of name = tag_value_text name (value_of (tag_name name) tags)

  unfoldable pub tag_lines : List TagName → List (List ℕ)
  tag_lines [] = []
  tag_lines (name ∷ names) = tag_words name (text_of name) ∷ tag_lines names

  pub tag_is : (name : TagName) → tag_line tags name ≡ fed (tag_words name (text_of name))
  unfolding tag_line
  tag_is name = ap (λ (t : List ℕ). codes "tag " ++ t) (sym (append_assoc (tag_name name) (32 ∷ text_of name) (10 ∷ [])))

  pub tag_line_is : (name : TagName) → IsLine (tag_words name (text_of name))
  tag_line_is name =
      printed_line (tag_words name (text_of name)) (tag_prints name (text_of name) (text_prints name (value_of (tag_name name) tags)))
      (omega (arith, length-append (tag_name name) (32 ∷ text_of name), (tag_part name).few, text_few name (value_of (tag_name name) tags)))

  pub tags_spelled : (names : List TagName) → Spelled (flat_map (tag_line tags) names) (tag_lines names)
  unfolding tag_lines
  tags_spelled [] = record { text = refl; each = tt }
  tags_spelled (name ∷ names) =
      before (tag_line tags name) (flat_map (tag_line tags) names) (tag_words name (text_of name)) (tag_lines names) (tag_is name) (tag_line_is name)
      (tags_spelled names)

  pub tag_read : (name : TagName) → ◌≡◌ {A = Asks} (command_of (tag_words name (text_of name))) (Ok (Some (tag name (text_of name))))
  tag_read name = tag_asked name (text_of name) (text_trimmed name (value_of (tag_name name) tags)) (text_prints name (value_of (tag_name name) tags))

  pub tagged_by : PlainStudy → List TagName → PlainStudy
  tagged_by s [] = s
  tagged_by s (name ∷ names) = tagged_by (with_tag s name (text_of name)) names

  pub tags_done : (s : PlainStudy) (names : List TagName) → after_lines (Some (composed s)) (tag_lines names) ≡ Some (composed (tagged_by s names))
  unfolding tag_lines tagged_by
  tags_done s [] = refl
  tags_done s (name ∷ names) =
      on_command (composed s) (tag_words name (text_of name)) (tag_lines names) (Ok (Some (tag name (text_of name)))) (tag_read name)
      ∙ ap (λ (x : Option (Refusal (Unit {0}))). after_lines (unless_refused x (with_tag s name (text_of name))) (tag_lines names)) (taken tags name)
      ∙ tags_done (with_tag s name (text_of name)) names

  pub six_set : (start : Start) (aim : Stipulation) (old : List (Option (List ℕ))) (s : PlainStudy) → length old ≡ 6
      → s ≡ framed (new_study start aim) aim old → tagged_by s six_names ≡ framed (new_study start aim) aim (tag_texts tags)
  unfolding tagged_by
  six_set start aim (a ∷ b ∷ c ∷ d ∷ e ∷ f ∷ []) s h is = ap (λ (x : PlainStudy). tagged_by x six_names) is
  six_set start aim [] s h is = absurd (omega arith)
  six_set start aim (a ∷ []) s h is = absurd (omega arith)
  six_set start aim (a ∷ b ∷ []) s h is = absurd (omega arith)
  six_set start aim (a ∷ b ∷ c ∷ []) s h is = absurd (omega arith)
  six_set start aim (a ∷ b ∷ c ∷ d ∷ []) s h is = absurd (omega arith)
  six_set start aim (a ∷ b ∷ c ∷ d ∷ e ∷ []) s h is = absurd (omega arith)
  six_set start aim (a ∷ b ∷ c ∷ d ∷ e ∷ f ∷ g ∷ more) s h is = absurd (omega arith)

-- ---- position and stipulation

pub tags_held : Document → List (Option (List ℕ))
tags_held (composed old) = old.tags
tags_held empty = None ∷ None ∷ None ∷ None ∷ None ∷ None ∷ []
tags_held (placed start) = None ∷ None ∷ None ∷ None ∷ None ∷ None ∷ []

pub six_held : (d : Document) → HasSixTags d → length (tags_held d) ≡ 6
unfolding tags_held
six_held (composed old) h = h
six_held empty h = refl
six_held (placed start) h = refl

pub begun : (d : Document) (start : Start) (aim : Stipulation)
    → after_stipulate (with_start d start) aim ≡ Some (composed (framed (new_study start aim) aim (tags_held d)))
unfolding tags_held
begun (composed old) start aim = refl
begun empty start aim = refl
begun (placed other) start aim = refl

abbrev pub position_words : Start → List ℕ
position_words start = codes "position" ++ (32 ∷ fen_text start)

pub position_is : (start : Start) → position_line start ≡ fed (position_words start)
unfolding position_line
position_is start = refl

pub position_line_is : (start : Start) → IsFen (fen_text start) → IsLine (position_words start)
position_line_is start h = printed_line (position_words start) (position_prints (fen_text start) h) (omega (arith, h.few))

pub stipulation_is : (hero : Side) (goal : Goal)
    → stipulation_line (record { hero = hero; goal = goal }) ≡ fed (stipulate_words (record { hero = hero; goal = goal }))
unfolding stipulation_line
stipulation_is White Win = refl
stipulation_is White Draw = refl
stipulation_is White (MateIn n) = refl
stipulation_is Black Win = refl
stipulation_is Black Draw = refl
stipulation_is Black (MateIn n) = refl

pub side_part : (side : Side) → IsPart 5 (side_words side)
side_part White = record { shown = refl; few = omega arith }
side_part Black = record { shown = refl; few = omega arith }

pub goal_part : (goal : Goal) → IsPart 69 (goal_words goal)
goal_part Win = record { shown = refl; few = omega arith }
goal_part Draw = record { shown = refl; few = omega arith }
goal_part (MateIn n) = joined 5 64 (codes "mate ") (decimal n) (record { shown = refl; few = omega arith }) (number_part n)

pub stipulation_line_is : (s : Stipulation) → IsLine (stipulate_words s)
stipulation_line_is s =
    printed_line (stipulate_words s) (stipulate_prints s)
    (omega (arith, length-append (side_words s.hero) (32 ∷ goal_words s.goal), (side_part s.hero).few, (goal_part s.goal).few))

-- ---- a study

module _ (e : Entry) (start : Start) (aim : Stipulation) (is : List Insertion) where
  abbrev pub bare : PlainStudy
  bare = (no_moves start).reading.study

  pub lines_of_study : List (List ℕ)
  lines_of_study =
      position_words start ∷ (stipulate_words aim ∷ (tag_lines (tags_of e.text) six_names ++ (insert_lines bare is ++ codes "pgn" ∷ [] ∷ [])))

  pub pgn_spelled : Spelled (codes "pgn\n\n") (codes "pgn" ∷ [] ∷ [])
  pgn_spelled = record { text = refl; each = (record { shown = refl; few = omega arith }, (record { shown = refl; few = omega arith }, tt)) }

  pub study_spelled : IsStart start → AllAccepted (Unit {0}) bare is → Spelled (study_lines e start aim (lines_for bare is)) lines_of_study
  unfolding study_lines lines_of_study
  study_spelled r h =
      before (position_line start) _ (position_words start) _ (position_is start) (position_line_is start (fen_is start r))
      (before (stipulation_line aim) _ (stipulate_words aim) _ (stipulation_is aim.hero aim.goal) (stipulation_line_is aim)
      (both (flat_map (tag_line (tags_of e.text)) six_names) _ (tag_lines (tags_of e.text) six_names) _ (tags_spelled (tags_of e.text) six_names)
      (both (lines_for bare is) (codes "pgn\n\n") (insert_lines bare is) (codes "pgn" ∷ [] ∷ [])
      (inserts_spelled bare is (record { valid = r.valid; playable = tt; distinct = tt }) h) pgn_spelled)))

  -- its lines before its PGN is requested
  pub front_of_study : List (List ℕ)
  front_of_study = position_words start ∷ (stipulate_words aim ∷ (tag_lines (tags_of e.text) six_names ++ insert_lines bare is))

  pub study_cut : lines_of_study ≡ front_of_study ++ (codes "pgn" ∷ [] ∷ [])
  unfolding lines_of_study front_of_study
  study_cut =
      ap (λ (ls : List (List ℕ)). position_words start ∷ (stipulate_words aim ∷ ls))
      (sym (append_assoc (tag_lines (tags_of e.text) six_names) (insert_lines bare is) (codes "pgn" ∷ [] ∷ [])))

  pub study_done : (d : Document) → HasSixTags d → IsStart start → IsCounted aim.goal → AllAccepted (Unit {0}) bare is → AllReadAgain bare is
      → after_lines (Some d) front_of_study ≡ Some (composed (framed (made_by bare is) aim (tag_texts (tags_of e.text))))
  unfolding front_of_study
  study_done d six r counted h k =
      let tags = tags_of e.text in
      let behind = insert_lines bare is in
      let later = tag_lines tags six_names ++ behind in
      let old = framed (new_study start aim) aim (tags_held d) in
      let new = framed bare aim (tag_texts tags) in
      on_command d (position_words start) (stipulate_words aim ∷ later) (Ok (Some (fen_command PositionWord (fen_text start))))
      (position_asked (fen_text start) (fen_is start r))
      ∙ ap (λ (x : Result Start FenFault). after_lines (after_position d x) (stipulate_words aim ∷ later))
      (start_again start r.valid r.clock r.positive r.number)
      ∙ on_command (with_start d start) (stipulate_words aim) later (Ok (Some (stipulate aim))) (stipulate_asked aim counted)
      ∙ ap (λ (x : Option Document). after_lines x later) (begun d start aim)
      ∙ after_append (Some (composed old)) (tag_lines tags six_names) behind
      ∙ ap (λ (x : Option Document). after_lines x behind)
      (tags_done tags old six_names ∙ ap (λ (x : PlainStudy). Some (composed x)) (six_set tags start aim (tags_held d) old (six_held d six) refl))
      ∙ inserts_done aim (tag_texts tags) bare is (record { valid = r.valid; playable = tt; distinct = tt }) h k

-- ---- the line that requests the PGN is the last, and the only one

pub no_pgn_by : (line : List ℕ) (a : Asks) → command_of line ≡ a → asks_pgn a ≡ false → IsNoPgn line
no_pgn_by line a e h = ap asks_pgn e ∙ h

pub no_pgn_remarks : (lines : List (List ℕ)) → AllByRecursion IsRemark lines → AllByRecursion IsNoPgn lines
no_pgn_remarks [] h = tt
no_pgn_remarks (line ∷ lines) h = (no_pgn_by line (Ok None) h.0.silent refl, no_pgn_remarks lines h.1)

pub no_pgn_tags : (tags : List Pair) (names : List TagName) → AllByRecursion IsNoPgn (tag_lines tags names)
unfolding tag_lines
no_pgn_tags tags [] = tt
no_pgn_tags tags (name ∷ names) =
    (no_pgn_by (tag_words name (text_of tags name)) (Ok (Some (tag name (text_of tags name)))) (tag_read tags name) refl, no_pgn_tags tags names)

pub no_pgn_inserts : (s : PlainStudy) (is : List Insertion) → IsNarrow s → AllAccepted (Unit {0}) s is → AllByRecursion IsNoPgn (insert_lines s is)
unfolding insert_lines
no_pgn_inserts s [] n h = tt
no_pgn_inserts s (i ∷ later) n h =
    let o = is_open (Unit {0}) s i.0 i.1 h.0 in (
      no_pgn_by (insert_words_of s i) (Ok (Some (insert i.0 (move_text (position_at s i.0) i.1)))) (insert_read s i (is_insert s i n o)) refl,
      no_pgn_inserts (with_insertion s i.0 i.1) later (narrow_inserted s i.0 i.1 n o) h.1,
    )

pub study_silent : (e : Entry) (start : Start) (aim : Stipulation) (is : List Insertion) → IsStart start → IsCounted aim.goal
    → AllAccepted (Unit {0}) (no_moves start).reading.study is → AllByRecursion IsNoPgn (front_of_study e start aim is)
unfolding front_of_study
study_silent e start aim is r counted h = (
  no_pgn_by (position_words start) (Ok (Some (fen_command PositionWord (fen_text start)))) (position_asked (fen_text start) (fen_is start r)) refl,
  (
    no_pgn_by (stipulate_words aim) (Ok (Some (stipulate aim))) (stipulate_asked aim counted) refl,
    each_append IsNoPgn (tag_lines (tags_of e.text) six_names) (insert_lines (no_moves start).reading.study is) (no_pgn_tags (tags_of e.text) six_names)
        (no_pgn_inserts (no_moves start).reading.study is (record { valid = r.valid; playable = tt; distinct = tt }) h),
  ),
)

-- ---- the parts of a block

pub all_silent : (lines : List (List ℕ)) → AllByRecursion IsRemark lines → AllByRecursion IsSilent lines
all_silent [] h = tt
all_silent (line ∷ lines) h = (h.0.silent, all_silent lines h.1)

pub after_silent : (lines : List (List ℕ)) → AllByRecursion IsSilent lines → (d : Document) → after_lines (Some d) lines ≡ Some d
after_silent [] h d = refl
after_silent (line ∷ lines) h d = ap (λ (a : Asks). after_lines (after_line d a) lines) h.0 ∙ after_silent lines h.1 d

pub pgn_done : (s : PlainStudy) → after_lines (Some (composed s)) (codes "pgn" ∷ [] ∷ []) ≡ Some (composed s)
pgn_done s = on_command (composed s) (codes "pgn") ([] ∷ []) (Ok (Some pgn)) pgn_asked ∙ on_command (composed s) [] [] (Ok None) empty_asked

pub study_in_done : (s : PlainStudy) (lines : List (List ℕ)) → IsStudyIn s lines → (d : Document) → HasSixTags d
    → after_lines (Some d) lines ≡ Some (composed s)
study_in_done s lines h d six =
    ap (after_lines (Some d)) h.cut ∙ after_append (Some d) h.front (codes "pgn" ∷ [] ∷ [])
    ∙ ap (λ (o : Option Document). after_lines o (codes "pgn" ∷ [] ∷ [])) (h.leads d six) ∙ pgn_done s

-- below remarks
pub below_remarks : (s : PlainStudy) (above lines : List (List ℕ)) → AllByRecursion IsRemark above → IsStudyIn s lines → IsStudyIn s (above ++ lines)
below_remarks s above lines r h = record {
  front = above ++ h.front;
  cut = ap (λ (ls : List (List ℕ)). above ++ ls) h.cut ∙ sym (append_assoc above h.front (codes "pgn" ∷ [] ∷ []));
  before = each_append IsNoPgn above h.front (no_pgn_remarks above r) h.before;
  leads = λ d six.
      after_append (Some d) above h.front ∙ ap (λ (o : Option Document). after_lines o h.front) (after_remarks above r d) ∙ h.leads d six;
}

pub part_below : (o : Option PlainStudy) (above lines : List (List ℕ)) → AllByRecursion IsRemark above → IsPartOf o lines → IsPartOf o (above ++ lines)
part_below None above lines r h = each_append IsSilent above lines (all_silent above r) h
part_below (Some s) above lines r h = below_remarks s above lines r h

pub one_part : (o : Option PlainStudy) (lines : List (List ℕ)) → IsPartOf o lines → AreParts (o ∷ []) lines
one_part o lines h = (lines, [], sym (append-nil lines), h, refl)

-- each study has six tags
abbrev pub AreSix : List (Option PlainStudy) → Type 0
AreSix [] = Unit {0}
AreSix (None ∷ os) = AreSix os
AreSix (Some s ∷ os) = (length s.tags ≡ 6) × AreSix os

pub parts_lead : (os : List (Option PlainStudy)) (lines : List (List ℕ)) → AreParts os lines → AreSix os → (d : Document) → HasSixTags d
    → after_lines (Some d) lines ≡ Some (document_then d os)
parts_lead [] lines h all d six = ap (after_lines (Some d)) h
parts_lead (None ∷ os) lines (first, rest, cut, part, later) all d six =
    ap (after_lines (Some d)) cut ∙ after_append (Some d) first rest ∙ ap (λ (o : Option Document). after_lines o rest) (after_silent first part d)
    ∙ parts_lead os rest later all d six
parts_lead (Some s ∷ os) lines (first, rest, cut, part, later) all d six =
    ap (after_lines (Some d)) cut ∙ after_append (Some d) first rest
    ∙ ap (λ (o : Option Document). after_lines o rest) (study_in_done s first part d six)
    ∙ parts_lead os rest later all.1 (composed s) all.0

pub six_behind : (os : List (Option PlainStudy)) → AreSix os → (d : Document) → HasSixTags d → HasSixTags (document_then d os)
six_behind [] all d six = six
six_behind (None ∷ os) all d six = six_behind os all d six
six_behind (Some s ∷ os) all d six = six_behind os all.1 (composed s) all.0

-- ---- a block

-- a block that leads to these studies
pub record Reads (block : Block) (os : List (Option PlainStudy)) : Type 0 where
  pub studies : block.studies ≡ count_by is_some os
  pub lines : List (List ℕ)
  pub spelled : Spelled block.text lines
  pub parts : AreParts os lines
  pub six : AreSix os

pub remarks_read : (t : List ℕ) → AreLines IsRemark t → Reads (no_study t) (None ∷ [])
remarks_read t h = record {
  studies = refl;
  lines = h.lines;
  spelled = remarks_spelled t h;
  parts = one_part None h.lines (all_silent h.lines h.each);
  six = tt;
}

-- the lines of a study
pub study_part : (e : Entry) (start : Start) (aim : Stipulation) (is : List Insertion) (tree : PlainStudy) → IsStart start → IsCounted aim.goal
    → AllAccepted (Unit {0}) (no_moves start).reading.study is → AllReadAgain (no_moves start).reading.study is
    → tree ≡ made_by (no_moves start).reading.study is
    → IsStudyIn (record { start = start; stipulation = aim; tags = tag_texts (tags_of e.text); tree = tree.tree }) (lines_of_study e start aim is)
study_part e start aim is tree r counted h k made =
    let own : PlainStudy = record { start = start; stipulation = aim; tags = tag_texts (tags_of e.text); tree = tree.tree } in
    let same : framed (made_by (no_moves start).reading.study is) aim (tag_texts (tags_of e.text)) ≡ own =
    ap (λ (x : Start). record {
      start = x;
      stipulation = aim;
      tags = tag_texts (tags_of e.text);
      tree = (made_by (no_moves start).reading.study is).tree;
    })
    (made_start (no_moves start).reading.study is)
    ∙ ap (λ (x : PlainStudy). record { start = start; stipulation = aim; tags = tag_texts (tags_of e.text); tree = x.tree }) (sym made) in
    record {
      front = front_of_study e start aim is;
      cut = study_cut e start aim is;
      before = study_silent e start aim is r counted h;
      leads = λ d six. study_done e start aim is d six r counted h k ∙ ap (λ (x : PlainStudy). Some (composed x)) same;
    }

pub block_reads : (e : Entry) (start : Start) (aim : Aim) (t : Reported) (is : List Insertion) (tree : PlainStudy) → IsStart start → IsCounted aim.stipulation.goal
    → AllAccepted (Unit {0}) (no_moves start).reading.study is → AllReadAgain (no_moves start).reading.study is
    → tree ≡ made_by (no_moves start).reading.study is → t.inserts ≡ lines_for (no_moves start).reading.study is
    → Reads (record { text = block_lines e start aim t; studies = 1 })
    (Some (record { start = start; stipulation = aim.stipulation; tags = tag_texts (tags_of e.text); tree = tree.tree }) ∷ [])
unfolding block_lines
block_reads e start aim t is tree r counted h k made inserts =
    let head = head_remark e aim in
    let remarks = remarks_are e t in
    let lines = lines_of_study e start aim.stipulation is in
    let whole = head.lines ++ (remarks.lines ++ lines) in
    let spelled : Spelled (study_lines e start aim.stipulation t.inserts) lines =
    subst (λ (x : List ℕ). Spelled (study_lines e start aim.stipulation x) lines) (sym inserts) (study_spelled e start aim.stipulation is r h) in
    let all = both (head_line e aim) (remark_lines e t ++ study_lines e start aim.stipulation t.inserts) head.lines (remarks.lines ++ lines)
    (remarks_spelled (head_line e aim) head)
    (both (remark_lines e t) (study_lines e start aim.stipulation t.inserts) remarks.lines lines (remarks_spelled (remark_lines e t) remarks) spelled) in
    let own : PlainStudy = record { start = start; stipulation = aim.stipulation; tags = tag_texts (tags_of e.text); tree = tree.tree } in
    let study = study_part e start aim.stipulation is tree r counted h k made in
    record {
      studies = refl;
      lines = whole;
      spelled = all;
      parts = one_part (Some own) whole
          (below_remarks own head.lines (remarks.lines ++ lines) head.each (below_remarks own remarks.lines lines remarks.each study));
      six = (refl, tt);
    }

-- ---- a game

pub parts_below : (o : Option PlainStudy) (os : List (Option PlainStudy)) (above lines : List (List ℕ)) → AllByRecursion IsRemark above
    → AreParts (o ∷ os) lines → AreParts (o ∷ os) (above ++ lines)
parts_below o os above lines h (first, rest, cut, part, later) = (
  above ++ first,
  rest,
  ap (λ (ls : List (List ℕ)). above ++ ls) cut ∙ sym (append_assoc above first rest),
  part_below o above first h part,
  later,
)

-- a block below a remark
pub under_reads : (remark : List ℕ) (block : Block) (os : List (Option PlainStudy)) → 1 ≤ length os → AreLines IsRemark remark → Reads block os
    → Reads (under_remark remark block) os
under_reads remark block [] some h r = absurd (omega arith)
under_reads remark block (o ∷ os) some h r = record {
  studies = r.studies;
  lines = h.lines ++ r.lines;
  spelled = both remark block.text h.lines r.lines (remarks_spelled remark h) r.spelled;
  parts = parts_below o os h.lines r.lines h.each r.parts;
  six = r.six;
}

-- Lines of remarks have no command.
use Rattle.std.proofs.Common.{◌≡◌, ℕ, zero, suc, ◌+◌, ◌≤◌, Bool, true, false, List, [], ◌∷◌, ◌++◌, length, take, map, Option, Some, None, Ok, refl}
use Rattle.std.proofs.Common.{sym, ap, subst, ◌∙◌, inl, inr, arith, length-append}
use Rattle.std.specs.Prelude.{◌==◌, ◌&&◌, ◌||◌, ◌*◌, nat_le, codes, decimal, if◌then◌else◌}
use Rattle.std.specs.List.{list_all, flat_map, prefix_len, AllByRecursion}
use Rattle.std.specs.Str.{bytes_eq}
use Rattle.std.proofs.lemmas.Bool.{and_from, and_parts, le-leb, leb-true, leb-false, cases_Bool, or_parts, cases_lt, agree_below, agree_below_at, false≢true}
use Rattle.std.proofs.lemmas.List.Folds.{list_all-append}
use Rattle.std.proofs.lemmas.List.Concat.{flat_map-append}
use Rattle.std.proofs.lemmas.List.{append-nil, length-map}
use Rattle.study_notation.specs.declared.fault.FenFault.{FenFault}
use Rattle.study_notation.specs.declared.fault.FenFault.TheVariants as fen
use Rattle.study_notation.specs.declared.fault.SanFault.{SanFault}
use Rattle.study_notation.specs.declared.fault.SanFault.TheVariants as san
use Rattle.study_marks.specs.declared.tag.TagName.{TagName}
use Rattle.study_marks.specs.declared.tag.TagName.TheVariants as named
use Rattle.study_marks.specs.Edits.{is_printable}
use Rattle.study_marks.specs.Study.{tag_name}
use Rattle.study_command.specs.Parser.{Asks, command_of}
use Rattle.study_reply.specs.Names.{fen_name, san_name}
use Rattle.study_games.specs.Bytes.{is_blank, is_digit, is_symbol_byte}
use Rattle.study_games.specs.Tokens.{front, behind}
use Rattle.study_games.specs.Words.{first_word, trim}
use Rattle.study_games.specs.Header.{Pair, tags_of, value_of, named_count, unescape}
use Rattle.study_games.specs.declared.token.TokenFault.{TokenFault}
use Rattle.study_games.specs.declared.token.TokenFault.TheVariants as token
use Rattle.study_reading.specs.declared.lines.LineFault.{LineFault}
use Rattle.study_reading.specs.declared.lines.LineFault.TheVariants as line_fault
use Rattle.study_reading.specs.declared.moves.MoveFault.{MoveFault}
use Rattle.study_reading.specs.declared.moves.MoveFault.TheVariants as move_fault
use Rattle.study_reading.specs.declared.token_effects.Reason.{Reason}
use Rattle.study_reading.specs.declared.token_effects.Reason.TheVariants as reason
use Rattle.study_reading.specs.declared.movetext.MovesFault.{MovesFault}
use Rattle.study_reading.specs.declared.movetext.Stop.{Stop}
use Rattle.study_reading.specs.declared.movetext.Stop.TheVariants as stop
use Rattle.study_remark.specs.declared.remark.Doubt.{Doubt}
use Rattle.study_remark.specs.declared.remark.Doubt.TheVariants as doubt
use Rattle.study_remark.specs.declared.remark.Original.{Original}
use Rattle.study_remark.specs.declared.remark.Original.TheVariants as original
use Rattle.study_remark.specs.Remarks as told
use Rattle.study_reading.specs.declared.aims.Aim.{Aim}
use Rattle.study_reading.specs.declared.aims.Doubts.{Doubts}
use Rattle.study_remark.specs.declared.remark.Source.{Source}
use Rattle.study_remark.specs.declared.remark.Source.TheVariants.{Comment, StipulationTag, ResultTag, Result as EndResult, Given}
use Rattle.study_reading.specs.declared.notes.Notes.{Notes}
use Rattle.study_import.specs.declared.places.Place.{Place}
use Rattle.study_reading.specs.declared.aims.Sources.{Sources}
use Rattle.study_reading.specs.Aims.{unaimed_words}
use Rattle.study_import.specs.Blocks.{Entry, Reported, place_in, text_at, token_name, move_name, line_name, reason_name, stop_name, run_words}
use Rattle.study_import.specs.Blocks.{stop_words, subject_at, not_read_line, symbol_words, name_of, quoted, entry_names, no_colon, told_words, left_out, fault_words, counts_words, counts_line, doubt_line, doubt_lines, source_line, original_named}
use Rattle.study_import.specs.Blocks.{move_counts, counted_words, behind_line, six_names, remark_byte, tag_text, was_text, latin_line, was_of, was_line, head_line, letters_line}
use Rattle.study_import.specs.Blocks.{remark_lines}
use Rattle.study_games.specs.Characters.{is_utf8}
use Rattle.study_games.specs.declared.language.Language.{Language}
use Rattle.study_games.specs.declared.language.Language.TheVariants.{German, French, Spanish, Dutch}
use Rattle.study_games.specs.Languages.{language_name}
use Rattle.study_import.specs.Blocks.{other_tags, repeated_name, repeated_words, stopped_block, men_in, fen_words, at_most, last_line, tail_line}
use Rattle.study_import.proofs.Ink.{Ink, decimal_ink, decimal_few}
use Rattle.study_import.proofs.TagTexts.{short_prints, short_few}
use Rattle.study_import.proofs.CommandLines.{remark_asked, empty_asked}

-- a byte that is not a control code below the space
abbrev pub shows : ℕ → Bool
shows b = nat_le 32 b

-- a line that can be read back
pub record IsLine (line : List ℕ) : Type 0 where
  pub shown : list_all shows line ≡ true
  pub few : length line ≤ 1024

-- a line without a command
pub record IsRemark (line : List ℕ) : Type 0 where
  pub fits : IsLine line
  pub silent : ◌≡◌ {A = Asks} (command_of line) (Ok None)

abbrev pub fed : List ℕ → List ℕ
fed line = line ++ 10 ∷ []

-- a text of such lines, each with its line feed
pub record AreLines (C : List ℕ → Type 0) (t : List ℕ) : Type 0 where
  pub lines : List (List ℕ)
  pub each : AllByRecursion C lines
  pub text : t ≡ flat_map fed lines

pub each_append : (C : List ℕ → Type 0) (xs ys : List (List ℕ)) → AllByRecursion C xs → AllByRecursion C ys → AllByRecursion C (xs ++ ys)
each_append C [] ys h k = k
each_append C (x ∷ xs) ys h k = (h.0, each_append C xs ys h.1 k)

module _ (C : List ℕ → Type 0) where
  pub no_lines : AreLines C []
  no_lines = record { lines = []; each = tt; text = refl }

  pub one_line : (t line : List ℕ) → t ≡ line ++ 10 ∷ [] → C line → AreLines C t
  one_line t line e h = record { lines = line ∷ []; each = (h, tt); text = e ∙ sym (append-nil (line ++ 10 ∷ [])) }

  pub more_lines : (s t : List ℕ) → AreLines C s → AreLines C t → AreLines C (s ++ t)
  more_lines s t h k = record {
    lines = h.lines ++ k.lines;
    each = each_append C h.lines k.lines h.each k.each;
    text = ap (λ (x : List ℕ). x ++ t) h.text ∙ ap (λ (x : List ℕ). flat_map fed h.lines ++ x) k.text ∙ sym (flat_map-append fed h.lines k.lines);
  }

-- ---- parts of a line

pub record IsPart (n : ℕ) (t : List ℕ) : Type 0 where
  pub shown : list_all shows t ≡ true
  pub few : length t ≤ n

pub shown_append : (xs ys : List ℕ) → list_all shows xs ≡ true → list_all shows ys ≡ true → list_all shows (xs ++ ys) ≡ true
shown_append xs ys h k = list_all-append shows xs ys ∙ and_from (list_all shows xs) (list_all shows ys) h k

pub joined : (m n : ℕ) (xs ys : List ℕ) → IsPart m xs → IsPart n ys → IsPart (m + n) (xs ++ ys)
joined m n xs ys h k = record { shown = shown_append xs ys h.shown k.shown; few = omega (arith, length-append xs ys, h.few, k.few) }

pub wider : (m n : ℕ) (t : List ℕ) → m ≤ n → IsPart m t → IsPart n t
wider m n t le h = record { shown = h.shown; few = omega (arith, h.few) }

pub shown_ink : (xs : List ℕ) → Ink xs → list_all shows xs ≡ true
shown_ink [] h = refl
shown_ink (x ∷ xs) h = let low = h.0 in rw (le-leb 32 x (omega arith)) (shown_ink xs h.2)

pub number_part : (n : ℕ) → IsPart 64 (decimal n)
number_part n = record { shown = shown_ink (decimal n) (decimal_ink n); few = decimal_few n }

pub remark_line : (t : List ℕ) → IsPart 1000 t → IsRemark (35 ∷ t)
remark_line t h = record { fits = record { shown = h.shown; few = omega (arith, h.few) }; silent = remark_asked t }

pub empty_line : IsRemark []
empty_line = record { fits = record { shown = refl; few = omega arith }; silent = empty_asked }

-- a remark is a line without a command
remark_is : (t : told.Told) → IsPart 998 (told.remark_words t) → AreLines IsRemark (told.remark_text t)
unfolding told.remark_text
remark_is t h =
    one_line IsRemark _ (35 ∷ (codes "! " ++ told.remark_words t)) refl
    (remark_line _ (joined 2 998 (codes "! ") (told.remark_words t) (record { shown = refl; few = omega arith }) h))

-- a text with a number behind it
pub numbered : (k n : ℕ) (word rest : List ℕ) (number : ℕ) → IsPart k word → IsPart n rest → IsPart (k + (64 + n)) (word ++ (decimal number ++ rest))
numbered k n word rest number w h = joined k (64 + n) word (decimal number ++ rest) w (joined 64 n (decimal number) rest (number_part number) h)

-- ---- the game of a remark

column_part : (column : Option ℕ) → IsPart 73 (told.column_words column)
column_part None = record { shown = refl; few = omega arith }
column_part (Some column) =
    joined 9 64 (codes ", column ") (decimal column) (record { shown = refl; few = omega arith }) (number_part column)

author_by : (author : List ℕ) (none : Bool) → IsPart 124 author → IsPart 127 (if none then [] else codes " (" ++ (author ++ codes ")"))
author_by author true h = record { shown = refl; few = omega arith }
author_by author false h =
    joined 2 125 (codes " (") _ (record { shown = refl; few = omega arith })
    (joined 124 1 author (codes ")") h (record { shown = refl; few = omega arith }))

subject_part : (g : told.Game) → IsPart 124 g.author → IsPart 342 (told.subject_words g)
unfolding told.subject_words
subject_part g h =
    numbered 5 (7 + (64 + (73 + (127 + 2)))) (codes "game ") _ g.game (record { shown = refl; few = omega arith })
    (numbered 7 (73 + (127 + 2)) (codes ", line ") _ g.line (record { shown = refl; few = omega arith })
    (joined 73 (127 + 2) (told.column_words g.column) _ (column_part g.column)
    (joined 127 2 (told.author_words g.author) (codes ": ") (author_by g.author (length g.author == 0) h) (record { shown = refl; few = omega arith }))))

-- ---- the head of a block

source_part : (s : Source) → IsPart 34 (told.stipulated_words s)
unfolding told.stipulated_words
source_part Comment = record { shown = refl; few = omega arith }
source_part StipulationTag = record { shown = refl; few = omega arith }
source_part ResultTag = record { shown = refl; few = omega arith }
source_part EndResult = record { shown = refl; few = omega arith }
source_part Given = record { shown = refl; few = omega arith }

source_remark : (e : Entry) (aim : Aim) → AreLines IsRemark (source_line e aim)
source_remark e aim =
    remark_is _ (wider (342 + 34) 998 _ (omega arith)
    (joined 342 34 (told.subject_words (record { game = e.number; line = e.line; column = None; author = [] })) (told.stipulated_words aim.source)
    (subject_part _ (record { shown = refl; few = omega arith })) (source_part aim.source)))

doubt_part : (why : Doubt) → IsPart 60 (told.remark_words (told.doubted why))
doubt_part doubt.CommentUnread = record { shown = refl; few = omega arith }
doubt_part doubt.TagUnread = record { shown = refl; few = omega arith }
doubt_part doubt.TagDiffers = record { shown = refl; few = omega arith }
doubt_part doubt.ResultTagDiffers = record { shown = refl; few = omega arith }
doubt_part doubt.ResultDiffers = record { shown = refl; few = omega arith }

doubt_remark : (doubted : Bool) (why : Doubt) → AreLines IsRemark (doubt_line doubted why)
doubt_remark false why = no_lines IsRemark
doubt_remark true why = remark_is (told.doubted why) (wider 60 998 _ (omega arith) (doubt_part why))

doubt_remarks : (d : Doubts) → AreLines IsRemark (doubt_lines d)
unfolding doubt_lines
doubt_remarks d =
    more_lines IsRemark _ _ (doubt_remark d.comment_unread doubt.CommentUnread)
    (more_lines IsRemark _ _ (doubt_remark d.tag_unread doubt.TagUnread)
    (more_lines IsRemark _ _ (doubt_remark d.tag_differs doubt.TagDiffers)
    (more_lines IsRemark _ _ (doubt_remark d.result_tag_differs doubt.ResultTagDiffers) (doubt_remark d.result_differs doubt.ResultDiffers))))

pub head_remark : (e : Entry) (aim : Aim) → AreLines IsRemark (head_line e aim)
head_remark e aim = more_lines IsRemark (source_line e aim) (doubt_lines aim.doubts) (source_remark e aim) (doubt_remarks aim.doubts)

-- ---- counts

one_count : (first : Bool) (name : List ℕ) (n k : ℕ) (none : Bool) → IsPart k name
    → IsPart (2 + (k + (1 + 64))) (if none then [] else (if first then [] else codes ", ") ++ (name ++ (codes " " ++ decimal n)))
one_count first name n k true h = record { shown = refl; few = omega arith }
one_count true name n k false h =
    joined 2 (k + (1 + 64)) [] _ (record { shown = refl; few = omega arith })
    (joined k (1 + 64) name _ h (joined 1 64 (codes " ") (decimal n) (record { shown = refl; few = omega arith }) (number_part n)))
one_count false name n k false h =
    joined 2 (k + (1 + 64)) (codes ", ") _ (record { shown = refl; few = omega arith })
    (joined k (1 + 64) name _ h (joined 1 64 (codes " ") (decimal n) (record { shown = refl; few = omega arith }) (number_part n)))

abbrev Names : List (List ℕ × ℕ) → Type 0
Names [] = Unit {0}
Names (c ∷ cs) = IsPart 13 c.0 × Names cs

all_counts : (first : Bool) (cs : List (List ℕ × ℕ)) → Names cs → IsPart (80 * length cs) (counts_words first cs)
all_counts first [] h = record { shown = refl; few = omega arith }
all_counts first (c ∷ cs) h =
    wider (80 + 80 * length cs) (80 * length (c ∷ cs)) _ (omega arith)
    (joined 80 (80 * length cs) _ _ (one_count first c.0 c.1 13 (c.1 == 0) h.0) (all_counts (first && c.1 == 0) cs h.1))

name_part : (name : List ℕ) → list_all shows name ≡ true → nat_le (length name) 13 ≡ true → IsPart 13 name
name_part name h k = record { shown = h; few = leb-true (length name) 13 k }

counted_part : (n : Notes) (tags repeated : ℕ) → IsPart 640 (counted_words n tags repeated)
unfolding counted_words
counted_part n tags repeated =
    all_counts true ((codes "comments", n.comments) ∷ (codes "words", n.words) ∷ (codes "NAGs", n.asides) ∷ (codes "tags", tags) ∷ move_counts n repeated) (
      name_part (codes "comments") refl refl,
      (
        name_part (codes "words") refl refl,
        (
          name_part (codes "NAGs") refl refl,
          (
            name_part (codes "tags") refl refl,
            (
              name_part (codes "repeated") refl refl,
              (
                name_part (codes "null moves") refl refl,
                (name_part (codes "moves behind") refl refl, (name_part (codes "wrong signs") refl refl, tt)),
              ),
            ),
          ),
        ),
      ),
    )

counts_remark : (words : List ℕ) (none : Bool) → IsPart 640 words → AreLines IsRemark (if none then [] else told.remark_text (told.not_taken_over words))
counts_remark words true h = no_lines IsRemark
counts_remark words false h =
    remark_is (told.not_taken_over words) (wider (16 + 640) 998 _ (omega arith)
    (joined 16 640 (codes "not taken over: ") words (record { shown = refl; few = omega arith }) h))

-- ---- places

behind_by : (p : Place) (none : Bool) → AreLines IsRemark (if none then [] else told.remark_text (told.behind_result p.line p.column))
behind_by p true = no_lines IsRemark
behind_by p false =
    remark_is (told.behind_result p.line p.column) (wider (24 + (64 + (9 + 64))) 998 _ (omega arith)
    (numbered 24 (9 + 64) (codes "behind the result: line ") _ p.line (record { shown = refl; few = omega arith })
    (joined 9 64 (codes ", column ") (decimal p.column) (record { shown = refl; few = omega arith }) (number_part p.column))))

behind_remark : (e : Entry) (text : List ℕ) → AreLines IsRemark (behind_line e text)
unfolding behind_line
behind_remark e text = behind_by (place_in e (length (behind is_blank text))) (length (behind is_blank text) == 0)

-- ---- originals of tags

shown_by : (b : ℕ) (low : Bool) → (nat_le b 31 || b == 127) ≡ low → shows (if low then 32 else b) ≡ true
shown_by b true e = refl
shown_by b false e =
    let high = leb-false b 31 (or_parts (nat_le b 31) (b == 127) e).0 in
    le-leb 32 b (omega arith)

all_shown : (bytes : List ℕ) → list_all shows (map remark_byte bytes) ≡ true
all_shown [] = refl
all_shown (b ∷ bs) = rw (shown_by b (nat_le b 31 || b == 127) refl) (all_shown bs)

original_part : (value : List ℕ) → IsPart 255 (map remark_byte (take 255 value))
original_part value = record { shown = all_shown (take 255 value); few = few_mapped value }
  where
    few_taken : (n : ℕ) (xs : List ℕ) → length (take n xs) ≤ n
    few_taken zero xs = omega arith
    few_taken (suc n) [] = omega arith
    few_taken (suc n) (x ∷ xs) = omega (arith, few_taken n xs)

    few_by : (k : ℕ) → k ≡ 255 → (value : List ℕ) → length (map remark_byte (take k value)) ≤ 255
    few_by k e value = omega (arith, length-map (take k value) remark_byte, few_taken k value)

    few_mapped : (value : List ℕ) → length (map remark_byte (take 255 value)) ≤ 255
    few_mapped value = few_by 255 refl value

original_name_part : (name : Original) → IsPart 5 (told.original_name name)
original_name_part original.Event = record { shown = refl; few = omega arith }
original_name_part original.Site = record { shown = refl; few = omega arith }
original_name_part original.Date = record { shown = refl; few = omega arith }
original_name_part original.Round = record { shown = refl; few = omega arith }
original_name_part original.White = record { shown = refl; few = omega arith }
original_name_part original.Black = record { shown = refl; few = omega arith }

pub tag_part : (name : TagName) → IsPart 5 (tag_name name)
tag_part named.Event = record { shown = refl; few = omega arith }
tag_part named.Site = record { shown = refl; few = omega arith }
tag_part named.Date = record { shown = refl; few = omega arith }
tag_part named.Round = record { shown = refl; few = omega arith }
tag_part named.White = record { shown = refl; few = omega arith }
tag_part named.Black = record { shown = refl; few = omega arith }

was_by : (name : Original) (value : List ℕ) (same : Bool)
    → AreLines IsRemark (if same then [] else told.remark_text (told.original_of name (map remark_byte (take 255 value))))
was_by name value true = no_lines IsRemark
was_by name value false =
    remark_is (told.original_of name (map remark_byte (take 255 value))) (wider (5 + (6 + 255)) 998 _ (omega arith)
    (joined 5 (6 + 255) (told.original_name name) _ (original_name_part name)
    (joined 6 255 (codes " was: ") (map remark_byte (take 255 value)) (record { shown = refl; few = omega arith }) (original_part value))))

latin_by : (name : Original) (same : Bool) → AreLines IsRemark (if same then [] else told.remark_text (told.latin_1 name))
latin_by name true = no_lines IsRemark
latin_by name false =
    remark_is (told.latin_1 name) (wider (17 + 5) 998 _ (omega arith)
    (joined 17 5 (codes "read as Latin 1: ") (told.original_name name) (record { shown = refl; few = omega arith }) (original_name_part name)))

-- ---- letters of another language

language_part : (l : Language) → IsPart 7 (language_name l)
language_part German = record { shown = refl; few = omega arith }
language_part French = record { shown = refl; few = omega arith }
language_part Spanish = record { shown = refl; few = omega arith }
language_part Dutch = record { shown = refl; few = omega arith }

letters_remark : (l : Option Language) → AreLines IsRemark (letters_line l)
letters_remark None = no_lines IsRemark
letters_remark (Some l) =
    remark_is (told.letters (language_name l)) (wider (9 + 7) 998 _ (omega arith)
    (joined 9 7 (codes "letters: ") (language_name l) (record { shown = refl; few = omega arith }) (language_part l)))

was_remark : (name : TagName) (value : Option (List ℕ)) → AreLines IsRemark (was_of name value)
was_remark name None = no_lines IsRemark
was_remark name (Some value) =
    more_lines IsRemark (was_text name (unescape value)) (latin_line name (unescape value))
    (was_by (original_named name) (unescape value) (bytes_eq (tag_text (unescape value)) (trim (unescape value))))
    (latin_by (original_named name) (is_utf8 (unescape value)))

was_lines : (tags : List Pair) (names : List TagName) → AreLines IsRemark (flat_map (was_line tags) names)
unfolding was_line
was_lines tags [] = no_lines IsRemark
was_lines tags (name ∷ names) =
    more_lines IsRemark (was_of name (value_of (tag_name name) tags)) (flat_map (was_line tags) names) (was_remark name (value_of (tag_name name) tags))
    (was_lines tags names)

pub remarks_are : (e : Entry) (t : Reported) → AreLines IsRemark (remark_lines e t)
unfolding remark_lines
remarks_are e t =
    let counts = counts_line (counted_words t.notes (other_tags (tags_of e.text)) t.repeated) in
    let rest = behind_line e t.behind ++ flat_map (was_line (tags_of e.text)) six_names in
    more_lines IsRemark (letters_line t.language) (counts ++ rest) (letters_remark t.language)
    (more_lines IsRemark counts rest
    (counts_remark (counted_words t.notes (other_tags (tags_of e.text)) t.repeated) (length (counted_words t.notes (other_tags (tags_of e.text)) t.repeated)
    == 0)
    (counted_part t.notes (other_tags (tags_of e.text)) t.repeated))
    (more_lines IsRemark (behind_line e t.behind) (flat_map (was_line (tags_of e.text)) six_names) (behind_remark e t.behind)
    (was_lines (tags_of e.text) six_names)))

-- ---- games without a study

-- a remark, and an empty line
with_empty : (t : List ℕ) → AreLines IsRemark t → AreLines IsRemark (t ++ codes "\n")
with_empty t h = more_lines IsRemark t (codes "\n") h (one_line IsRemark (codes "\n") [] refl empty_line)

-- author and title
colon_shows : (b : ℕ) (colon : Bool) → (b == 58) ≡ colon → shows b ≡ true → shows (if colon then 44 else b) ≡ true
colon_shows b true e h = refl
colon_shows b false e h = h

no_colons : (bytes : List ℕ) → list_all is_printable bytes ≡ true → list_all shows (map no_colon bytes) ≡ true
no_colons [] h = refl
no_colons (b ∷ bs) h =
    let all = and_parts (is_printable b) (list_all is_printable bs) h in
    rw (colon_shows b (b == 58) refl (and_parts (nat_le 32 b) (nat_le b 126) all.0).0) (no_colons bs all.1)

name_by : (text : List ℕ) (none : Bool) → length text ≤ 60 → list_all is_printable text ≡ true
    → IsPart 60 (if none then [] else map no_colon text)
name_by text true few prints = record { shown = refl; few = omega arith }
name_by text false few prints = record { shown = no_colons text prints; few = omega (arith, length-map text no_colon, few) }

known_part : (value : Option (List ℕ)) → IsPart 60 (name_of value)
known_part None = record { shown = refl; few = omega arith }
known_part (Some value) =
    name_by (tag_text (unescape value)) (bytes_eq (tag_text (unescape value)) (codes "?"))
    (short_few (unescape value)) (short_prints (unescape value))

quoted_part : (text : List ℕ) → IsPart 60 text → IsPart 62 (quoted text)
quoted_part text h =
    joined 1 61 (codes "\"") _ (record { shown = refl; few = omega arith })
    (joined 60 1 text (codes "\"") h (record { shown = refl; few = omega arith }))

both_part : (author title : List ℕ) (no_author no_title : Bool) → IsPart 60 author → IsPart 60 title
    → IsPart 124 (if no_title then author else (if no_author then quoted title else author ++ (codes "; " ++ quoted title)))
both_part author title no_author true h k = wider 60 124 author (omega arith) h
both_part author title true false h k = wider 62 124 (quoted title) (omega arith) (quoted_part title k)
both_part author title false false h k =
    joined 60 (2 + 62) author (codes "; " ++ quoted title) h
    (joined 2 62 (codes "; ") (quoted title) (record { shown = refl; few = omega arith }) (quoted_part title k))

names_part : (tags : List Pair) → IsPart 124 (entry_names tags)
unfolding entry_names
names_part tags =
    let author = value_of (tag_name named.White) tags in
    let title = value_of (tag_name named.Event) tags in
    both_part (name_of author) (name_of title) (length (name_of author) == 0) (length (name_of title) == 0) (known_part author) (known_part title)

told_is : (number line : ℕ) (column : Option ℕ) (author words : List ℕ) → IsPart 124 author → IsPart 200 words
    → AreLines IsRemark (told_words number line column author words)
unfolding told_words
told_is number line column author words h k =
    with_empty _ (remark_is _ (wider (342 + 200) 998 _ (omega arith)
    (joined 342 200 (told.subject_words (record { game = number; line = line; column = column; author = author })) words (subject_part _ h) k)))

pub left_out_is : (e : Entry) (words : List ℕ) → IsPart 200 words → AreLines IsRemark (left_out e words)
left_out_is e words h = told_is e.number e.line None (entry_names (tags_of e.text)) words (names_part (tags_of e.text)) h

pub fault_words_are : (e : Entry) (p : Place) (words : List ℕ) → IsPart 100 words → AreLines IsRemark (fault_words e p words)
fault_words_are e p words h =
    told_is e.number p.line (Some p.column) (entry_names (tags_of e.text)) words (names_part (tags_of e.text)) (wider 100 200 words (omega arith) h)

-- ---- names of faults

pub token_part : (fault : TokenFault) → IsPart 20 (token_name fault)
token_part token.OpenComment = record { shown = refl; few = omega arith }
token_part token.TagForm = record { shown = refl; few = omega arith }
token_part token.OpenString = record { shown = refl; few = omega arith }
token_part token.Byte = record { shown = refl; few = omega arith }

san_part : (fault : SanFault) → IsPart 20 (san_name fault)
san_part san.NotSan = record { shown = refl; few = omega arith }
san_part san.CastlingLeftOut = record { shown = refl; few = omega arith }
san_part san.NoSuchMove = record { shown = refl; few = omega arith }
san_part san.Ambiguous = record { shown = refl; few = omega arith }

move_part : (fault : MoveFault) → IsPart 20 (move_name fault)
move_part move_fault.NoSuchNode = record { shown = refl; few = omega arith }
move_part (move_fault.San fault) = san_part fault
move_part move_fault.TooDeep = record { shown = refl; few = omega arith }
move_part move_fault.TreeFull = record { shown = refl; few = omega arith }
move_part move_fault.OutOfMemory = record { shown = refl; few = omega arith }

line_fault_part : (fault : LineFault) → IsPart 20 (line_name fault)
line_fault_part line_fault.NoMoveBefore = record { shown = refl; few = omega arith }
line_fault_part line_fault.TooNested = record { shown = refl; few = omega arith }
line_fault_part line_fault.NotOpened = record { shown = refl; few = omega arith }
line_fault_part line_fault.OutOfMemory = record { shown = refl; few = omega arith }

reason_part : (why : Reason) → IsPart 20 (reason_name why)
reason_part (reason.Move fault) = move_part fault
reason_part (reason.Line fault) = line_fault_part fault
reason_part reason.TagInMoves = record { shown = refl; few = omega arith }
reason_part reason.NullMove = record { shown = refl; few = omega arith }
reason_part reason.BehindWord = record { shown = refl; few = omega arith }

stop_part : (why : Stop) → IsPart 20 (stop_name why)
stop_part (stop.Token fault) = token_part fault
stop_part (stop.Taking why) = reason_part why
stop_part stop.OpenVariation = record { shown = refl; few = omega arith }
stop_part stop.Numbering = record { shown = refl; few = omega arith }
stop_part stop.BehindResult = record { shown = refl; few = omega arith }

-- no byte of a symbol is a control code
low_bytes : agree_below is_symbol_byte (λ _. false) 32 ≡ true
low_bytes = refl

symbol_shows : (b : ℕ) → is_symbol_byte b ≡ true → shows b ≡ true
symbol_shows b e = elim (cases_lt b 32) [
  | inl low ↦ absurd (false≢true (sym (agree_below_at is_symbol_byte (λ _. false) 32 b low_bytes low) ∙ e))
  | inr high ↦ le-leb 32 b high
]

digit_shows : (b : ℕ) → is_digit b ≡ true → shows b ≡ true
digit_shows b e = let low = leb-true 48 b (and_parts (nat_le 48 b) (nat_le b 57) e).0 in le-leb 32 b (omega (arith, low))

module _ (p : ℕ → Bool) (shown : (b : ℕ) → p b ≡ true → shows b ≡ true) where
  front_shown : (text : List ℕ) → list_all shows (front p text) ≡ true
  front_shown [] = refl
  front_shown (b ∷ bs) = elim (cases_Bool (p b)) [
    | inl is ↦ rw is (front_cons b bs (prefix_len p bs) is (front_shown bs))
    | inr other ↦ rw other refl
  ]
    where
      one_up : (n : ℕ) → 1 + n ≡ suc n
      one_up n = omega arith

      front_cons : (b : ℕ) (bs : List ℕ) (n : ℕ) → p b ≡ true → list_all shows (take n bs) ≡ true → list_all shows (take (1 + n) (b ∷ bs)) ≡ true
      front_cons b bs n is h = rw (one_up n) (and_from (shows b) (list_all shows (take n bs)) (shown b is) h)

shown_take : (n : ℕ) (xs : List ℕ) → list_all shows xs ≡ true → list_all shows (take n xs) ≡ true
shown_take zero xs h = refl
shown_take (suc n) [] h = refl
shown_take (suc n) (x ∷ xs) h = let a = and_parts (shows x) (list_all shows xs) h in rw a.0 (shown_take n xs a.1)

few_taken : (n : ℕ) (xs : List ℕ) → length (take n xs) ≤ n
few_taken zero xs = omega arith
few_taken (suc n) [] = omega arith
few_taken (suc n) (x ∷ xs) = omega (arith, few_taken n xs)

at_run : (p : ℕ → Bool) → ((b : ℕ) → p b ≡ true → shows b ≡ true) → (text : List ℕ) → IsPart 44 (run_words p text)
at_run p shown text =
    joined 4 40 (codes " at ") (take 40 (front p text)) (record { shown = refl; few = omega arith })
    (record { shown = shown_take 40 (front p text) (front_shown p shown text); few = few_taken 40 (front p text) })

none_part : IsPart 44 []
none_part = record { shown = refl; few = omega arith }

symbol_part : (why : Stop) (text : List ℕ) → IsPart 44 (symbol_words why text)
symbol_part (stop.Taking (reason.Move (move_fault.San fault))) text = at_run is_symbol_byte symbol_shows text
symbol_part (stop.Taking (reason.Move move_fault.NoSuchNode)) text = none_part
symbol_part (stop.Taking (reason.Move move_fault.TooDeep)) text = none_part
symbol_part (stop.Taking (reason.Move move_fault.TreeFull)) text = none_part
symbol_part (stop.Taking (reason.Move move_fault.OutOfMemory)) text = none_part
symbol_part (stop.Taking (reason.Line fault)) text = none_part
symbol_part (stop.Taking reason.TagInMoves) text = none_part
symbol_part (stop.Taking reason.NullMove) text = none_part
symbol_part (stop.Taking reason.BehindWord) text = at_run is_symbol_byte symbol_shows text
symbol_part (stop.Token fault) text = none_part
symbol_part stop.OpenVariation text = none_part
symbol_part stop.Numbering text = at_run is_digit digit_shows text
symbol_part stop.BehindResult text = none_part

stop_words_part : (e : Entry) (fault : MovesFault) → IsPart 100 (stop_words e fault)
stop_words_part e fault =
    wider (20 + 44) 100 _ (omega arith)
    (joined 20 44 (stop_name fault.why) (symbol_words fault.why (text_at e fault.left)) (stop_part fault.why)
    (symbol_part fault.why (text_at e fault.left)))

pub stopped_lines : (e : Entry) (fault : MovesFault) → AreLines IsRemark (stopped_block e fault).text
stopped_lines e fault = fault_words_are e (place_in e fault.left) (stop_words e fault) (stop_words_part e fault)

pub not_read_is : (e : Entry) (fault : MovesFault) → AreLines IsRemark (not_read_line e fault)
unfolding not_read_line
not_read_is e fault =
    let subject = subject_at e (place_in e fault.left) in
    remark_is _ (wider (342 + (10 + 100)) 998 _ (omega arith)
    (joined 342 (10 + 100) (told.subject_words subject) (codes "not read: " ++ stop_words e fault) (subject_part _ (names_part (tags_of e.text)))
    (joined 10 100 (codes "not read: ") (stop_words e fault) (record { shown = refl; few = omega arith }) (stop_words_part e fault))))

fen_part : (fault : FenFault) → IsPart 100 (fen_name fault)
fen_part fen.FieldCount = record { shown = refl; few = omega arith }
fen_part fen.Placement = record { shown = refl; few = omega arith }
fen_part fen.TooManyMen = record { shown = refl; few = omega arith }
fen_part fen.KingCount = record { shown = refl; few = omega arith }
fen_part fen.PawnOnEndRank = record { shown = refl; few = omega arith }
fen_part fen.SideField = record { shown = refl; few = omega arith }
fen_part fen.OpponentInCheck = record { shown = refl; few = omega arith }
fen_part fen.Castling = record { shown = refl; few = omega arith }
fen_part fen.EnPassantField = record { shown = refl; few = omega arith }
fen_part fen.EnPassantImpossible = record { shown = refl; few = omega arith }
fen_part fen.Clock = record { shown = refl; few = omega arith }
fen_part fen.MoveNumber = record { shown = refl; few = omega arith }

pub fen_words_part : (text : List ℕ) (fault : FenFault) → IsPart 100 (fen_words text fault)
fen_words_part text fen.TooManyMen =
    wider (10 + (64 + 4)) 100 _ (omega arith)
    (joined 10 (64 + 4) (codes "left out: ") _ (record { shown = refl; few = omega arith })
    (joined 64 4 (decimal (at_most (men_in (first_word text)))) (codes " men") (number_part (at_most (men_in (first_word text))))
    (record { shown = refl; few = omega arith })))
fen_words_part text fen.FieldCount = fen_part fen.FieldCount
fen_words_part text fen.Placement = fen_part fen.Placement
fen_words_part text fen.KingCount = fen_part fen.KingCount
fen_words_part text fen.PawnOnEndRank = fen_part fen.PawnOnEndRank
fen_words_part text fen.SideField = fen_part fen.SideField
fen_words_part text fen.OpponentInCheck = fen_part fen.OpponentInCheck
fen_words_part text fen.Castling = fen_part fen.Castling
fen_words_part text fen.EnPassantField = fen_part fen.EnPassantField
fen_words_part text fen.EnPassantImpossible = fen_part fen.EnPassantImpossible
fen_words_part text fen.Clock = fen_part fen.Clock
fen_words_part text fen.MoveNumber = fen_part fen.MoveNumber

pub last_is : (games studies : ℕ) → AreLines IsRemark (last_line games studies)
last_is games studies =
    remark_is (told.total games studies) (wider (6 + (64 + (10 + 64))) 998 _ (omega arith)
    (numbered 6 (10 + 64) (codes "games ") _ games (record { shown = refl; few = omega arith })
    (joined 10 64 (codes ", studies ") (decimal studies) (record { shown = refl; few = omega arith }) (number_part studies))))

pub tail_is : (skipped : ℕ) → AreLines IsRemark (tail_line skipped)
tail_is skipped =
    remark_is (told.tail skipped) (wider (21 + (64 + 40)) 998 _ (omega arith)
    (numbered 21 40 (codes "a tail: moves before ") (codes "; its position is another program's word") skipped (record { shown = refl; few = omega arith })
    (record { shown = refl; few = omega arith })))

-- ---- games without a stipulation, and with two tags of one name

pub unaimed_is : (e : Entry) (s : Sources) → AreLines IsRemark (left_out e (unaimed_words s))
unfolding unaimed_words
unaimed_is e s = left_out_is e _ (wider 100 200 _ (omega arith) (by s.comment_unread s.tag_unread))
  where
    by : (comment tag : Bool)
        → IsPart 100 (if comment then codes "StipulationUnread at its comment"
        else (if tag then codes "StipulationUnread at its tag Stipulation" else codes "NoStipulation"))
    by true tag = record { shown = refl; few = omega arith }
    by false true = record { shown = refl; few = omega arith }
    by false false = record { shown = refl; few = omega arith }

abbrev IsNamePart : Option (List ℕ) → Type 0
IsNamePart None = Unit {0}
IsNamePart (Some name) = IsPart 6 name

twice_by : (fen white result : Bool)
    → IsNamePart (if fen then Some (codes "FEN") else (if white then Some (codes "White") else (if result then Some (codes "Result") else None)))
twice_by true white result = record { shown = refl; few = omega arith }
twice_by false true result = record { shown = refl; few = omega arith }
twice_by false false true = record { shown = refl; few = omega arith }
twice_by false false false = tt

repeated_part : (tags : List Pair) (name : List ℕ) → repeated_name tags ≡ Some name → IsPart 6 name
unfolding repeated_name
repeated_part tags name e =
    subst IsNamePart e
    (twice_by (nat_le 2 (named_count (codes "FEN") tags)) (nat_le 2 (named_count (codes "White") tags)) (nat_le 2 (named_count (codes "Result") tags)))

pub repeated_is : (e : Entry) (tags : List Pair) (name : List ℕ) → repeated_name tags ≡ Some name
    → AreLines IsRemark (left_out e (repeated_words name))
unfolding repeated_words
repeated_is e tags name is =
    left_out_is e _ (wider (12 + 6) 200 _ (omega arith)
    (joined 12 6 (codes "TagTwice at ") name (record { shown = refl; few = omega arith }) (repeated_part tags name is)))

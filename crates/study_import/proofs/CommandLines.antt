-- The lines of a block are read as the commands that they spell.
use Rattle.std.proofs.Common.{◌≡◌, ℕ, ◌<◌, false, not, List, [], ◌∷◌, ◌++◌, length, Some, None, Ok, refl, sym, ap, ◌∙◌, arith}
use Rattle.std.specs.Prelude.{◌==◌, filter, codes, decimal}
use Rattle.std.specs.List.{list_all, slice_split, onto_first}
use Rattle.std.proofs.lemmas.Bool.{ne_eqb, le-leb, and_right}
use Rattle.std.proofs.lemmas.List.Folds.{list_all-append}
use Rattle.study_text.specs.Words.{is_space, words, begun_word, behind_word}
use Rattle.study_text.proofs.FirstWord.{words_cons}
use Rattle.study_board.specs.declared.men.Side.{Side}
use Rattle.study_board.specs.declared.men.Side.TheVariants.{White, Black}
use Rattle.study_marks.specs.declared.stipulation.Goal.{Goal}
use Rattle.study_marks.specs.declared.stipulation.Goal.TheVariants.{Win, Draw, MateIn}
use Rattle.study_marks.specs.declared.stipulation.Stipulation.{Stipulation}
use Rattle.study_marks.specs.declared.tag.TagName.{TagName}
use Rattle.study_marks.specs.declared.tag.TagName.TheVariants as named
use Rattle.study_marks.specs.Study.{tag_name}
use Rattle.study_command.specs.declared.command.Keyword.{Keyword}
use Rattle.study_command.specs.declared.command.Keyword.TheVariants.{FromFen, Stipulate, Insert, Tag}
use Rattle.study_command.specs.declared.command.FenCommand.TheVariants.{Position}
use Rattle.study_command.specs.Paths.{place_parsed}
use Rattle.study_command.specs.Parser.{Asks, fen_command, stipulate, insert, tag, pgn, trim_end, trim, text_parsed, path_of, side_parsed, tag_parsed}
use Rattle.study_command.specs.Parser.{begins_comment, line_asked, word_asked, word_of, command_of}
use Rattle.study_import.specs.Laws.{IsCounted}
use Rattle.study_import.proofs.Ink.{Ink, Print, ink_of, ink_prints, print_append, all_print, decimal_ink, words_more, words_last, words_spaced}
use Rattle.study_import.proofs.Ink.{behind_more, behind_spaced}
use Rattle.study_import.proofs.Spelling.{IsFen}
use Rattle.study_import.proofs.PathAgain.{number_parsed}
use Rattle.std.proofs.lemmas.Fmt.{decimal_nonempty}

-- ---- a text without spaces at its ends

not_spaces : (xs ys : List ℕ) → list_all is_space ys ≡ false → list_all is_space (xs ++ ys) ≡ false
not_spaces xs ys h = list_all-append is_space xs ys ∙ and_right (list_all is_space xs) (list_all is_space ys) h

trim_end-behind : (xs ys : List ℕ) → list_all is_space ys ≡ false → trim_end ys ≡ ys → trim_end (xs ++ ys) ≡ xs ++ ys
trim_end-behind [] ys h e = e
trim_end-behind (x ∷ xs) ys h e = rw (not_spaces (x ∷ xs) ys h) (ap (λ (t : List ℕ). x ∷ t) (trim_end-behind xs ys h e))

no_space : (b : ℕ) → 32 < b → is_space b ≡ false
no_space b lt = ne_eqb b 32 (λ e. omega arith)

trim_end-ink : (w : List ℕ) → Ink w → trim_end w ≡ w
trim_end-ink [] h = refl
trim_end-ink (b ∷ w) h = rw (no_space b h.0) (ap (λ (t : List ℕ). b ∷ t) (trim_end-ink w h.2))

ink_not_spaces : (w : List ℕ) → Ink w → 0 < length w → list_all is_space w ≡ false
ink_not_spaces [] h some = absurd (omega arith)
ink_not_spaces (b ∷ w) h some = rw (no_space b h.0) refl

pub record IsTrimmed (t : List ℕ) : Type 0 where
  pub first : ℕ
  pub rest : List ℕ
  pub begins : t ≡ first ∷ rest
  pub inked : is_space first ≡ false
  pub ends : trim_end t ≡ t

begun_trimmed : (b : ℕ) (bs : List ℕ) → is_space b ≡ false → begun_word (32 ∷ b ∷ bs) ≡ b ∷ bs
begun_trimmed b bs h = rw h refl

trimmed_again : (t : List ℕ) → IsTrimmed t → trim (32 ∷ t) ≡ t
unfolding trim
trimmed_again t h =
    ap (λ (x : List ℕ). trim_end (begun_word (32 ∷ x))) h.begins ∙ ap trim_end (begun_trimmed h.first h.rest h.inked ∙ sym h.begins) ∙ h.ends

some_of : (t : List ℕ) → IsTrimmed t → (length t == 0) ≡ false
some_of t h = ap (λ (x : List ℕ). length x == 0) h.begins ∙ ne_eqb (length (h.first ∷ h.rest)) 0 (λ e. omega arith)

pub reported_again : (t : List ℕ) → IsTrimmed t → text_parsed (32 ∷ t) ≡ Some t
reported_again t h = rw (trimmed_again t h, some_of t h) refl

-- a text that begins and ends with ink
pub inked_ends : (t front last bs : List ℕ) (b : ℕ) → t ≡ b ∷ bs → 32 < b → t ≡ front ++ last → Ink last → 0 < length last → IsTrimmed t
inked_ends t front last bs b begins low ends ink some = record {
  first = b;
  rest = bs;
  begins = begins;
  inked = no_space b low;
  ends = ap trim_end ends ∙ trim_end-behind front last (ink_not_spaces last ink some) (trim_end-ink last ink) ∙ sym ends;
}

fen_trimmed : (t : List ℕ) → IsFen t → IsTrimmed t
fen_trimmed t h = inked_ends t h.front h.last h.rest h.first h.begins h.no_space h.ends h.inked h.some

-- ---- a keyword

keyword_asked : (w r : List ℕ) (k : Keyword) → Ink w → 0 < length w → begins_comment w ≡ false → word_of w ≡ Some k → Print (w ++ (32 ∷ r))
    → command_of (w ++ (32 ∷ r)) ≡ word_asked k (32 ∷ r)
unfolding command_of
keyword_asked w r k ink some other is prints =
    rw (words_more w r ink some, other, all_print (w ++ (32 ∷ r)) prints, is, behind_more w r ink some) refl

-- ---- position

position_word : word_of (codes "position") ≡ Some (FromFen Position)
unfolding word_of
position_word = refl

position_ink : Ink (codes "position")
position_ink = ink_of (codes "position") refl

fen_prints : (t : List ℕ) → Print t → Print (codes "position" ++ (32 ∷ t))
fen_prints t h = print_append (codes "position") (32 ∷ t) (ink_prints (codes "position") position_ink) (omega arith, omega arith, h)

pub position_prints : (t : List ℕ) → IsFen t → Print (codes "position" ++ (32 ∷ t))
position_prints t h = fen_prints t h.prints

pub position_read : (t : List ℕ) → IsTrimmed t → Print t → ◌≡◌ {A = Asks} (command_of (codes "position" ++ (32 ∷ t))) (Ok (Some (fen_command Position t)))
unfolding word_asked
position_read t h p =
    keyword_asked (codes "position") t (FromFen Position) position_ink (omega arith) refl position_word (fen_prints t p) ∙ rw (reported_again t h) refl

pub position_asked : (t : List ℕ) → IsFen t → ◌≡◌ {A = Asks} (command_of (codes "position" ++ (32 ∷ t))) (Ok (Some (fen_command Position t)))
position_asked t h = position_read t (fen_trimmed t h) h.prints

-- ---- stipulate

abbrev pub side_words : Side → List ℕ
side_words White = codes "white"
side_words Black = codes "black"

abbrev pub goal_words : Goal → List ℕ
goal_words Win = codes "win"
goal_words Draw = codes "draw"
goal_words (MateIn count) = codes "mate" ++ (32 ∷ decimal count)

abbrev pub stipulate_words : Stipulation → List ℕ
stipulate_words s = codes "stipulate" ++ (32 ∷ (side_words s.hero ++ (32 ∷ goal_words s.goal)))

stipulate_word : word_of (codes "stipulate") ≡ Some Stipulate
unfolding word_of
stipulate_word = refl

side_ink : (s : Side) → Ink (side_words s) × (0 < length (side_words s)) × (side_parsed (side_words s) ≡ Some s)
side_ink White = (ink_of (codes "white") refl, omega arith, refl)
side_ink Black = (ink_of (codes "black") refl, omega arith, refl)

mate_ink : (count : ℕ) → IsCounted (MateIn count) → Ink (decimal count) × (0 < length (decimal count))
mate_ink count h = let high = h.1 in (decimal_ink count, decimal_nonempty count (omega arith))

mate_words : (side : Side) (count : ℕ) → IsCounted (MateIn count)
    → words (32 ∷ (side_words side ++ (32 ∷ goal_words (MateIn count)))) ≡ side_words side ∷ codes "mate" ∷ decimal count ∷ []
mate_words side count h =
    let s = side_ink side in
    let n = mate_ink count h in
    words_spaced (side_words side ++ (32 ∷ goal_words (MateIn count))) ∙ words_more (side_words side) (goal_words (MateIn count)) s.0 s.1
    ∙ ap (λ (ws : List (List ℕ)). side_words side ∷ ws)
    (words_more (codes "mate") (decimal count) (ink_of (codes "mate") refl) (omega arith)
    ∙ ap (λ (ws : List (List ℕ)). codes "mate" ∷ ws) (words_last (decimal count) n.0 n.1))

goal_prints : (g : Goal) → Print (goal_words g)
goal_prints Win = ink_prints (codes "win") (ink_of (codes "win") refl)
goal_prints Draw = ink_prints (codes "draw") (ink_of (codes "draw") refl)
goal_prints (MateIn count) =
    print_append (codes "mate") (32 ∷ decimal count) (ink_prints (codes "mate") (ink_of (codes "mate") refl))
    (omega arith, omega arith, ink_prints (decimal count) (decimal_ink count))

pub stipulate_prints : (s : Stipulation) → Print (stipulate_words s)
stipulate_prints s =
    print_append (codes "stipulate") (32 ∷ (side_words s.hero ++ (32 ∷ goal_words s.goal))) (ink_prints (codes "stipulate") (ink_of (codes "stipulate") refl)) (
      omega arith,
      omega arith,
      print_append (side_words s.hero) (32 ∷ goal_words s.goal) (ink_prints (side_words s.hero) (side_ink s.hero).0)
          (omega arith, omega arith, goal_prints s.goal),
    )

by_keyword : (s : Stipulation) → command_of (stipulate_words s) ≡ word_asked Stipulate (32 ∷ (side_words s.hero ++ (32 ∷ goal_words s.goal)))
by_keyword s =
    keyword_asked (codes "stipulate") (side_words s.hero ++ (32 ∷ goal_words s.goal)) Stipulate (ink_of (codes "stipulate") refl) (omega arith) refl
    stipulate_word (stipulate_prints s)

mated : (side : Side) (count : ℕ) → IsCounted (MateIn count)
    → ◌≡◌ {A = Asks} (word_asked Stipulate (32 ∷ (side_words side ++ (32 ∷ goal_words (MateIn count)))))
    (Ok (Some (stipulate (record { hero = side; goal = MateIn count }))))
unfolding word_asked
mated side count h =
    let high = h.1 in
    let known : place_parsed (decimal count) ≡ Some count = number_parsed count (omega arith) in
    rw (mate_words side count h, (side_ink side).2, known, le-leb 1 count h.0, le-leb count 127 h.1) refl

goal_asked : (side : Side) (g : Goal) → IsCounted g
    → ◌≡◌ {A = Asks} (word_asked Stipulate (32 ∷ (side_words side ++ (32 ∷ goal_words g)))) (Ok (Some (stipulate (record { hero = side; goal = g }))))
unfolding word_asked words
goal_asked White Win h = refl
goal_asked White Draw h = refl
goal_asked Black Win h = refl
goal_asked Black Draw h = refl
goal_asked side (MateIn count) h = mated side count h

pub stipulate_asked : (s : Stipulation) → IsCounted s.goal → ◌≡◌ {A = Asks} (command_of (stipulate_words s)) (Ok (Some (stipulate s)))
stipulate_asked s h = by_keyword s ∙ goal_asked s.hero s.goal h

-- ---- insert

abbrev pub insert_words : List ℕ → List ℕ → List ℕ
insert_words path san = codes "insert" ++ (32 ∷ (path ++ (32 ∷ san)))

insert_word : word_of (codes "insert") ≡ Some Insert
unfolding word_of
insert_word = refl

pub insert_prints : (path san : List ℕ) → Ink path → Ink san → Print (insert_words path san)
insert_prints path san p s =
    print_append (codes "insert") (32 ∷ (path ++ (32 ∷ san))) (ink_prints (codes "insert") (ink_of (codes "insert") refl))
    (omega arith, omega arith, print_append path (32 ∷ san) (ink_prints path p) (omega arith, omega arith, ink_prints san s))

two : (path san : List ℕ) → Ink path → 0 < length path → Ink san → 0 < length san → words (32 ∷ (path ++ (32 ∷ san))) ≡ path ∷ san ∷ []
two path san p some s more =
    words_spaced (path ++ (32 ∷ san)) ∙ words_more path san p some ∙ ap (λ (ws : List (List ℕ)). path ∷ ws) (words_last san s more)

pub insert_asked : (path san at : List ℕ) → Ink path → 0 < length path → Ink san → 0 < length san → path_of path ≡ Some at
    → ◌≡◌ {A = Asks} (command_of (insert_words path san)) (Ok (Some (insert at san)))
unfolding word_asked
insert_asked path san at p some s more is =
    keyword_asked (codes "insert") (path ++ (32 ∷ san)) Insert (ink_of (codes "insert") refl) (omega arith) refl insert_word (insert_prints path san p s)
    ∙ rw (two path san p some s more, is) refl

-- ---- tag

abbrev pub tag_words : TagName → List ℕ → List ℕ
tag_words name text = codes "tag" ++ (32 ∷ (tag_name name ++ (32 ∷ text)))

tag_word : word_of (codes "tag") ≡ Some Tag
unfolding word_of
tag_word = refl

name_ink : (name : TagName) → Ink (tag_name name) × (0 < length (tag_name name)) × (tag_parsed (tag_name name) ≡ Some name)
name_ink named.Event = (ink_of (codes "Event") refl, omega arith, refl)
name_ink named.Site = (ink_of (codes "Site") refl, omega arith, refl)
name_ink named.Date = (ink_of (codes "Date") refl, omega arith, refl)
name_ink named.Round = (ink_of (codes "Round") refl, omega arith, refl)
name_ink named.White = (ink_of (codes "White") refl, omega arith, refl)
name_ink named.Black = (ink_of (codes "Black") refl, omega arith, refl)

pub tag_prints : (name : TagName) (text : List ℕ) → Print text → Print (tag_words name text)
tag_prints name text h =
    print_append (codes "tag") (32 ∷ (tag_name name ++ (32 ∷ text))) (ink_prints (codes "tag") (ink_of (codes "tag") refl))
    (omega arith, omega arith, print_append (tag_name name) (32 ∷ text) (ink_prints (tag_name name) (name_ink name).0) (omega arith, omega arith, h))

tag_first : (name : TagName) (text : List ℕ) → words (32 ∷ (tag_name name ++ (32 ∷ text))) ≡ tag_name name ∷ words text
tag_first name text = words_spaced (tag_name name ++ (32 ∷ text)) ∙ words_more (tag_name name) text (name_ink name).0 (name_ink name).1

pub tag_asked : (name : TagName) (text : List ℕ) → IsTrimmed text → Print text → ◌≡◌ {A = Asks} (command_of (tag_words name text)) (Ok (Some (tag name text)))
unfolding word_asked
tag_asked name text h p =
    keyword_asked (codes "tag") (tag_name name ++ (32 ∷ text)) Tag (ink_of (codes "tag") refl) (omega arith) refl tag_word (tag_prints name text p)
    ∙ rw (tag_first name text, (name_ink name).2, behind_spaced (tag_name name) text (name_ink name).0 (name_ink name).1, reported_again text h) refl

-- ---- pgn, and lines without a command

pub pgn_asked : ◌≡◌ {A = Asks} (command_of (codes "pgn")) (Ok (Some pgn))
unfolding command_of words behind_word word_of word_asked
pgn_asked = refl

pub empty_asked : ◌≡◌ {A = Asks} (command_of []) (Ok None)
unfolding command_of words
empty_asked = refl

remark_parts : (line : List ℕ) (parts : List (List ℕ)) → ◌≡◌ {A = Asks} (line_asked line (filter (λ word. not (length word == 0)) (onto_first 35 parts)))
    (Ok None)
remark_parts line [] = refl
remark_parts line (p ∷ ps) = ap (line_asked line) (words_cons (35 ∷ p) ps (omega arith))

pub remark_asked : (t : List ℕ) → ◌≡◌ {A = Asks} (command_of (35 ∷ t)) (Ok None)
unfolding command_of words
remark_asked t = remark_parts (35 ∷ t) (slice_split is_space t)

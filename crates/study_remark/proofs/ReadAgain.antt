-- What is written is read again.
use Rattle.std.proofs.Common.{◌≡◌, ℕ, ◌+◌, ◌*◌, ◌-◌, ◌/◌, ◌%◌, ◌^◌, ◌<◌, ◌≤◌, Bool, true, false, not, List, [], ◌∷◌, ◌++◌, length}
use Rattle.std.proofs.Common.{Option, Some, None, refl, sym, ap, ◌∙◌, arith, append_assoc, length-append}
use Rattle.std.specs.Prelude.{◌==◌, nat_le, codes, decimal}
use Rattle.std.specs.List.{list_all, prefix_len}
use Rattle.std.proofs.Math.Seq.{take-append_seam, drop-append_seam, get_or-append_seam}
use Rattle.std.proofs.lemmas.Bool.{and_from, and_parts, le-leb, lt-leb, ne_eqb}
use Rattle.std.proofs.lemmas.List.{append-nil}
use Rattle.std.proofs.lemmas.List.Folds.{list_all-append}
use Rattle.std.proofs.lemmas.Fmt.{decimal_by_steps}
use Rattle.study_remark.specs.declared.remark.Doubt.{Doubt}
use Rattle.study_remark.specs.declared.remark.Doubt.TheVariants as doubt
use Rattle.study_remark.specs.declared.remark.Original.{Original}
use Rattle.study_remark.specs.declared.remark.Original.TheVariants as original
use Rattle.study_remark.specs.declared.remark.Source.{Source}
use Rattle.study_remark.specs.declared.remark.Source.TheVariants as source
use Rattle.study_remark.specs.Remarks.{Game, Told, left_out, not_read, stipulated, doubted, not_taken_over, behind_result, original_of, tail, total}
use Rattle.study_remark.specs.Remarks.{latin_1, letters}
use Rattle.study_remark.specs.Remarks.{column_words, author_words, subject_words, stipulated_words, remark_words}
use Rattle.study_remark.specs.Reading.{after_word, is_digit, begins_digit, with_digit, digits_after, number_at}
use Rattle.study_remark.specs.Reading.{column_at, colon_in, without_closing, author_in, author_at, game_at, said_of_game, original_in, latin_told, told_in, remark_in}
use Rattle.study_remark.specs.Laws.{IsNumber, IsColumn, IsGame, IsReason, IsPlain, AreReadAgain, AreNoRemarks}

-- ---- numbers

digit_is : (d : ℕ) → d < 10 → is_digit (48 + d) ≡ true
digit_is d h = and_from (nat_le 48 (48 + d)) (nat_le (48 + d) 57) (le-leb 48 (48 + d) (omega arith)) (le-leb (48 + d) 57 (omega arith))

digit_value : (n d : ℕ) → 10 * n + d < 2 ^ 32 → with_digit n (48 + d) ≡ 10 * n + d
digit_value n d h = omega arith

-- after digits already read, the digits of a number go on
abbrev Spelled : ℕ → List ℕ → Type 0
Spelled n ds = n < 2 ^ 32 → (rest : List ℕ) → (digits_after 0 (ds ++ rest) ≡ digits_after n rest) × (begins_digit (ds ++ rest) ≡ true)

one_digit : (n : ℕ) → n < 10 → Spelled n ((48 + n) ∷ [])
one_digit n low small rest =
    let value : with_digit 0 (48 + n) ≡ n = omega arith in
    (rw (digit_is n low) (ap (λ k. digits_after k rest) value), digit_is n low)

digit_more : (n : ℕ) (ds : List ℕ) → 10 ≤ n → Spelled (n / 10) ds → Spelled n (ds ++ ((48 + n % 10) ∷ []))
digit_more n ds high before small rest =
    let is = digit_is (n % 10) (omega arith) in
    let value : with_digit (n / 10) (48 + n % 10) ≡ n = omega arith in
    let shifted : (ds ++ ((48 + n % 10) ∷ [])) ++ rest ≡ ds ++ ((48 + n % 10) ∷ rest) = append_assoc ds ((48 + n % 10) ∷ []) rest in
    let known = before (omega arith) ((48 + n % 10) ∷ rest) in
    let last : digits_after (n / 10) ((48 + n % 10) ∷ rest) ≡ digits_after n rest = rw is (ap (λ k. digits_after k rest) value) in
    (ap (digits_after 0) shifted ∙ known.0 ∙ last, ap begins_digit shifted ∙ known.1)

spelled : (n : ℕ) → IsNumber n → Spelled n (decimal n)
spelled n small = decimal_by_steps Spelled one_digit digit_more n (omega arith)

digits_end : (n : ℕ) (rest : List ℕ) → begins_digit rest ≡ false → digits_after n rest ≡ (n, rest)
digits_end n [] h = refl
digits_end n (b ∷ bs) h = rw h refl

number_again : (n : ℕ) → IsNumber n → (rest : List ℕ) → begins_digit rest ≡ false → number_at (decimal n ++ rest) ≡ Some (n, rest)
unfolding number_at
number_again n small rest stops =
    let digits = spelled n small small rest in
    let in_range_is : nat_le (2 ^ 32) n ≡ false = lt-leb (2 ^ 32) n small in
    rw (digits.1, digits.0, digits_end n rest stops, in_range_is) refl

-- ---- the author

prefix_stops : (p : ℕ → Bool) (xs : List ℕ) (b : ℕ) (rest : List ℕ) → list_all p xs ≡ true → p b ≡ false → prefix_len p (xs ++ b ∷ rest) ≡ length xs
prefix_stops p [] b rest all stop = rw stop refl
prefix_stops p (x ∷ xs) b rest all stop =
    let parts = and_parts (p x) (list_all p xs) all in
    rw parts.0 (let more = prefix_stops p xs b rest parts.1 stop in omega (arith, more))

abbrev no_colon : ℕ → Bool
no_colon b = not (b == 58)

long : (b : ℕ) (bs : List ℕ) → (length (b ∷ bs) == 0) ≡ false
long b bs = ne_eqb (length (b ∷ bs)) 0 (λ e. omega arith)

no_colons : (a : List ℕ) → list_all no_colon a ≡ true → list_all no_colon (author_words a) ≡ true
no_colons [] h = refl
no_colons (b ∷ bs) h = rw (long b bs) (list_all-append no_colon (b ∷ bs) (41 ∷ []) ∙ and_from (list_all no_colon (b ∷ bs)) true h refl)

closing : (a : List ℕ) → without_closing (a ++ 41 ∷ []) ≡ Some a
closing a =
    let some : (length (a ++ 41 ∷ []) == 0) ≡ false = ne_eqb (length (a ++ 41 ∷ [])) 0 (λ e. omega (arith, length-append a (41 ∷ []))) in
    let last : length (a ++ 41 ∷ []) - 1 ≡ length a = omega (arith, length-append a (41 ∷ [])) in
    rw (some, last, get_or-append_seam a 41 [] 0, take-append_seam a (41 ∷ [])) refl

author_again : (a : List ℕ) → author_in (author_words a) ≡ Some a
author_again [] = refl
author_again (b ∷ bs) = rw (long b bs, long 32 (40 ∷ ((b ∷ bs) ++ 41 ∷ []))) (closing (b ∷ bs))

-- behind the place of a remark
abbrev saying : List ℕ → List ℕ → List ℕ
saying a words = author_words a ++ (codes ": " ++ words)

said_again : (a words : List ℕ) → list_all no_colon a ≡ true → author_at (saying a words) ≡ Some (a, words)
said_again a words h =
    let place : colon_in (saying a words) ≡ length (author_words a) =
    prefix_stops no_colon (author_words a) 58 (32 ∷ words) (no_colons a h) refl in
    rw (place, take-append_seam (author_words a) (codes ": " ++ words), drop-append_seam (author_words a) (codes ": " ++ words), author_again a) refl

no_column : (a words : List ℕ) → after_word (codes ", column ") (saying a words) ≡ None
no_column [] words = refl
no_column (b ∷ bs) words = rw (long b bs) refl

no_digit : (a words : List ℕ) → begins_digit (saying a words) ≡ false
no_digit [] words = refl
no_digit (b ∷ bs) words = rw (long b bs) refl

column_again : (column : Option ℕ) → IsColumn column → (a words : List ℕ)
    → column_at (column_words column ++ saying a words) ≡ Some (column, saying a words)
column_again None h a words = rw (no_column a words) refl
column_again (Some column) h a words = rw (number_again column h (saying a words) (no_digit a words)) refl

no_digit_behind : (column : Option ℕ) (a words : List ℕ) → begins_digit (column_words column ++ saying a words) ≡ false
no_digit_behind None a words = no_digit a words
no_digit_behind (Some column) a words = refl

-- ---- the game

spread : (a b c d e words : List ℕ)
    → (codes "game " ++ (a ++ (codes ", line " ++ (b ++ (c ++ (d ++ codes ": ")))))) ++ words
    ≡ codes "game " ++ (a ++ (codes ", line " ++ (b ++ (c ++ (d ++ (codes ": " ++ words))))))
spread a b c d e words = simp append_assoc

game_again : (g : Game) → IsGame g → (words : List ℕ) → game_at (subject_words g ++ words) ≡ Some (g, words)
unfolding game_at subject_words
game_again g h words =
    let tail = column_words g.column ++ saying g.author words in
    ap game_at (spread (decimal g.game) (decimal g.line) (column_words g.column) (author_words g.author) [] words)
    ∙ rw (
      number_again g.game h.game (codes ", line " ++ (decimal g.line ++ tail)) refl,
      number_again g.line h.line tail (no_digit_behind g.column g.author words),
      column_again g.column h.column g.author words,
      said_again g.author words h.author,
    ) refl

-- ---- what is said

source_again : (s : Source) → (g : Game) → said_of_game g (stipulated_words s) ≡ Some (stipulated g s)
unfolding stipulated_words
source_again source.Comment g = refl
source_again source.StipulationTag g = refl
source_again source.ResultTag g = refl
source_again source.Result g = refl
source_again source.Given g = refl

reason_again : (g : Game) (why : List ℕ) → IsReason why → said_of_game g why ≡ Some (left_out g why)
reason_again g why h = rw (h.no_source, h.no_end) refl

game_told_again : (g : Game) → IsGame g → (words : List ℕ) (t : Told) → said_of_game g words ≡ Some t → told_in (subject_words g ++ words) ≡ Some t
unfolding told_in
game_told_again g h words t said = rw (game_again g h words, said) refl

doubt_again : (d : Doubt) → told_in (remark_words (doubted d)) ≡ Some (doubted d)
unfolding told_in game_at
doubt_again doubt.CommentUnread = refl
doubt_again doubt.TagUnread = refl
doubt_again doubt.TagDiffers = refl
doubt_again doubt.ResultTagDiffers = refl
doubt_again doubt.ResultDiffers = refl

counts_again : (counts : List ℕ) → told_in (remark_words (not_taken_over counts)) ≡ Some (not_taken_over counts)
unfolding told_in game_at
counts_again counts = refl

original_again : (name : Original) (text : List ℕ) → told_in (remark_words (original_of name text)) ≡ Some (original_of name text)
unfolding told_in game_at original_in
original_again original.Event text = refl
original_again original.Site text = refl
original_again original.Date text = refl
original_again original.Round text = refl
original_again original.White text = refl
original_again original.Black text = refl

latin_again : (name : Original) → told_in (remark_words (latin_1 name)) ≡ Some (latin_1 name)
unfolding told_in game_at original_in latin_told
latin_again original.Event = refl
latin_again original.Site = refl
latin_again original.Date = refl
latin_again original.Round = refl
latin_again original.White = refl
latin_again original.Black = refl

letters_again : (language : List ℕ) → told_in (remark_words (letters language)) ≡ Some (letters language)
unfolding told_in game_at original_in latin_told
letters_again language = refl

last_number : (n : ℕ) → IsNumber n → number_at (decimal n) ≡ Some (n, [])
last_number n h = ap number_at (sym (append-nil (decimal n))) ∙ number_again n h [] refl

behind_again : (line column : ℕ) → IsNumber line → IsNumber column → told_in (remark_words (behind_result line column)) ≡ Some (behind_result line column)
unfolding told_in game_at
behind_again line column h k = rw (number_again line h (codes ", column " ++ decimal column) refl, last_number column k) refl

tail_again : (moves : ℕ) → IsNumber moves → told_in (remark_words (tail moves)) ≡ Some (tail moves)
unfolding told_in game_at original_in latin_told
tail_again moves h = rw (number_again moves h (codes "; its position is another program's word") refl) refl

total_again : (games studies : ℕ) → IsNumber games → IsNumber studies → told_in (remark_words (total games studies)) ≡ Some (total games studies)
unfolding told_in game_at original_in latin_told
total_again games studies h k = rw (number_again games h (codes ", studies " ++ decimal studies) refl, last_number studies k) refl

told_again : (t : Told) → IsPlain t → told_in (remark_words t) ≡ Some t
told_again (left_out g why) h = game_told_again g h.0 why (left_out g why) (reason_again g why h.1)
told_again (not_read g why) h = game_told_again g h (codes "not read: " ++ why) (not_read g why) refl
told_again (stipulated g by) h = game_told_again g h (stipulated_words by) (stipulated g by) (source_again by g)
told_again (doubted why) h = doubt_again why
told_again (not_taken_over counts) h = counts_again counts
told_again (behind_result line column) h = behind_again line column h.0 h.1
told_again (original_of name text) h = original_again name text
told_again (latin_1 name) h = latin_again name
told_again (letters language) h = letters_again language
told_again (tail moves) h = tail_again moves h
told_again (total games studies) h = total_again games studies h.0 h.1

pub read_again : AreReadAgain
unfolding remark_in
read_again t h = told_again t h

pub no_remarks : AreNoRemarks
unfolding remark_in
no_remarks line h = rw h refl

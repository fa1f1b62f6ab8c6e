-- The remark in a line of a script.
use Rattle.std.specs.Prelude.{ℕ, ◌+◌, ◌-◌, ◌*◌, ◌^◌, ◌==◌, min, Bool, not, ◌&&◌, false, nat_le, List, [], ◌∷◌, length, take, drop}
use Rattle.std.specs.Prelude.{Option, Some, None, codes, get_or, if◌then◌else◌}
use Rattle.std.specs.Option.{option_map, option_and_then}
use Rattle.std.specs.List.{prefix_len}
use Rattle.std.specs.Str.{bytes_eq}
use Rattle.study_remark.specs.declared.remark.Doubt.{Doubt}
use Rattle.study_remark.specs.declared.remark.Doubt.TheVariants as doubt
use Rattle.study_remark.specs.declared.remark.Original.{Original}
use Rattle.study_remark.specs.declared.remark.Original.TheVariants as original
use Rattle.study_remark.specs.declared.remark.Source.{Source}
use Rattle.study_remark.specs.declared.remark.Source.TheVariants as source
use Rattle.study_remark.specs.Remarks.{Game, Told, left_out, not_read, stipulated, doubted, not_taken_over, behind_result, original_of, tail, total}
use Rattle.study_remark.specs.Remarks.{latin_1, letters, source_words, doubt_words, original_name}

-- ---- words and numbers

-- the text behind a word, if it begins with it
abbrev pub after_word : List ℕ → List ℕ → Option (List ℕ)
after_word word text = if bytes_eq word (take (length word) text) then Some (drop (length word) text) else None

abbrev pub is_digit : ℕ → Bool
is_digit b = nat_le 48 b && nat_le b 57

abbrev pub begins_digit : List ℕ → Bool
begins_digit [] = false
begins_digit (b ∷ bs) = is_digit b

-- a number with one digit more; one that no remark can have stays so
abbrev pub with_digit : ℕ → ℕ → ℕ
with_digit n b = min (10 * n + (b - 48)) (2 ^ 32)

-- the number that the digits in front spell, after so many before them, and the text behind them
abbrev pub digits_after : ℕ → List ℕ → ℕ × List ℕ
digits_after n [] = (n, [])
digits_after n (b ∷ bs) = if is_digit b then digits_after (with_digit n b) bs else (n, b ∷ bs)

abbrev pub in_range : ℕ × List ℕ → Option (ℕ × List ℕ)
in_range cut = if nat_le (2 ^ 32) cut.0 then None else Some cut

-- the number in front, and the text behind it
unfoldable pub number_at : List ℕ → Option (ℕ × List ℕ)
number_at text = if begins_digit text then in_range (digits_after 0 text) else None

-- the number behind a word, and the text behind it
abbrev pub number_after : List ℕ → List ℕ → Option (ℕ × List ℕ)
number_after word text = option_and_then number_at (after_word word text)

-- two numbers, each behind its word, and nothing more
abbrev pub second_alone : ℕ → Option (ℕ × List ℕ) → Option (ℕ × ℕ)
second_alone first None = None
second_alone first (Some cut) = if length cut.1 == 0 then Some (first, cut.0) else None

abbrev pub pair_in : List ℕ → List ℕ → List ℕ → Option (ℕ × ℕ)
pair_in word between text = option_and_then (λ cut. second_alone cut.0 (number_after between cut.1)) (number_after word text)

-- ---- the game of a remark

-- the column, if one is stated, and the text behind it
abbrev pub column_by : List ℕ → Option (List ℕ) → Option (Option ℕ × List ℕ)
column_by text None = Some (None, text)
column_by text (Some digits) = option_map (λ cut. (Some cut.0, cut.1)) (number_at digits)

abbrev pub column_at : List ℕ → Option (Option ℕ × List ℕ)
column_at text = column_by text (after_word (codes ", column ") text)

abbrev pub colon_in : List ℕ → ℕ
colon_in text = prefix_len (λ b. not (b == 58)) text

-- without the closing parenthesis at its end
abbrev pub without_closing : List ℕ → Option (List ℕ)
without_closing text =
    if length text == 0 then None
    else (if get_or text (length text - 1) 0 == 41 then Some (take (length text - 1) text) else None)

-- ` (Author)`, or nothing
abbrev pub author_in : List ℕ → Option (List ℕ)
author_in text = if length text == 0 then Some [] else option_and_then without_closing (after_word (codes " (") text)

-- the author, who stands before the first colon, and what is said behind it
abbrev pub author_at : List ℕ → Option (List ℕ × List ℕ)
author_at text =
    option_and_then (λ author. option_map (λ words. (author, words)) (after_word (codes ": ") (drop (colon_in text) text)))
    (author_in (take (colon_in text) text))

abbrev pub game_of : ℕ → ℕ → Option ℕ → List ℕ × List ℕ → Game × List ℕ
game_of game line column said = (record { game = game; line = line; column = column; author = said.0 }, said.1)

-- the game of a remark, and what is said of it
unfoldable pub game_at : List ℕ → Option (Game × List ℕ)
game_at text =
    option_and_then (λ game. option_and_then (λ line. option_and_then (λ column. option_map (game_of game.0 line.0 column.0) (author_at column.1))
    (column_at line.1)) (number_after (codes ", line ") game.1)) (number_after (codes "game ") text)

-- ---- what is said

abbrev pub source_in : List ℕ → Option Source
source_in words =
    if bytes_eq words (source_words source.Comment) then Some source.Comment
    else (if bytes_eq words (source_words source.StipulationTag) then Some source.StipulationTag
    else (if bytes_eq words (source_words source.ResultTag) then Some source.ResultTag
    else (if bytes_eq words (source_words source.Result) then Some source.Result
    else (if bytes_eq words (source_words source.Given) then Some source.Given else None))))

abbrev pub doubt_in : List ℕ → Option Doubt
doubt_in words =
    if bytes_eq words (doubt_words doubt.CommentUnread) then Some doubt.CommentUnread
    else (if bytes_eq words (doubt_words doubt.TagUnread) then Some doubt.TagUnread
    else (if bytes_eq words (doubt_words doubt.TagDiffers) then Some doubt.TagDiffers
    else (if bytes_eq words (doubt_words doubt.ResultTagDiffers) then Some doubt.ResultTagDiffers
    else (if bytes_eq words (doubt_words doubt.ResultDiffers) then Some doubt.ResultDiffers else None))))

abbrev pub or_left_out : Game → List ℕ → Option (List ℕ) → Option Told
or_left_out g words (Some why) = Some (not_read g why)
or_left_out g words None = Some (left_out g words)

abbrev pub or_not_read : Game → List ℕ → Option (List ℕ) → Option Told
or_not_read g words (Some by) = option_map (stipulated g) (source_in by)
or_not_read g words None = or_left_out g words (after_word (codes "not read: ") words)

abbrev pub said_of_game : Game → List ℕ → Option Told
said_of_game g words = or_not_read g words (after_word (codes "stipulated by ") words)

abbrev pub game_told : List ℕ → Option Told
game_told text = option_and_then (λ found. said_of_game found.0 found.1) (game_at text)

abbrev pub doubt_told : List ℕ → Option Told
doubt_told text = option_and_then (λ words. option_map doubted (doubt_in words)) (after_word (codes "the stipulation ") text)

abbrev pub counts_told : List ℕ → Option Told
counts_told text = option_map not_taken_over (after_word (codes "not taken over: ") text)

abbrev pub behind_told : List ℕ → Option Told
behind_told text = option_map (λ place. behind_result place.0 place.1) (pair_in (codes "behind the result: line ") (codes ", column ") text)

abbrev pub original_by : Original → List ℕ → List ℕ → Option Told → Option Told
original_by name word text None = option_map (original_of name) (after_word word text)
original_by name word text found = found

unfoldable pub original_in : List ℕ → Option Told
original_in text =
    original_by original.Black (codes "Black was: ") text
    (original_by original.White (codes "White was: ") text
    (original_by original.Round (codes "Round was: ") text
    (original_by original.Date (codes "Date was: ") text
    (original_by original.Site (codes "Site was: ") text
    (original_by original.Event (codes "Event was: ") text None)))))

-- the tag with this name
abbrev pub original_with : List ℕ → Option Original
original_with words =
    if bytes_eq words (original_name original.Event) then Some original.Event
    else (if bytes_eq words (original_name original.Site) then Some original.Site
    else (if bytes_eq words (original_name original.Date) then Some original.Date
    else (if bytes_eq words (original_name original.Round) then Some original.Round
    else (if bytes_eq words (original_name original.White) then Some original.White
    else (if bytes_eq words (original_name original.Black) then Some original.Black else None)))))

unfoldable pub latin_told : List ℕ → Option Told
latin_told text = option_and_then (λ name. option_map latin_1 (original_with name)) (after_word (codes "read as Latin 1: ") text)

abbrev pub letters_told : List ℕ → Option Told
letters_told text = option_map letters (after_word (codes "letters: ") text)

abbrev pub tail_by : ℕ × List ℕ → Option Told
tail_by cut = if bytes_eq cut.1 (codes "; its position is another program's word") then Some (tail cut.0) else None

abbrev pub tail_told : List ℕ → Option Told
tail_told text = option_and_then tail_by (number_after (codes "a tail: moves before ") text)

abbrev pub total_told : List ℕ → Option Told
total_told text = option_map (λ numbers. total numbers.0 numbers.1) (pair_in (codes "games ") (codes ", studies ") text)

abbrev pub or_told : Option Told → Option Told → Option Told
or_told (Some told) other = Some told
or_told None other = other

abbrev pub other_told : List ℕ → Option Told
other_told text =
    or_told (behind_told text)
    (or_told (original_in text)
    (or_told (latin_told text)
    (or_told (letters_told text)
    (or_told (tail_told text) (total_told text)))))

-- the remark with these words
unfoldable pub told_in : List ℕ → Option Told
told_in text = or_told (game_told text) (or_told (doubt_told text) (or_told (counts_told text) (other_told text)))

-- the remark in a line without its line feed
unfoldable pub remark_in : List ℕ → Option Told
remark_in line = option_and_then told_in (after_word (codes "#! ") line)

-- the same in a script of version 1.7, whose remarks begin as any comment does
unfoldable pub old_remark_in : List ℕ → Option Told
old_remark_in line = option_and_then told_in (after_word (codes "# ") line)

-- Comments that an import writes into a script, and a report shows. They begin with `#!`, with which no person begins a comment; any other comment is its
-- author's own.
use Rattle.std.specs.Prelude.{ℕ, ◌==◌, Bool, true, false, not, ◌&&◌, ◌||◌, List, [], ◌∷◌, length, take, drop, Option, Some, None, if◌then◌else◌, codes}
use Rattle.std.specs.List.{prefix_len}
use Rattle.std.specs.Str.{bytes_eq}
use Rattle.study_remark.specs.Remarks.{Told, left_out, not_read, stipulated, total}
use Rattle.study_remark.specs.Reading.{remark_in}
use Rattle.study_report.specs.declared.line_outcome.LineOutcome.{LineOutcome}
use Rattle.study_report.specs.declared.line_outcome.LineOutcome.TheVariants.{Nothing, LeftOut, NotRead, Try}

-- the text begins with the word
abbrev pub begins : List ℕ → List ℕ → Bool
begins text word = bytes_eq word (take (length word) text)

-- the number of bytes before the first colon
abbrev pub colon_in : List ℕ → ℕ
colon_in line = prefix_len (λ b. not (b == 58)) line

-- before the first colon, without `#! `: `game 3, line 31`
abbrev pub subject : List ℕ → List ℕ
subject line = drop 3 (take (colon_in line) line)

-- behind the first colon and a space: `left out: 7 men`
abbrev pub statement : List ℕ → List ℕ
statement line = drop 2 (drop (colon_in line) line)

-- a game without a block, and why
abbrev pub says_left_out : Option Told → Bool
says_left_out (Some (left_out game why)) = true
says_left_out _ = false

abbrev pub is_left_out : List ℕ → Bool
is_left_out line = says_left_out (remark_in line)

-- a game whose block has only what stands before its first fault
abbrev pub says_not_read : Option Told → Bool
says_not_read (Some (not_read game why)) = true
says_not_read _ = false

abbrev pub is_not_read : List ℕ → Bool
is_not_read line = says_not_read (remark_in line)

-- these words are somewhere in the text
abbrev pub has_words : List ℕ → List ℕ → Bool
has_words words [] = false
has_words words (b ∷ bs) = begins (b ∷ bs) words || has_words words bs

-- a part of a study with more men, which begins where four are left
abbrev pub is_tail : List ℕ → Bool
is_tail line = begins line (codes "#! tail ")

abbrev pub is_try : List ℕ → Bool
is_try line = is_tail line && has_words (codes ", beside the solution") line

-- a game that was left out is an entry; the block of one that was not read to its end comes next
abbrev pub outcome_told : Option Told → LineOutcome
outcome_told (Some (left_out game why)) = LeftOut
outcome_told (Some (not_read game why)) = NotRead
outcome_told _ = Nothing

-- so does the block of a try
abbrev pub with_try : LineOutcome → Bool → LineOutcome
with_try Nothing is = if is then Try else Nothing
with_try other is = other

abbrev pub remark_outcome : List ℕ → LineOutcome
remark_outcome line = with_try (outcome_told (remark_in line)) (is_try line)

-- the words of an author, or of a judge
abbrev pub is_comment : List ℕ → Bool
is_comment line = begins line (codes "#! comment: ")

-- A remark that is shown: each except the source of a stipulation and the numbers of games and studies; the one above a part of a study with more men; and
-- a comment.
abbrev pub is_told : Option Told → Bool
is_told None = false
is_told (Some (stipulated game by)) = false
is_told (Some (total games studies)) = false
is_told (Some told) = true

abbrev pub is_remark : List ℕ → Bool
is_remark line = is_tail line || (is_comment line || is_told (remark_in line))

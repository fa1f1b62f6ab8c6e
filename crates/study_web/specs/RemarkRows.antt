-- The remarks of a script as lines of fields, with tabs between them.
use Rattle.std.specs.Prelude.{ℕ, ◌+◌, List, [], ◌∷◌, ◌++◌, Option, Some, None, codes, decimal}
use Rattle.study_remark.specs.declared.remark.Doubt.{Doubt}
use Rattle.study_remark.specs.declared.remark.Doubt.TheVariants as doubt
use Rattle.study_remark.specs.declared.remark.Source.{Source}
use Rattle.study_remark.specs.declared.remark.Source.TheVariants as source
use Rattle.study_remark.specs.Remarks.{Game, Told, left_out, not_read, stipulated, doubted, not_taken_over, behind_result, original_of, tail, total}
use Rattle.study_remark.specs.Remarks.{latin_1, letters, original_name}
use Rattle.study_remark.specs.Reading.{after_word, remark_in}
use Rattle.study_web.specs.Reported.{line_of}

-- ---- fields

abbrev pub field : List ℕ → List ℕ
field text = codes "\t" ++ text

abbrev pub column_digits : Option ℕ → List ℕ
column_digits None = []
column_digits (Some column) = decimal column

-- the game, the line, the column, which may be empty, and the author, who may be empty, too
unfoldable pub game_fields : Game → List ℕ
game_fields g = field (decimal g.game) ++ (field (decimal g.line) ++ (field (column_digits g.column) ++ field g.author))

abbrev pub source_name : Source → List ℕ
source_name source.Comment = codes "comment"
source_name source.StipulationTag = codes "stipulation-tag"
source_name source.ResultTag = codes "result-tag"
source_name source.Result = codes "result"
source_name source.Given = codes "option"

abbrev pub doubt_name : Doubt → List ℕ
doubt_name doubt.CommentUnread = codes "comment-unread"
doubt_name doubt.TagUnread = codes "stipulation-tag-unread"
doubt_name doubt.TagDiffers = codes "stipulation-tag-differs"
doubt_name doubt.ResultTagDiffers = codes "result-tag-differs"
doubt_name doubt.ResultDiffers = codes "result-differs"

-- the kind of a remark, and its fields
unfoldable pub told_fields : Told → List ℕ
told_fields (left_out g why) = codes "left-out" ++ (game_fields g ++ field why)
told_fields (not_read g why) = codes "not-read" ++ (game_fields g ++ field why)
told_fields (stipulated g by) = codes "stipulated" ++ (game_fields g ++ field (source_name by))
told_fields (doubted why) = codes "doubted" ++ field (doubt_name why)
told_fields (not_taken_over counts) = codes "not-taken-over" ++ field counts
told_fields (behind_result line column) = codes "behind-result" ++ (field (decimal line) ++ field (decimal column))
told_fields (original_of name text) = codes "original" ++ (field (original_name name) ++ field text)
told_fields (latin_1 name) = codes "latin-1" ++ field (original_name name)
told_fields (letters language) = codes "letters" ++ field language
told_fields (tail moves) = codes "tail" ++ field (decimal moves)
told_fields (total games studies) = codes "total" ++ (field (decimal games) ++ field (decimal studies))

-- ---- a line of a script

abbrev pub or_words : Option (List ℕ) → Option (List ℕ) → Option (List ℕ)
or_words (Some words) other = Some words
or_words None other = other

-- the words of any comment that begins as remarks do
unfoldable pub comment_words : List ℕ → Option (List ℕ)
comment_words line = or_words (after_word (codes "#! ") line) (after_word (codes "# ") line)

abbrev pub other_fields : Option (List ℕ) → Option (List ℕ)
other_fields None = None
other_fields (Some words) = Some (codes "other" ++ field words)

-- of a remark of an import its kind and its fields, of another comment its words
abbrev pub fields_by : Option Told → Option (List ℕ) → Option (List ℕ)
fields_by (Some told) words = Some (told_fields told)
fields_by None words = other_fields words

abbrev pub row_with : ℕ → Option (List ℕ) → List ℕ
row_with n None = []
row_with n (Some fields) = decimal n ++ (codes "\t" ++ line_of fields)

-- the row of the line with this number
unfoldable pub row_of : ℕ → List ℕ → List ℕ
row_of n line = row_with n (fields_by (remark_in line) (comment_words line))

-- the rows of these lines, which are counted on from a number
abbrev pub rows_from : ℕ → List (List ℕ) → List ℕ
rows_from n [] = []
rows_from n (line ∷ more) = row_of n line ++ rows_from (n + 1) more

-- Remarks as lines of a script.
use Rattle.std.specs.Prelude.{ℕ, ◌==◌, List, [], ◌++◌, length, Option, Some, None, codes, decimal, if◌then◌else◌}
use Rattle.study_remark.specs.declared.remark.Doubt.{Doubt}
use Rattle.study_remark.specs.declared.remark.Doubt.TheVariants as doubt
use Rattle.study_remark.specs.declared.remark.Original.{Original}
use Rattle.study_remark.specs.declared.remark.Original.TheVariants as original
use Rattle.study_remark.specs.declared.remark.Remark.{Remark}
use Rattle.study_remark.specs.declared.remark.Remark.TheVariants as remark
use Rattle.study_remark.specs.declared.remark.Source.{Source}
use Rattle.study_remark.specs.declared.remark.Source.TheVariants as source
use Rattle.study_remark.specs.declared.remark.Subject.{Subject}

-- a game of a file by its number, a place in it, and its author
pub record Game : Type 0 where
  pub game : ℕ
  pub line : ℕ
  pub column : Option ℕ
  pub author : List ℕ

-- a remark, with its texts
pub data Told : Type 0 where
  left_out not_read : (game : Game) (why : List ℕ) → Told
  stipulated : (game : Game) (by : Source) → Told
  doubted : Doubt → Told
  not_taken_over : (counts : List ℕ) → Told
  behind_result : (line column : ℕ) → Told
  original_of : Original → (text : List ℕ) → Told
  latin_1 : Original → Told
  letters : (language : List ℕ) → Told
  tail : (moves : ℕ) → Told
  total : (games studies : ℕ) → Told

-- ---- the words

abbrev pub column_words : Option ℕ → List ℕ
column_words None = []
column_words (Some column) = codes ", column " ++ decimal column

abbrev pub author_words : List ℕ → List ℕ
author_words author = if length author == 0 then [] else codes " (" ++ (author ++ codes ")")

-- `game 4, line 52, column 17 (Author): `
unfoldable pub subject_words : Game → List ℕ
subject_words g =
    codes "game " ++ (decimal g.game ++ (codes ", line " ++ (decimal g.line ++ (column_words g.column ++ (author_words g.author ++ codes ": ")))))

abbrev pub source_words : Source → List ℕ
source_words source.Comment = codes "its comment"
source_words source.StipulationTag = codes "its tag Stipulation"
source_words source.ResultTag = codes "its tag Result"
source_words source.Result = codes "its result"
source_words source.Given = codes "the option"

unfoldable pub stipulated_words : Source → List ℕ
stipulated_words by = codes "stipulated by " ++ source_words by

abbrev pub doubt_words : Doubt → List ℕ
doubt_words doubt.CommentUnread = codes "of its comment is not understood"
doubt_words doubt.TagUnread = codes "of its tag Stipulation is not understood"
doubt_words doubt.TagDiffers = codes "differs from its tag Stipulation"
doubt_words doubt.ResultTagDiffers = codes "differs from its tag Result"
doubt_words doubt.ResultDiffers = codes "differs from its result"

abbrev pub original_name : Original → List ℕ
original_name original.Event = codes "Event"
original_name original.Site = codes "Site"
original_name original.Date = codes "Date"
original_name original.Round = codes "Round"
original_name original.White = codes "White"
original_name original.Black = codes "Black"

abbrev pub behind_words : ℕ → ℕ → List ℕ
behind_words line column = codes "behind the result: line " ++ (decimal line ++ (codes ", column " ++ decimal column))

abbrev pub tail_words : ℕ → List ℕ
tail_words moves = codes "a tail: moves before " ++ (decimal moves ++ codes "; its position is another program's word")

abbrev pub total_words : ℕ → ℕ → List ℕ
total_words games studies = codes "games " ++ (decimal games ++ (codes ", studies " ++ decimal studies))

abbrev pub remark_words : Told → List ℕ
remark_words (left_out game why) = subject_words game ++ why
remark_words (not_read game why) = subject_words game ++ (codes "not read: " ++ why)
remark_words (stipulated game by) = subject_words game ++ stipulated_words by
remark_words (doubted why) = codes "the stipulation " ++ doubt_words why
remark_words (not_taken_over counts) = codes "not taken over: " ++ counts
remark_words (behind_result line column) = behind_words line column
remark_words (original_of name text) = original_name name ++ (codes " was: " ++ text)
remark_words (latin_1 name) = codes "read as Latin 1: " ++ original_name name
remark_words (letters language) = codes "letters: " ++ language
remark_words (tail moves) = tail_words moves
remark_words (total games studies) = total_words games studies

-- a line without its line feed, and with it
abbrev pub remark_line : Told → List ℕ
remark_line t = codes "#! " ++ remark_words t

unfoldable pub remark_text : Told → List ℕ
remark_text t = remark_line t ++ codes "\n"

-- ---- a remark as contracts see it

abbrev pub game_seen : Subject → Game
game_seen s = record { game = s.game; line = s.line; column = s.column; author = s.author.now }

abbrev pub remark_seen : Remark → Told
remark_seen (remark.LeftOut subject why) = left_out (game_seen subject) why.now
remark_seen (remark.NotRead subject why) = not_read (game_seen subject) why.now
remark_seen (remark.Stipulated subject by) = stipulated (game_seen subject) by
remark_seen (remark.Doubted why) = doubted why
remark_seen (remark.NotTakenOver counts) = not_taken_over counts.now
remark_seen (remark.BehindResult line column) = behind_result line column
remark_seen (remark.Original name text) = original_of name text.now
remark_seen (remark.Latin1 name) = latin_1 name
remark_seen (remark.Letters language) = letters language.now
remark_seen (remark.Tail moves) = tail moves
remark_seen (remark.Total games studies) = total games studies

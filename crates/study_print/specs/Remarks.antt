-- The remarks of an imported script on printed pages.
use Rattle.std.specs.Prelude.{ℕ, Bool, true, false, List, [], ◌++◌, drop, Option, Some, if◌then◌else◌, codes, decimal}
use Rattle.study_html.specs.declared.element.Element.TheVariants.{Note, Warning}
use Rattle.study_html.specs.Escape.{escaped_text, lettered_text}
use Rattle.study_html.specs.Elements.{element_text}
use Rattle.study_head.specs.Known.{in_utf8}
use Rattle.study_remark.specs.declared.remark.Original.{Original}
use Rattle.study_remark.specs.declared.remark.Original.TheVariants as original
use Rattle.study_remark.specs.Remarks.{Told, original_of}
use Rattle.study_remark.specs.Reading.{remark_in}
use Rattle.study_report.specs.Remarks.{is_left_out, is_not_read, subject, statement}
use Rattle.study_print.specs.LeftOut.{explanation}

-- `game 3, line 31: left out: 7 men`, `game 4, line 52, column 17: NoSuchMove at Kb6: no legal move of this position`
unfoldable pub left_out_words : List ℕ → List ℕ
left_out_words line = escaped_text (drop 3 line) ++ explanation (statement line)

-- the words before these, for the entry with this number
abbrev pub entry_words : ℕ → List ℕ
entry_words number = codes "No page for entry " ++ (decimal number ++ codes ": ")

-- `No page for entry 3: game 3, line 31: left out: 7 men`
unfoldable pub left_out_part : ℕ → List ℕ → List ℕ
left_out_part number line = element_text Warning (escaped_text (entry_words number) ++ left_out_words line)

-- why no more of a game was read, behind `not read: `
abbrev pub fault_words : List ℕ → List ℕ
fault_words line = drop 10 (statement line)

-- where the reading of a game ended, and why
unfoldable pub not_read_words : List ℕ → List ℕ
not_read_words line =
    escaped_text (subject line) ++ (escaped_text (codes ": ") ++ (escaped_text (fault_words line) ++ explanation (fault_words line)))

-- `The game is read only up to here: game 4, line 52, column 17: NoSuchMove at Kb6: no legal move of this position`
unfoldable pub not_read_part : List ℕ → List ℕ
not_read_part line = element_text Warning (escaped_text (codes "The game is read only up to here: ") ++ not_read_words line)

-- what else an import says of a block, in its own letters: `not taken over: comments 9`, `Black was: Вильнев`
unfoldable pub note_part : List ℕ → List ℕ
note_part line = element_text Note (lettered_text (in_utf8 (drop 3 line)))

-- each tag but Black stands in the head of a page
abbrev pub stands_in_head : Original → Bool
stands_in_head original.Black = false
stands_in_head _ = true

-- the original of such a tag, which stands there in its own letters
abbrev pub says_name : Option Told → Bool
says_name (Some (original_of name text)) = stands_in_head name
says_name _ = false

abbrev pub is_name : List ℕ → Bool
is_name line = says_name (remark_in line)

abbrev pub note_text : List ℕ → List ℕ
note_text line = if is_name line then [] else note_part line

-- the paragraph of a remark; a game that was left out is the entry with this number
abbrev pub remark_text : ℕ → List ℕ → List ℕ
remark_text number line =
    if is_left_out line then left_out_part number line else (if is_not_read line then not_read_part line else note_text line)

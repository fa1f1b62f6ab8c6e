-- A study on a sheet of diagrams.
use Rattle.std.specs.Prelude.{◌≡◌, ℕ, ◌==◌, Bool, List, [], ◌++◌, length, if◌then◌else◌, codes, decimal}
use Rattle.study_board.specs.Position.{Position}
use Rattle.study_moves.specs.Rules.{after}
use Rattle.study_notation.specs.declared.start.Start.{Start}
use Rattle.study_tree.specs.Forest.{Forest, none, more}
use Rattle.study_marks.specs.Edits.{PlainStudy}
use Rattle.study_marks.specs.Goals.{aim_of}
use Rattle.study_marks.specs.Study.{Study, tag_of}
use Rattle.study_marks.specs.declared.stipulation.Stipulation.{Stipulation}
use Rattle.study_marks.specs.declared.tag.TagName.TheVariants.{White}
use Rattle.study_pgn.specs.Pgn.{stipulation_text}
use Rattle.study_html.specs.declared.element.Element.TheVariants.{Figure, Caption, Strong}
use Rattle.study_html.specs.declared.drawing.Drawing.TheVariants.{Break}
use Rattle.study_html.specs.Escape.{escaped_text, lettered_text}
use Rattle.study_html.specs.Elements.{element_text}
use Rattle.study_html.specs.Drawings.{drawing_text}
use Rattle.study_head.specs.Diagram.{board}
use Rattle.study_head.specs.Head.{moves_first}
use Rattle.study_entry.specs.declared.entry.EntryInfo.{EntryInfo}
use Rattle.study_head.specs.Known.{named_words}
use Rattle.study_head.specs.Words.{label}

-- `5. White wins`
unfoldable pub number_words : ℕ → List ℕ → List ℕ
number_words number stipulation = decimal number ++ (codes ". " ++ stipulation)

-- the author on a line, if one is known
abbrev pub author_line : List ℕ → List ℕ
author_line author = if length author == 0 then [] else drawing_text Break ++ lettered_text author

-- below a diagram: the number, the stipulation, who moves first if Black does, the author and the key
unfoldable pub place_caption : ℕ → Stipulation → Start → List ℕ → List ℕ → List ℕ
place_caption number stipulation start author key =
    element_text Caption (element_text Strong (escaped_text (number_words number (stipulation_text stipulation)))
    ++ (escaped_text (moves_first start.position.to_move) ++ (author_line author ++ (drawing_text Break ++ escaped_text key))))

module _ {L : Type 0} where
  -- `1. Ke8`: of these moves from p at depth d the first, with its number, if there is one
  abbrev pub first_words : Start → ℕ → Position → Forest L → List ℕ
  first_words start d p none = []
  first_words start d p (more m l below rest) = label start d p m

  -- the same of the moves behind the first of these from the start
  abbrev pub second_words : Start → Forest L → List ℕ
  second_words start none = []
  second_words start (more m l below rest) = first_words start 1 (after start.position m) below

  -- the key: the hero's first move in the main line, whose second move it is if the opponent moves first
  abbrev pub key_words : Start → Bool → Forest L → List ℕ
  key_words start hero_first f = if hero_first then first_words start 0 start.position f else second_words start f

  -- a study on a sheet: the diagram of the start, with what is below it
  unfoldable pub place : Study L → EntryInfo → List ℕ
  place s entry =
      element_text Figure (board s.start.position
      ++ place_caption entry.number s.stipulation s.start (named_words entry.origin.names.white (tag_of s.tags White))
      (key_words s.start (aim_of s).hero_first s.tree.below))

-- the place of this study as this entry
abbrev pub IsPlaceOf : PlainStudy → EntryInfo → List ℕ → Type 0
IsPlaceOf plain entry text = text ≡ place plain entry

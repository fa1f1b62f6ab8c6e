-- The head of a page, and the diagram with what is below it.
use Rattle.std.specs.Prelude.{ℕ, ◌==◌, List, [], ◌++◌, length, Option, if◌then◌else◌, codes}
use Rattle.study_board.specs.declared.men.Side.{Side}
use Rattle.study_board.specs.declared.men.Side.TheVariants as side
use Rattle.study_board.specs.declared.men.Man.{Man}
use Rattle.study_notation.specs.declared.start.Start.{Start}
use Rattle.study_notation.specs.FenSpelling.{fen_text}
use Rattle.study_marks.specs.declared.stipulation.Stipulation.{Stipulation}
use Rattle.study_marks.specs.declared.tag.TagName.TheVariants.{Event, Site, Date, Round, White}
use Rattle.study_marks.specs.Study.{tag_of}
use Rattle.study_pgn.specs.Pgn.{stipulation_text}
use Rattle.study_html.specs.declared.element.Element.TheVariants.{Header, Title, Byline, Figure, Caption, Strong, Count, Code}
use Rattle.study_html.specs.declared.drawing.Drawing.TheVariants.{Break, Dot}
use Rattle.study_html.specs.Escape.{escaped_text, lettered_text}
use Rattle.study_html.specs.Elements.{element_text}
use Rattle.study_html.specs.Drawings.{drawing_text}
use Rattle.study_head.specs.Diagram.{board, control}
use Rattle.study_entry.specs.declared.entry.Names.{Names}
use Rattle.study_head.specs.Known.{named_words, date_words}
use Rattle.study_head.specs.Counts.{counts_words}

-- the title is the tag Event, if it is known
abbrev pub title_words : List ℕ → List ℕ
title_words event = if length event == 0 then codes "Untitled" else event

-- a dot after what is there
abbrev pub behind : List ℕ → List ℕ
behind line = if length line == 0 then line else line ++ drawing_text Dot

-- what is known, after what is known before it
abbrev pub byline_item : List ℕ → List ℕ → List ℕ
byline_item words line = if length words == 0 then line else behind line ++ lettered_text words

-- `entry 5`
abbrev pub round_words : List ℕ → List ℕ
round_words round = if length round == 0 then [] else codes "entry " ++ round

-- author, place, date and entry, those that are known
abbrev pub byline : Names → List (Option (List ℕ)) → List ℕ
byline names tags =
    byline_item (round_words (named_words names.round (tag_of tags Round))) (byline_item (date_words (named_words names.date (tag_of tags Date)))
    (byline_item (named_words names.site (tag_of tags Site)) (byline_item (named_words names.white (tag_of tags White)) [])))

-- title and byline, in their own letters as far as these are known
unfoldable pub head : Names → List (Option (List ℕ)) → List ℕ
head names tags =
    element_text Header (element_text Title (lettered_text (title_words (named_words names.event (tag_of tags Event))))
    ++ element_text Byline (byline names tags))

abbrev pub moves_first : Side → List ℕ
moves_first side.White = []
moves_first side.Black = codes ", Black to move"

-- the men of both sides
unfoldable pub men_words : List Man → List ℕ
men_words men = control side.White men ++ (codes " /" ++ control side.Black men)

-- the stipulation, the counts of men, the men of both sides, and the FEN
unfoldable pub caption : Stipulation → Start → List ℕ
caption stipulation start =
    element_text Caption (element_text Strong (escaped_text (stipulation_text stipulation)) ++ (escaped_text (moves_first start.position.to_move)
    ++ (element_text Count (escaped_text (counts_words start.position.men)) ++ (drawing_text Break ++ (escaped_text (men_words start.position.men)
    ++ (drawing_text Break ++ element_text Code (escaped_text (fen_text start))))))))

-- the diagram of the start, with what is below it
unfoldable pub figure : Stipulation → Start → List ℕ
figure stipulation start = element_text Figure (board start.position ++ caption stipulation start)

-- Markup as a tree.
use Rattle.std.specs.Prelude.{◌≡◌, ℕ, List, [], ◌++◌}
use Rattle.study_html.specs.declared.element.Element.{Element}
use Rattle.study_html.specs.declared.drawing.Drawing.{Drawing}
use Rattle.study_html.specs.Escape.{escaped_text, lettered_text}
use Rattle.study_html.specs.Elements.{element_text}
use Rattle.study_html.specs.Drawings.{drawing_text}

-- a sequence: words, words in their own letters, elements with their contents, and drawings, which have no contents
pub data Markup : Type 0 where
  nothing : Markup
  words letters : List ℕ → Markup → Markup
  element : Element → Markup → Markup → Markup
  drawing : Drawing → Markup → Markup

-- the text of markup
abbrev pub text_of : Markup → List ℕ
text_of nothing = []
text_of (words w rest) = escaped_text w ++ text_of rest
text_of (letters w rest) = lettered_text w ++ text_of rest
text_of (element e within rest) = element_text e (text_of within) ++ text_of rest
text_of (drawing d rest) = drawing_text d ++ text_of rest

-- The text is that of a tree of markup: each element that is opened is closed, in order, and text from outside is in it only as words.
abbrev pub IsWellNested : List ℕ → Type 0
IsWellNested text = (tree : Markup) × (text ≡ text_of tree)

-- The elements of a page: their names in HTML, and their attributes.
use Rattle.std.specs.Prelude.{ℕ, List, [], ◌++◌, codes, decimal}
use Rattle.study_html.specs.declared.element.Element.{Element}
use Rattle.study_html.specs.declared.element.Element.TheVariants as element

abbrev pub name : Element → List ℕ
name element.Header = codes "header"
name element.Title = codes "h1"
name element.Byline = codes "p"
name element.Top = codes "div"
name element.Figure = codes "figure"
name element.Caption = codes "figcaption"
name element.Strong = codes "b"
name element.Count = codes "span"
name element.Code = codes "code"
name element.Verdict = codes "section"
name element.Heading = codes "h2"
name element.Sound = codes "span"
name element.Unsound = codes "span"
name element.Wrong = codes "span"
name element.Paragraph = codes "p"
name element.Warning = codes "p"
name element.Note = codes "p"
name element.Part = codes "section"
name element.Tree = codes "div"
name element.Only = codes "span"
name element.Dual = codes "span"
name element.Mistake = codes "span"
name element.Idle = codes "span"
name element.Reply = codes "span"
name element.Sign = codes "b"
name element.Small = codes "small"
name element.Below = codes "sub"
name element.List = codes "ul"
name element.Item = codes "li"
name element.Faults = codes "ul"
name element.Cards = codes "div"
name element.Card = codes "div"
name element.Beside = codes "div"
name element.CardTitle = codes "h3"
name element.Label = codes "span"
name element.Also = codes "ul"
name element.Table = codes "table"
name element.Heads = codes "thead"
name element.Rows = codes "tbody"
name element.Row = codes "tr"
name element.Head = codes "th"
name element.Cell = codes "td"
name element.Whole = codes "span"
name element.Group = codes "div"
name element.Answer = codes "i"
name element.Foot = codes "footer"
name element.Said = codes "title"
name element.Summary = codes "article"
name element.Board = codes "svg"
name element.Mini = codes "svg"
name (element.Entry n) = codes "article"
name (element.Link n) = codes "a"

-- the attributes of an element without a number
abbrev pub fixed_attributes : Element → List ℕ
fixed_attributes element.Header = []
fixed_attributes element.Title = []
fixed_attributes element.Byline = codes " class=\"by\""
fixed_attributes element.Top = codes " class=\"top\""
fixed_attributes element.Figure = []
fixed_attributes element.Caption = []
fixed_attributes element.Strong = []
fixed_attributes element.Count = codes " class=\"cnt\""
fixed_attributes element.Code = []
fixed_attributes element.Verdict = codes " class=\"verdict\""
fixed_attributes element.Heading = []
fixed_attributes element.Sound = codes " class=\"stamp sound\""
fixed_attributes element.Unsound = codes " class=\"stamp unsound\""
fixed_attributes element.Wrong = codes " class=\"stamp wrong\""
fixed_attributes element.Paragraph = []
fixed_attributes element.Warning = codes " class=\"warn\""
fixed_attributes element.Note = codes " class=\"note\""
fixed_attributes element.Part = []
fixed_attributes element.Tree = codes " class=\"tree\""
fixed_attributes element.Only = codes " class=\"m only\""
fixed_attributes element.Dual = codes " class=\"m dual\""
fixed_attributes element.Mistake = codes " class=\"m mistake\""
fixed_attributes element.Idle = codes " class=\"m idle\""
fixed_attributes element.Reply = codes " class=\"m reply\""
fixed_attributes element.Sign = codes " class=\"s\""
fixed_attributes element.Small = []
fixed_attributes element.Below = []
fixed_attributes element.List = []
fixed_attributes element.Item = []
fixed_attributes element.Faults = codes " class=\"faults\""
fixed_attributes element.Cards = codes " class=\"cards\""
fixed_attributes element.Card = codes " class=\"card\""
fixed_attributes element.Beside = []
fixed_attributes element.CardTitle = []
fixed_attributes element.Label = codes " class=\"tag\""
fixed_attributes element.Also = codes " class=\"also\""
fixed_attributes element.Table = []
fixed_attributes element.Heads = []
fixed_attributes element.Rows = []
fixed_attributes element.Row = []
fixed_attributes element.Head = []
fixed_attributes element.Cell = []
fixed_attributes element.Whole = codes " class=\"nb\""
fixed_attributes element.Group = []
fixed_attributes element.Answer = []
fixed_attributes element.Foot = []
fixed_attributes element.Said = []
fixed_attributes element.Summary = codes " class=\"sum\""
fixed_attributes element.Board = codes " class=\"board\" role=\"img\" viewBox=\"-14 -3 377 380\""
fixed_attributes element.Mini = codes " class=\"mini\" role=\"img\" viewBox=\"-3 -3 366 366\""
fixed_attributes (element.Entry n) = []
fixed_attributes (element.Link n) = []

abbrev pub attributes : Element → List ℕ
attributes (element.Entry n) = codes " id=\"e" ++ (decimal n ++ codes "\"")
attributes (element.Link n) = codes " href=\"#e" ++ (decimal n ++ codes "\"")
attributes e = fixed_attributes e

unfoldable pub start_tag : Element → List ℕ
start_tag e = codes "<" ++ (name e ++ (attributes e ++ codes ">"))

unfoldable pub end_tag : Element → List ℕ
end_tag e = codes "</" ++ (name e ++ codes ">")

-- an element with its contents
unfoldable pub element_text : Element → List ℕ → List ℕ
element_text e text = start_tag e ++ (text ++ end_tag e)

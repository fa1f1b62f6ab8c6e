-- The drawings: boards, men and signs.
use Rattle.std.specs.Prelude.{ℕ, ◌-◌, ◌*◌, List, [], ◌∷◌, ◌++◌, codes, decimal}
use Rattle.study_board.specs.declared.men.Side.{Side}
use Rattle.study_board.specs.declared.men.Side.TheVariants as side
use Rattle.study_board.specs.declared.men.Kind.{Kind}
use Rattle.study_board.specs.declared.men.Man.{Man}
use Rattle.study_board.specs.Geometry.{file_of, rank_of}
use Rattle.study_board.specs.Letters.{letter}
use Rattle.study_html.specs.declared.drawing.Drawing.{Drawing}
use Rattle.study_html.specs.declared.drawing.Drawing.TheVariants.{Break, Squares, Coordinates, Dot, Dash, Standing}

abbrev pub side_class : Side → List ℕ
side_class side.White = codes "w"
side_class side.Black = codes "b"

-- the upper left corner of a square: a8 is at 0, 0, and a square is 45 wide and high
unfoldable pub cell_of : ℕ → List ℕ
cell_of x = codes " x=\"" ++ (decimal (45 * file_of x) ++ (codes "\" y=\"" ++ (decimal (45 * (7 - rank_of x)) ++ codes "\"")))

-- the colours of men, and their kinds
unfoldable pub colour : Side → List ℕ
colour s = codes " class=\"" ++ (side_class s ++ codes "\"")

unfoldable pub shape : Kind → List ℕ
shape k = codes " href=\"#m" ++ ((letter k ∷ []) ++ codes "\"")

-- ` width="45" height="45"`
unfoldable pub size : List ℕ
size = codes " width=\"4" ++ (codes "5\" height" ++ codes "=\"45\"")

-- the man's shape, in the colour of its side, on its square
unfoldable pub man_drawing : Man → List ℕ
man_drawing m =
    codes "<use" ++ (colour m.side ++ (shape m.kind ++ (cell_of m.at ++ (size ++ codes "/>"))))

unfoldable pub drawing_text : Drawing → List ℕ
drawing_text Break = codes "<br>"
drawing_text Squares = codes "<use href=\"#board\"/>"
drawing_text Coordinates = codes "<use href=\"#coordinates\"/>"
drawing_text Dot = codes " &#183; "
drawing_text Dash = codes "&#8211;"
drawing_text (Standing m) = man_drawing m

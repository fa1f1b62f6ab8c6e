-- Diagrams.
use Rattle.std.specs.Prelude.{ℕ, ◌+◌, List, [], ◌∷◌, ◌++◌, if◌then◌else◌, codes}
use Rattle.std.specs.List.{flat_map}
use Rattle.study_board.specs.declared.men.Side.{Side}
use Rattle.study_board.specs.declared.men.Side.TheVariants as side
use Rattle.study_board.specs.declared.men.Kind.{Kind}
use Rattle.study_board.specs.declared.men.Kind.TheVariants.{King, Queen, Rook, Bishop, Knight, Pawn}
use Rattle.study_board.specs.declared.men.Man.{Man}
use Rattle.study_board.specs.Geometry.{file_of, rank_of}
use Rattle.study_board.specs.Letters.{letter}
use Rattle.study_board.specs.Men.{is_man}
use Rattle.study_board.specs.Position.{Position}
use Rattle.study_pgn.specs.Values.{side_name}
use Rattle.study_html.specs.declared.element.Element.TheVariants as element
use Rattle.study_html.specs.declared.drawing.Drawing.TheVariants.{Squares, Coordinates, Standing}
use Rattle.study_html.specs.Escape.{escaped_text}
use Rattle.study_html.specs.Elements.{element_text}
use Rattle.study_html.specs.Drawings.{drawing_text}

-- ` Kb6`
abbrev pub man_words : Man → List ℕ
man_words m = 32 ∷ letter m.kind ∷ (97 + file_of m.at) ∷ (49 + rank_of m.at) ∷ []

abbrev pub listed_man : Side → Kind → Man → List ℕ
listed_man side kind m = if is_man side kind m then man_words m else []

-- ` Kb6 Pc6`: the men of a side, from the king to the pawns
unfoldable pub control : Side → List Man → List ℕ
control side men =
    flat_map (listed_man side King) men ++ (flat_map (listed_man side Queen) men ++ (flat_map (listed_man side Rook) men
    ++ (flat_map (listed_man side Bishop) men ++ (flat_map (listed_man side Knight) men ++ flat_map (listed_man side Pawn) men))))

-- `White Kb6 Pc6; Black Ka1 Rd5; White to move`
unfoldable pub heard_words : Position → List ℕ
heard_words p =
    codes "White" ++ (control side.White p.men ++ (codes "; Black" ++ (control side.Black p.men
    ++ (codes "; " ++ (side_name p.to_move ++ codes " to move")))))

-- a man on its square
abbrev pub standing : Man → List ℕ
standing m = drawing_text (Standing m)

-- the position in words, the empty board, and on it each man of the position, once, on its square
unfoldable pub board : Position → List ℕ
board p =
    element_text element.Board (element_text element.Said (escaped_text (heard_words p))
    ++ (drawing_text Squares ++ (drawing_text Coordinates ++ flat_map standing p.men)))

-- the same, small and without coordinates
unfoldable pub mini : Position → List ℕ
mini p = element_text element.Mini (element_text element.Said (escaped_text (heard_words p)) ++ (drawing_text Squares ++ flat_map standing p.men))

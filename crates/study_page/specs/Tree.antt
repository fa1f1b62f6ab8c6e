-- The solution as a tree: moves with their signs and the values after them, and variations as lists.
use Rattle.std.specs.Prelude.{ℕ, ◌==◌, Bool, true, false, not, ◌||◌, List, [], ◌++◌, length, Option, Some, if◌then◌else◌, codes, decimal}
use Rattle.study_board.specs.declared.men.Side.{Side}
use Rattle.study_board.specs.Men.{other_side, same_side}
use Rattle.study_moves.specs.declared.moves.Move.{Move}
use Rattle.study_notation.specs.declared.start.Start.{Start}
use Rattle.study_notation.specs.StartAfter.{start_after}
use Rattle.study_notation.specs.SanSpelling.{move_text}
use Rattle.study_values.specs.declared.value.Value.{Value}
use Rattle.study_tree.specs.Forest.{Forest, none, more}
use Rattle.study_marks.specs.declared.mark.Mark.{Mark}
use Rattle.study_marks.specs.declared.mark.MoveMark.{MoveMark}
use Rattle.study_marks.specs.declared.mark.MoveMark.TheVariants.{Only, Dual, Mistake, Idle}
use Rattle.study_marks.specs.Study.{Study}
use Rattle.study_pgn.specs.Moves.{number_text}
use Rattle.study_facts.specs.Nodes.{is_leaf}
use Rattle.study_html.specs.declared.element.Element.{Element}
use Rattle.study_html.specs.declared.element.Element.TheVariants as element
use Rattle.study_html.specs.Escape.{escaped_text}
use Rattle.study_html.specs.Elements.{element_text}
use Rattle.study_head.specs.Words.{short_words}
use Rattle.study_page.specs.Rows.{is_white}

-- a move by its mark
abbrev pub move_element : Option MoveMark → Element
move_element (Some Only) = element.Only
move_element (Some (Dual k)) = element.Dual
move_element (Some Mistake) = element.Mistake
move_element (Some Idle) = element.Idle
move_element _ = element.Reply

-- `!` after an only move, and `?` after a mistake
abbrev pub sign_words : Option MoveMark → List ℕ
sign_words (Some Only) = element_text element.Sign (escaped_text (codes "!"))
sign_words (Some Mistake) = element_text element.Sign (escaped_text (codes "?"))
sign_words _ = []

-- how many other moves hold beside a dual
abbrev pub dual_words : Option MoveMark → List ℕ
dual_words (Some (Dual k)) = escaped_text (codes " ") ++ element_text element.Label (escaped_text (codes "dual " ++ decimal k))
dual_words _ = []

-- the number of a move, before the first of a line and before each of White's
abbrev pub number_where : Bool → Start → List ℕ
number_where first s = if first || is_white s.position.to_move then number_text s ++ codes " " else []

-- a move with its number and its sign
unfoldable pub played_words : Bool → Start → Move → Option MoveMark → List ℕ
played_words first s m mark = element_text (move_element mark) (escaped_text (number_where first s ++ move_text s.position m) ++ sign_words mark)

-- small, the value after a move of this side
unfoldable pub below_words : Side → Side → Value → List ℕ
below_words hero mover v = element_text element.Below (escaped_text (short_words (same_side (other_side mover) hero) v))

-- a move with its sign, and the value after it
unfoldable pub made_words : Side → Bool → Start → Move → Mark → List ℕ
made_words hero first s m x =
    played_words first s m x.on_move ++ (below_words hero s.position.to_move x.value ++ (dual_words x.on_move ++ escaped_text (codes " ")))

-- the moves beside the first
abbrev pub others_of : Forest Mark → Forest Mark
others_of none = none
others_of (more m mark below others) = others

-- items as a list, where there are any
abbrev pub list_where : List ℕ → List ℕ
list_where items = if length items == 0 then [] else element_text element.List items

abbrev mutual
  -- what follows a node, of which these are the children: the first one's move, the others as a list of variations, and what follows the first
  pub tree_words : Side → Bool → Start → Forest Mark → List ℕ
  tree_words hero first s none = []
  tree_words hero first s (more m mark below others) =
      made_words hero first s m mark
      ++ (list_where (item_words hero s others) ++ tree_words hero (not (is_leaf others)) (start_after s m) below)

  -- for each of these an item, with its move and what follows it
  pub item_words : Side → Start → Forest Mark → List ℕ
  item_words hero s none = []
  item_words hero s (more m mark below others) =
      element_text element.Item (made_words hero true s m mark ++ tree_words hero false (start_after s m) below) ++ item_words hero s others

-- the tree of an annotated study
abbrev pub solution_words : Study Mark → List ℕ
solution_words s = tree_words s.stipulation.hero true s.start s.tree.below

-- If both sides have the same men a mutual zugzwang appears twice with White to move: as it is, and with the other side to move and the colours swapped.
-- One of the two is listed.
use Rattle.std.specs.Prelude.{◌≡◌, ◌⊎◌, ◌≤◌}
use Rattle.study_board.specs.Position.{Position, IsValid}
use Rattle.study_board.specs.Symmetry.{image}
use Rattle.study_moves.specs.Game.{IsDrawn}
use Rattle.study_values.specs.Index.{index_of}
use Rattle.study_zugzwang.specs.Zugzwang.{handed_on, IsZugzwang}
use Rattle.study_search.specs.Laws.{colours_swapped}

-- the other of the two
abbrev pub counterpart : Position → Position
counterpart p = image colours_swapped (handed_on p)

-- the first is drawn, or the second is not and has no lower number
abbrev pub ComesFirst : Position → Position → Type 0
ComesFirst p q = IsDrawn p ⊎ (¬ (IsDrawn q) × (index_of p ≤ index_of q))

-- Of the two the one in which White draws on the move, and wins if Black is to move; if both sides lose on the move, the one with the lower number.
abbrev pub IsListedOfTwo : Position → Type 0
IsListedOfTwo p = ComesFirst p (counterpart p)

-- of a mutual zugzwang and its counterpart one is listed, and if both are they have the same number
pub record IsOneOfTwo (p : Position) : Type 0 where
  pub some : IsListedOfTwo p ⊎ IsListedOfTwo (counterpart p)
  pub one : IsListedOfTwo p → IsListedOfTwo (counterpart p) → index_of p ≡ index_of (counterpart p)

abbrev pub OneOfTwoIsListed : Type 0
OneOfTwoIsListed = (p : Position) → IsValid p → IsZugzwang p → IsOneOfTwo p

-- Laws of the list of found positions.
use Rattle.std.specs.Prelude.{◌≡◌, ◌↔◌, ℕ, ◌+◌, ◌<◌, ◌≤◌, true, false, List, Some}
use Rattle.std.specs.List.{Contains, AllPairs}
use Rattle.study_board.specs.declared.men.Side.{Side}
use Rattle.study_board.specs.declared.men.Side.TheVariants.{White, Black}
use Rattle.study_board.specs.declared.symmetry.Symmetry.{Symmetry}
use Rattle.study_board.specs.Position.{Position, IsValid}
use Rattle.study_board.specs.Symmetry.{image, turned_side}
use Rattle.study_material.specs.Class.{lists_of, IsOf}
use Rattle.study_material.specs.Lists.{is_swapped}
use Rattle.study_values.specs.Number.{cells_of}
use Rattle.study_values.specs.Index.{index_of}
use Rattle.study_index.specs.Computed.{position_numbered}
use Rattle.study_index.specs.Laws.{AreAlikeIn}
use Rattle.study_search.specs.declared.finding.Search.{Search}
use Rattle.study_search.specs.declared.only_moves.Outcome.{Outcome}
use Rattle.study_search.specs.OnlyMoves.{HasOnlyMoves}
use Rattle.study_search.specs.Themes.{HasTheme}
use Rattle.study_search.specs.Finding.{is_for, IsFound, AreFound}

-- the index of the position is found, and no other number that reads as an image of it
pub record IsFoundOnce (s : Search) (p : Position) : Type 0 where
  pub found : IsFound s (index_of p)
  pub once : (n : ℕ) (q : Position) → position_numbered s.class n ≡ Some q → AreAlikeIn s.class p q → n ≡ index_of p

-- Each position of the class that has the theme is found once, up to the symmetries of the class: none is missing. In a class whose sides differ, the
-- wanted side is the one to move after Black's men have become White's if Black has the first list of the class.
abbrev pub EachIsFoundOnce : Type 0
EachIsFoundOnce = (s : Search) (p : Position) → IsValid p → IsOf s.class p
    → is_for s.side (turned_side (is_swapped p.men) p.to_move) ≡ true → HasTheme s.theme p → IsFoundOnce s p

-- White and Black swapped, and the ranks mirrored
abbrev pub colours_swapped : Symmetry
colours_swapped = record { files = false; ranks = false; diagonal = false; colours = true }

-- the position, or its colour image if Black is to move
abbrev pub image_for : Side → Position → Position
image_for White p = p
image_for Black p = image colours_swapped p

abbrev pub with_white_to_move : Position → Position
with_white_to_move p = image_for p.to_move p

-- If both sides have the same men, White to move is enough: of the two colour images of each position that has the theme the one with White to move is
-- found.
abbrev pub OneOfTwoImagesIsFound : Type 0
OneOfTwoImagesIsFound = (s : Search) (p : Position) → IsValid p → IsOf s.class p → (lists_of s.class).white ≡ (lists_of s.class).black
    → s.side ≡ Some White → HasTheme s.theme p → IsFoundOnce s (with_white_to_move p)

-- The numbers found by searching again and again are the matching numbers of the range, each once and ascending; over all cells of the class they are all
-- there are.
pub record AreAll (s : Search) : Type 0 where
  pub range : (a b : ℕ) (ns : List ℕ) → AreFound (IsFound s) a b ns
      → ((k : ℕ) → Contains ns k ↔ ((a ≤ k) × (k < b) × IsFound s k)) × AllPairs (λ x y. x < y) ns
  pub class : (ns : List ℕ) → AreFound (IsFound s) 0 (cells_of s.class) ns → (k : ℕ) → Contains ns k ↔ IsFound s k

abbrev pub NextFoundsAreAll : Type 0
NextFoundsAreAll = (s : Search) → AreAll s

-- If the hero has to find so many only moves in a row, he has to find any smaller number, too
abbrev pub FewerOnlyMoves : Type 0
FewerOnlyMoves = (o : Outcome) (n : ℕ) (p : Position) → HasOnlyMoves o (n + 1) p → HasOnlyMoves o n p

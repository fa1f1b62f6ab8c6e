-- Laws of lists.
use Rattle.std.specs.Prelude.{◌≡◌, ◌↔◌, ◌⊎◌, ℕ, ◌<◌, ◌≤◌, true, false, List, Some, is_some}
use Rattle.std.specs.List.{Contains, AllPairs}
use Rattle.study_board.specs.Position.{Position, IsValid}
use Rattle.study_material.specs.Class.{IsOf}
use Rattle.study_material.specs.Lists.{is_swapped}
use Rattle.study_values.specs.Index.{index_of}
use Rattle.study_index.specs.Computed.{position_numbered}
use Rattle.study_search.specs.Finding.{is_for}
use Rattle.study_search.specs.Pairs.{counterpart}
use Rattle.study_search.specs.Themes.{HasTheme}
use Rattle.study_listing.specs.declared.filters.Selection.{Selection}
use Rattle.study_listing.specs.declared.text.Form.{Form}
use Rattle.study_listing.specs.Filters.{no_filters, are_placed, HasImagePlaced, HasWantedKey, HasWantedResult}
use Rattle.study_listing.specs.Lists.{is_paired, hero_image, listed_image, HasRowShown, IsListedAt, IsList}

-- A range of numbers has exactly one list.
abbrev pub ListsAreUnique : Type 0
ListsAreUnique = (s : Selection) (form : Form) (a b : ℕ) (ns ms text other : List ℕ)
    → IsList s form a b ns text → IsList s form a b ms other → (ns ≡ ms) × (text ≡ other)

-- The list has each number of the range that is listed, once and ascending, and no others.
abbrev pub ListsHaveAll : Type 0
ListsHaveAll = (s : Selection) (form : Form) (a b : ℕ) (ns text : List ℕ) → IsList s form a b ns text
    → ((k : ℕ) → Contains ns k ↔ ((a ≤ k) × (k < b) × IsListedAt s k)) × AllPairs (λ x y. x < y) ns

-- some image of the position, or of its colour image where White is to be the hero, has men on the wanted squares; or some image of its counterpart has, if
-- the counterpart has a place in the list
abbrev pub HasImageShown : Selection → Position → Type 0
HasImageShown s p = HasImagePlaced s.filters.men (hero_image s p) ⊎ ((is_paired s.search ≡ true) × HasImagePlaced s.filters.men (counterpart p))

-- An image is shown exactly if there is such an image, and it has men on the wanted squares; without such filters it is the position itself, or its colour
-- image where White is to be the hero.
pub record IsShownRightly (s : Selection) (p : Position) : Type 0 where
  pub some : (is_some (listed_image s p) ≡ true) ↔ HasImageShown s p
  pub placed : (q : Position) → listed_image s p ≡ Some q → are_placed s.filters.men q ≡ true
  pub alone : IsValid p → s.filters.men ≡ no_filters.men → listed_image s p ≡ Some (hero_image s p)

abbrev pub ImagesAreShown : Type 0
ImagesAreShown = (s : Selection) (p : Position) → IsShownRightly s p

-- If a position of the class has men on the wanted squares, an image of the position that its number reads as is shown: so a filter loses no position.
-- White has the class's first list of men.
abbrev pub PlacedAreShown : Type 0
PlacedAreShown = (s : Selection) (p q : Position) → IsValid p → IsOf s.search.class p → is_swapped p.men ≡ false
    → s.filters.as_white ≡ false → are_placed s.filters.men p ≡ true
    → position_numbered s.search.class (index_of p) ≡ Some q → is_some (listed_image s q) ≡ true

-- Each position of the class with the theme, White having the class's first list, with the wanted side to move, men on the wanted squares, a key that passes
-- the filters and the wanted result, is listed by its index, if the row that is shown with the position of that index has what is wanted: of equal replies a
-- row has the first by squares, so that images have different rows. (Of a mutual zugzwang in two placements one is, and of a family the first.)
abbrev pub EachIsListed : Type 0
EachIsListed = (s : Selection) (p : Position) → IsValid p → IsOf s.search.class p → is_swapped p.men ≡ false → is_for s.search.side p.to_move ≡ true
    → HasTheme s.search.theme p → are_placed s.filters.men p ≡ true → HasWantedKey s.filters p → HasWantedResult s.filters.result p
    → ((q : Position) → position_numbered s.search.class (index_of p) ≡ Some q → HasRowShown s q)
    → is_paired s.search ≡ false → s.filters.families ≡ false → s.filters.as_white ≡ false
    → IsListedAt s (index_of p)

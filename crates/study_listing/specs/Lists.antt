-- The whole list: the texts of all found numbers, one after the other.
use Rattle.std.specs.Prelude.{◌≡◌, ◌⊎◌, ℕ, ◌<◌, ◌≤◌, Bool, true, false, ◌&&◌, List, [], ◌∷◌, ◌++◌, length, Option, Some, None, MatchOption, is_some, if◌then◌else◌}
use Rattle.std.specs.Io.KnownBytes.{Appends}
use Rattle.study_text.specs.Taken.{TakesPrefix}
use Rattle.study_board.specs.declared.men.Side.{Side}
use Rattle.study_board.specs.declared.men.Side.TheVariants.{White, Black}
use Rattle.study_board.specs.Position.{Position}
use Rattle.study_material.specs.declared.class.Class.{Class}
use Rattle.study_material.specs.Class.{lists_of, same_kinds}
use Rattle.study_index.specs.Computed.{position_numbered}
use Rattle.study_moves.specs.declared.moves.Move.{Move}
use Rattle.study_values.specs.Index.{index_of}
use Rattle.study_search.specs.declared.only_moves.Outcome.{Outcome}
use Rattle.study_search.specs.declared.only_moves.Outcome.TheVariants.{Win, Draw}
use Rattle.study_search.specs.OnlyMoves.{IsKey}
use Rattle.study_search.specs.declared.finding.Search.{Search}
use Rattle.study_search.specs.declared.themes.Theme.{Theme}
use Rattle.study_search.specs.declared.themes.Theme.TheVariants as theme
use Rattle.study_search.specs.Finding.{IsLookedFor, AreFound}
use Rattle.study_search.specs.Laws.{with_white_to_move}
use Rattle.study_search.specs.Longest.{IsLongest}
use Rattle.study_search.specs.Pairs.{counterpart, IsListedOfTwo}
use Rattle.study_listing.specs.declared.filters.Selection.{Selection}
use Rattle.study_listing.specs.declared.request.Request.{Request}
use Rattle.study_listing.specs.declared.request.Request.TheVariants.{Positions, Longest}
use Rattle.study_listing.specs.declared.text.Form.{Form}
use Rattle.study_listing.specs.Facts.{IsTextOf}
use Rattle.study_listing.specs.Families.{SomeMoved}
use Rattle.study_listing.specs.Features.{HasWantedRow}
use Rattle.study_listing.specs.Filters.{turns, or_else, first_placed, HasWantedKey, HasWantedResult, no_filters}

-- both sides have the same men, so that each position has a colour image in the class
abbrev pub has_like_sides : Class → Bool
has_like_sides c = same_kinds (lists_of c).white (lists_of c).black

abbrev pub is_of_zugzwangs : Theme → Bool
is_of_zugzwangs theme.Zugzwang = true
is_of_zugzwangs (theme.OnlyMoves o n) = false
is_of_zugzwangs theme.Underpromotion = false
is_of_zugzwangs (theme.IntoZugzwang o) = false
is_of_zugzwangs (theme.ZugzwangTry o) = false
is_of_zugzwangs (theme.MateIn n) = false

abbrev pub is_for_white : Option Side → Bool
is_for_white None = false
is_for_white (Some White) = true
is_for_white (Some Black) = false

-- each mutual zugzwang is found in two placements
abbrev pub is_paired : Search → Bool
is_paired s = is_of_zugzwangs s.theme && (is_for_white s.side && has_like_sides s.class)

-- one of two placements of a mutual zugzwang is listed
abbrev pub IsOneOfPair : Search → Position → Type 0
IsOneOfPair s p = is_paired s ≡ true → IsListedOfTwo p

-- the counterpart of a mutual zugzwang that has two placements
abbrev pub second_placed : Selection → Position → Option Position
second_placed s p = if is_paired s.search then first_placed s.filters.men (counterpart p) turns else None

-- the position, or its colour image with White to move, if White is to be the hero
abbrev pub hero_image : Selection → Position → Position
hero_image s p = if s.filters.as_white then with_white_to_move p else p

-- The image of the position that is listed: the first, starting with the identity, that has men on the wanted squares; if there is none, and the position
-- is one placement of a mutual zugzwang, that of the other placement.
abbrev pub listed_image : Selection → Position → Option Position
listed_image s p = or_else (first_placed s.filters.men (hero_image s p) turns) (second_placed s p)

-- the row of only moves that is shown with the listed image has what the filters want
abbrev pub HasRowShown : Selection → Position → Type 0
HasRowShown s p = (q : Position) → listed_image s p ≡ Some q → HasWantedRow s.filters.row q

-- The position matches the search, and is not the second placement of a mutual zugzwang; some image of it has men on the wanted squares; and its key passes
-- the filters, and so do its result and the row that is shown: it is in the list, or in the family of a position that is.
pub record IsListed (s : Selection) (p : Position) : Type 0 where
  pub sought : IsLookedFor s.search p
  pub first : IsOneOfPair s.search p
  pub placed : is_some (listed_image s p) ≡ true
  pub key : HasWantedKey s.filters p
  pub result : HasWantedResult s.filters.result p
  pub row : HasRowShown s p

-- such a position has a lower number, and the same move is its key
abbrev pub IsEarlierKin : Selection → ℕ → Outcome → Move → Position → Type 0
IsEarlierKin s n o m q = (index_of q < n) × IsKey o q m × IsListed s q

-- with one man on another square it is one of a lower number with the same key
abbrev pub HasEarlierKin : Selection → Outcome → Position → Type 0
HasEarlierKin s o p = (m : Move) × IsKey o p m × SomeMoved (IsEarlierKin s (index_of p) o m) p p.men

-- if families are wanted: the position is the first of its family
abbrev pub IsFirstOfFamily : Selection → Position → Type 0
IsFirstOfFamily s p = s.filters.families ≡ true → ¬ (HasEarlierKin s Win p ⊎ HasEarlierKin s Draw p)

abbrev pub IsListedAt : Selection → ℕ → Type 0
IsListedAt s n = (p : Position) × (position_numbered s.search.class n ≡ Some p) × IsListed s p × IsFirstOfFamily s p

-- the text of the image that is shown
abbrev pub IsTextAt : Selection → Form → ℕ → List ℕ → Type 0
IsTextAt s form n text =
    (p : Position) × (position_numbered s.search.class n ≡ Some p)
    × ((q : Position) × (listed_image s p ≡ Some q) × IsTextOf form s.search.theme q text)

-- the texts of the numbers, one after the other
abbrev pub AreTexts : (ℕ → List ℕ → Type 0) → List ℕ → List ℕ → Type 0
AreTexts T [] text = text ≡ []
AreTexts T (n ∷ ns) text = (first : List ℕ) × (rest : List ℕ) × T n first × AreTexts T ns rest × (text ≡ first ++ rest)

-- Of the numbers from a on and below b, exactly these are listed, ascending, and this is their list.
pub record IsList (s : Selection) (form : Form) (a b : ℕ) (ns text : List ℕ) : Type 0 where
  pub found : AreFound (IsListedAt s) a b ns
  pub texts : AreTexts (IsTextAt s form) ns text

-- so many numbers are listed
abbrev pub AreSoMany : Selection → ℕ → ℕ → ℕ → Type 0
AreSoMany s a b count = (ns : List ℕ) × AreFound (IsListedAt s) a b ns × (length ns ≡ count)

-- the list is written, and the count is that of its numbers
pub record HasWritten (s : Selection) (form : Form) (a b : ℕ) (old new : Option (List ℕ)) (count : ℕ) : Type 0 where
  pub numbers : List ℕ
  pub text : List ℕ
  pub list : IsList s form a b numbers text
  pub written : Appends old new text
  pub counted : length numbers ≡ count

-- the list of all numbers below one of them is written, and nothing else
abbrev pub HasWrittenSome : Selection → Form → ℕ → ℕ → Option (List ℕ) → Option (List ℕ) → Type 0
HasWrittenSome s form a b old new = (n : ℕ) × (n ≤ b) × ((count : ℕ) × HasWritten s form a n old new count)

-- the writer stopped inside the list
pub record HasStopped (s : Selection) (form : Form) (a b : ℕ) (old new : Option (List ℕ)) : Type 0 where
  pub end : ℕ
  pub within : end ≤ b
  pub numbers : List ℕ
  pub text : List ℕ
  pub list : IsList s form a end numbers text
  pub taken : TakesPrefix old new text

-- the selection: for the longest mate, the mates of this length, if the side mates at all
abbrev pub IsSelectionOf : Request → Option Selection → Type 0
IsSelectionOf (Positions s) selection = selection ≡ Some s
IsSelectionOf (Longest c side) selection = MatchOption selection
    (IsLongest c side None)
    (λ s. (n : ℕ) × (s ≡ record { search = record { class = c; theme = theme.MateIn n; side = Some side }; filters = no_filters })
    × IsLongest c side (Some n))

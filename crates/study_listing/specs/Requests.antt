-- The request of words: a theme, the side to move, and filters.
use Rattle.std.specs.Prelude.{ℕ, Bool, true, ◌||◌, nat_le, List, [], ◌∷◌, Option, Some, None, Result, Ok, Err, codes, if◌then◌else◌}
use Rattle.std.specs.Str.{bytes_eq}
use Rattle.study_board.specs.declared.men.Side.{Side}
use Rattle.study_board.specs.declared.men.Side.TheVariants.{White}
use Rattle.study_material.specs.declared.class.Class.{Class}
use Rattle.study_command.specs.Paths.{place_parsed}
use Rattle.study_command.specs.Parser.{side_parsed}
use Rattle.study_search.specs.declared.only_moves.Outcome.{Outcome}
use Rattle.study_search.specs.declared.only_moves.Outcome.TheVariants.{Win, Draw}
use Rattle.study_search.specs.declared.themes.Theme.{Theme}
use Rattle.study_search.specs.declared.themes.Theme.TheVariants as theme
use Rattle.study_listing.specs.declared.request.Request.{Request}
use Rattle.study_listing.specs.declared.request.Request.TheVariants.{Positions, Longest}
use Rattle.study_listing.specs.declared.filter_words.Behind.{Behind}
use Rattle.study_listing.specs.declared.filter_words.Unread.{Unread}
use Rattle.study_listing.specs.declared.filter_words.Unread.TheVariants.{NoSuchTheme, NoSuchFilter}
use Rattle.study_listing.specs.Filters.{or_else}
use Rattle.study_listing.specs.FilterWords.{nothing_behind, with_words}
use Rattle.study_listing.specs.Lists.{has_like_sides, is_of_zugzwangs}

abbrev pub outcome_named : List ℕ → Option Outcome
outcome_named word = if bytes_eq word (codes "win") then Some Win else (if bytes_eq word (codes "draw") then Some Draw else None)

abbrev pub theme_of_one : List ℕ → Option Theme
theme_of_one word =
    if bytes_eq word (codes "zugzwang") then Some theme.Zugzwang
    else (if bytes_eq word (codes "underpromotion") then Some theme.Underpromotion else None)

abbrev pub into : Option Outcome → Option Theme
into None = None
into (Some o) = Some (theme.IntoZugzwang o)

abbrev pub by_try : Option Outcome → Option Theme
by_try None = None
by_try (Some o) = Some (theme.ZugzwangTry o)

-- at most 255
abbrev pub few_only_moves : Outcome → Option ℕ → Option Theme
few_only_moves o None = None
few_only_moves o (Some n) = if nat_le n 255 then Some (theme.OnlyMoves o n) else None

abbrev pub only_moves_named : Option Outcome → List ℕ → Option Theme
only_moves_named None word = None
only_moves_named (Some o) word = few_only_moves o (place_parsed word)

-- `into win`, `try draw`, `win 5`, with one to three digits
abbrev pub theme_of_two : List ℕ → List ℕ → Option Theme
theme_of_two first second =
    if bytes_eq first (codes "into") then into (outcome_named second)
    else (if bytes_eq first (codes "try") then by_try (outcome_named second)
    else only_moves_named (outcome_named first) second)

-- the side to move if none is named: of the two positions of a zugzwang, and of two colour images, one is enough
abbrev pub usual_side : Class → Theme → Option Side
usual_side c t = if is_of_zugzwangs t || has_like_sides c then Some White else None

-- with the words after the theme
abbrev pub positions_request : Class → Theme → Result Behind Unread → Result Request Unread
positions_request c t (Err fault) = Err fault
positions_request c t (Ok b) = Ok (Positions (record {
  search = record { class = c; theme = t; side = or_else b.side (usual_side c t) };
  filters = b.filters;
}))

abbrev pub positions_of : Class → Theme → List (List ℕ) → Result Request Unread
positions_of c t rest = positions_request c t (with_words t (Ok nothing_behind) rest)

abbrev pub longest_for : Class → Option Side → List (List ℕ) → Result Request Unread
longest_for c None rest = Err NoSuchTheme
longest_for c (Some side) [] = Ok (Longest c side)
longest_for c (Some side) (word ∷ more) = Err NoSuchFilter

abbrev pub request_of_theme : Class → Option Theme → List (List ℕ) → Result Request Unread
request_of_theme c None rest = Err NoSuchTheme
request_of_theme c (Some t) rest = positions_of c t rest

abbrev pub by_two : Class → List ℕ → List (List ℕ) → Result Request Unread
by_two c first [] = Err NoSuchTheme
by_two c first (second ∷ rest) =
    if bytes_eq first (codes "longest") then longest_for c (side_parsed second) rest
    else request_of_theme c (theme_of_two first second) rest

abbrev pub by_one : Class → Option Theme → List ℕ → List (List ℕ) → Result Request Unread
by_one c None first rest = by_two c first rest
by_one c (Some t) first rest = positions_of c t rest

-- The theme is read before the words after it; the refusal is for the first unknown word.
abbrev pub request_of : Class → List (List ℕ) → Result Request Unread
request_of c [] = Err NoSuchTheme
request_of c (first ∷ rest) = by_one c (theme_of_one first) first rest

-- the class whose positions are searched
abbrev pub class_of_request : Request → Class
class_of_request (Positions s) = s.search.class
class_of_request (Longest c side) = c

-- the table of the class alone is enough
abbrev pub needs_one_table : Request → Bool
needs_one_table (Positions s) = is_of_zugzwangs s.search.theme
needs_one_table (Longest c side) = true

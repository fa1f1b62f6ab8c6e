-- Filters: the squares of men, the kind of key, the result, and what the row of only moves has.
use Rattle.std.specs.Prelude.{◌≡◌, ◌&&◌, ◌||◌, not, ℕ, nat_le, nat_lt, Bool, true, false, length, replicate, List, [], ◌∷◌, Option, Some, None, is_some, if◌then◌else◌}
use Rattle.std.specs.List.{list_all, list_any}
use Rattle.study_board.specs.declared.men.Kind.{Kind}
use Rattle.study_board.specs.declared.men.Man.{Man}
use Rattle.study_board.specs.declared.symmetry.Symmetry.{Symmetry}
use Rattle.study_board.specs.Geometry.{file_of, rank_of}
use Rattle.study_board.specs.Men.{same_side, same_kind}
use Rattle.study_board.specs.Position.{Position, in_check}
use Rattle.study_board.specs.Symmetry.{image, admits}
use Rattle.study_moves.specs.declared.moves.Move.{Move}
use Rattle.study_moves.specs.Rules.{after}
use Rattle.study_search.specs.declared.only_moves.Outcome.{Outcome}
use Rattle.study_search.specs.OnlyMoves.{Has, IsKey}
use Rattle.study_listing.specs.declared.filters.Placed.{Placed}
use Rattle.study_listing.specs.declared.filters.Filters.{Filters}

-- every position passes
abbrev pub no_filters : Filters
no_filters = record {
  men = replicate 4 None;
  no_capture = false;
  no_check = false;
  promoted = None;
  result = None;
  row = replicate 4 None;
  families = false;
  as_white = false;
}

abbrev pub is_from_to : ℕ → ℕ → ℕ → Bool
is_from_to low high n = nat_le low n && nat_le n high

-- the square lies in the rectangle whose lower left and upper right squares these are
abbrev pub is_within : Placed → ℕ → Bool
is_within w x = is_from_to (file_of w.from) (file_of w.to) (file_of x) && is_from_to (rank_of w.from) (rank_of w.to) (rank_of x)

-- a man of this side and kind, on a square of the rectangle
abbrev pub is_placed : Placed → Man → Bool
is_placed w m = same_side m.side w.side && (same_kind m.kind w.kind && is_within w m.at)

-- there is such a man, or no filter
abbrev pub has_placed : List Man → Option Placed → Bool
has_placed men None = true
has_placed men (Some w) = list_any (is_placed w) men

-- all men that the filters name are there
abbrev pub are_placed : List (Option Placed) → Position → Bool
are_placed ws p = list_all (has_placed p.men) ws

-- ---- images

abbrev pub turned_by : Bool → Bool → Bool → Symmetry
turned_by files ranks diagonal = record { files = files; ranks = ranks; diagonal = diagonal; colours = false }

-- the board mirrored and turned in each way, colours kept; the identity first
unfoldable pub turns : List Symmetry
turns =
    turned_by false false false ∷ turned_by true false false ∷ turned_by false true false ∷ turned_by true true false
    ∷ turned_by false false true ∷ turned_by true false true ∷ turned_by false true true ∷ turned_by true true true ∷ []

abbrev pub or_else : {A : Type 0} → Option A → Option A → Option A
or_else None b = b
or_else (Some x) b = Some x

-- the image, if the men admit it (pawns move along files) and it has the men that the filters name
abbrev pub image_placed : List (Option Placed) → Position → Symmetry → Option Position
image_placed ws p g = if admits p g && are_placed ws (image g p) then Some (image g p) else None

-- the first of them
abbrev pub first_placed : List (Option Placed) → Position → List Symmetry → Option Position
first_placed ws p [] = None
first_placed ws p (g ∷ gs) = or_else (image_placed ws p g) (first_placed ws p gs)

-- some image that keeps the colours has the men that the filters name
pub record HasImagePlaced (ws : List (Option Placed)) (p : Position) : Type 0 where
  pub by : Symmetry
  pub colours : by.colours ≡ false
  pub admitted : admits p by ≡ true
  pub placed : are_placed ws (image by p) ≡ true

-- ---- the key

-- there are fewer men after the move
abbrev pub is_capture : Position → Move → Bool
is_capture p m = nat_lt (length (after p m).men) (length p.men)

abbrev pub gives_check : Position → Move → Bool
gives_check p m = in_check (after p m).men (after p m).to_move

-- the move promotes to the wanted man, if one is wanted
abbrev pub promotes_as_wanted : Option Kind → Option Kind → Bool
promotes_as_wanted None promoted = true
promotes_as_wanted (Some wanted) None = false
promotes_as_wanted (Some wanted) (Some to) = same_kind to wanted

-- neither a capture nor a check, and a promotion to the wanted man, if the filters require that
abbrev pub is_let_through : Filters → Position → Move → Bool
is_let_through f p m = not (f.no_capture && is_capture p m) && (not (f.no_check && gives_check p m) && promotes_as_wanted f.promoted m.promoted)

-- exactly one move holds, and it passes the filters
abbrev pub HasKeyLetThrough : Filters → Position → Type 0
HasKeyLetThrough f p = (m : Move) × ((o : Outcome) × IsKey o p m) × (is_let_through f p m ≡ true)

-- some filter concerns the key
abbrev pub is_on_key : Filters → Bool
is_on_key f = f.no_capture || (f.no_check || is_some f.promoted)

-- the same, if a filter concerns the key
abbrev pub HasWantedKey : Filters → Position → Type 0
HasWantedKey f p = is_on_key f ≡ true → HasKeyLetThrough f p

-- the side to move has the wanted outcome, if one is wanted
abbrev pub HasWantedResult : Option Outcome → Position → Type 0
HasWantedResult None p = Unit {0}
HasWantedResult (Some o) p = Has o p

abbrev pub is_key_let_through : Filters → Position → Option Move → Bool
is_key_let_through f p None = false
is_key_let_through f p (Some m) = is_let_through f p m

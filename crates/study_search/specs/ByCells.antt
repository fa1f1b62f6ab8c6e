-- Not part of any public contract: mutual zugzwangs by the cells of the same men with either side to move.
use Rattle.std.specs.Prelude.{◌≡◌, ℕ, ◌+◌, ◌-◌, ◌*◌, ◌/◌, ◌%◌, ◌^◌, ◌<◌, ◌≤◌, nat_lt, Bool, true, List, length, slice_index, Some}
use Rattle.study_board.specs.Position.{Position}
use Rattle.study_material.specs.declared.class.Class.{Class}
use Rattle.study_values.specs.Cells.{value_of}
use Rattle.study_values.specs.Number.{king_places}
use Rattle.study_index.specs.Computed.{position_numbered}
use Rattle.study_index.specs.Decoded.{slots_of, slots_have_pawn}
use Rattle.study_zugzwang.specs.Zugzwang.{half_points, EitherCanMove, IsZugzwang}
use Rattle.study_search.specs.declared.finding.Search.{Search}
use Rattle.study_search.specs.Finding.{IsFound}

-- what the number of men with Black to move exceeds that with White to move by: the numbers with White to move come first
unfoldable pub side_step : Class → ℕ
side_step c = king_places (slots_have_pawn (slots_of c)) * 64 ^ (length (slots_of c) - 1)

-- the number reads as a mutual zugzwang
abbrev pub IsZugzwangAt : Class → ℕ → Type 0
IsZugzwangAt c n = (p : Position) × (position_numbered c n ≡ Some p) × IsZugzwang p

-- the number reads as a position that is valid with the other side to move, too, and either side has a legal move
abbrev pub IsHandedOn : Class → ℕ → Type 0
IsHandedOn c n = (p : Position) × (position_numbered c n ≡ Some p) × EitherCanMove p

-- sides to move with these two cells score less than a point between them
abbrev pub is_less : ℕ → ℕ → Bool
is_less own other = nat_lt (half_points (value_of own) + half_points (value_of other)) 2

-- by the cells of its page, and of the page with the other side to move, the number reads as a mutual zugzwang
abbrev pub IsZugzwangBy : Class → List ℕ → List ℕ → ℕ → Type 0
IsZugzwangBy c own other n = (is_less (slice_index own (n % 4096)) (slice_index other (n % 4096)) ≡ true) × IsHandedOn c n

-- the page with the other side to move
pub record IsOpposite (c : Class) (page opposite : ℕ) : Type 0 where
  pub black : 4096 * page < side_step c → opposite ≡ page + side_step c / 4096
  pub white : side_step c ≤ 4096 * page → opposite + side_step c / 4096 ≡ page

-- the number is on the page, and reads as a position that matches the search
abbrev pub IsFoundOn : Search → ℕ → ℕ → Type 0
IsFoundOn s page n = (4096 * page ≤ n) × (n < 4096 * page + 4096) × IsFound s n

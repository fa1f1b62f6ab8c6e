-- Not part of any public contract: the positions before those of a row of numbers: 64 numbers, one for each square of the last man.
use Rattle.std.specs.Prelude.{◌≡◌, ℕ, ◌+◌, ◌*◌, ◌<◌, ◌⊎◌, true, List, [], ◌∷◌, ◌++◌, Some}
use Rattle.study_board.specs.declared.men.Side.{Side}
use Rattle.study_board.specs.declared.men.Side.TheVariants.{White, Black}
use Rattle.study_board.specs.declared.men.Man.{Man}
use Rattle.study_board.specs.Position.{Position}
use Rattle.study_board.specs.Sets.{has}
use Rattle.study_moves.specs.Unmoves.{CanHaveLed, is_unmove_origin, comes, move_from}
use Rattle.study_material.specs.declared.class.Class.{Class}
use Rattle.study_index.specs.Computed.{position_numbered}
use Rattle.study_retro.specs.Predecessors.{IsBeforeBy, IsBeforeFrom, PassesNone}
use Rattle.study_retro.specs.Still.{on_square}

-- n is the number, or the number of the position with the same men in which a capture in passing is legal
abbrev pub IsItOrTwin : Class → ℕ → ℕ → Type 0
IsItOrTwin c number n = (n ≡ number) ⊎ (n ≡ number + 16777216) × ((p : Position) × (position_numbered c n ≡ Some p))

-- n is one of the numbers of the row whose squares are in the set, or of the positions with the same men in which a capture in passing is legal
abbrev pub IsInRowOrTwin : Class → ℕ → ℕ → ℕ → Type 0
IsInRowOrTwin c row set n = (y : ℕ) × (y < 64) × (has set y ≡ true) × IsItOrTwin c (64 * row + y) n

-- the man can have come from a in the positions of those numbers
abbrev pub CanAllHaveLed : Class → ℕ → ℕ → Man → ℕ → Type 0
CanAllHaveLed c row set man a =
    (y : ℕ) (q : Position) → y < 64 → has set y ≡ true → position_numbered c (64 * row + y) ≡ Some q → CanHaveLed q (move_from man a)

-- the last man can have come from a to one of the squares of the set, beside the others
abbrev pub IsOriginInRow : List Man → Man → Side → ℕ → ℕ → Type 0
IsOriginInRow others last side set a =
    (y : ℕ) × (y < 64) × (has set y ≡ true) × (is_unmove_origin (others ++ on_square last y ∷ []) side (on_square last y) a ≡ true)

-- the rank to which a double step of the side leads
abbrev pub double_step_rank : Side → ℕ
double_step_rank White = 3
double_step_rank Black = 4

-- no move by which the man comes to y, whatever the other men, leaves a capture in passing
abbrev pub ComesWithoutEnPassant : Class → Man → ℕ → Type 0
ComesWithoutEnPassant c last y = (men : List Man) (a : ℕ) → comes men (on_square last y) a ≡ true → PassesNone c a y

-- n is the number of a position from which a quiet move of the man, from a, leads to one of those numbers; and from some square
abbrev pub IsBeforeRowFrom : Class → ℕ → ℕ → Man → ℕ → ℕ → Type 0
IsBeforeRowFrom c row set man a n = (y : ℕ) × (y < 64) × (has set y ≡ true) × IsBeforeFrom c (64 * row + y) man a n

abbrev pub IsBeforeRowBy : Class → ℕ → ℕ → Man → ℕ → Type 0
IsBeforeRowBy c row set man n = (y : ℕ) × (y < 64) × (has set y ≡ true) × IsBeforeBy c (64 * row + y) man n

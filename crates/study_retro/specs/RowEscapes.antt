-- Not part of any public contract: the results of quiet moves at numbers of a row: 64 numbers, one for each square.
use Rattle.std.specs.Prelude.{◌≡◌, ℕ, ◌+◌, ◌*◌, ◌<◌, ◌&&◌, ◌++◌, ◌∷◌, [], Bool, not, true, false, List, Contains, Some}
use Rattle.study_board.specs.declared.men.Man.{Man}
use Rattle.study_board.specs.declared.men.Side.{Side}
use Rattle.study_board.specs.Men.{same_side}
use Rattle.study_board.specs.Position.{Position, is_occupied}
use Rattle.study_board.specs.Sets.{has}
use Rattle.study_moves.specs.AnyOrder.{is_safe_target}
use Rattle.study_material.specs.declared.class.Class.{Class}
use Rattle.study_values.specs.Number.{without_bit}
use Rattle.study_index.specs.Decoded.{slots_of, decoded_men, decoded_side}
use Rattle.study_index.specs.Computed.{position_numbered}
use Rattle.study_levels.specs.Numbered.{Numbered, NoLossBy}
use Rattle.study_retro.specs.Still.{HasMove, IsWonAfter, QuietMovesLose, QuietMovesLoseBy, move_to, on_square}

-- the squares of one set are among those of the other
abbrev pub AreAmong : ℕ → ℕ → Type 0
AreAmong few all = (y : ℕ) → y < 64 → has few y ≡ true → has all y ≡ true

-- by the men that the number encodes, the man belongs to the side to move, and goes to the square, which is empty
pub record CanGo (c : Class) (number : ℕ) (man : Man) (x : ℕ) : Type 0 where
  pub among : Contains (decoded_men (slots_of c) (without_bit number)) man
  pub own : same_side man.side (decoded_side (slots_of c) (without_bit number)) ≡ true
  pub safe : is_safe_target (decoded_men (slots_of c) (without_bit number)) (decoded_side (slots_of c) (without_bit number)) man x ≡ true
  pub free : is_occupied (decoded_men (slots_of c) (without_bit number)) x ≡ false

-- the man can go to the square at each number of a row whose square is in the set
abbrev pub CanAllGo : Class → ℕ → ℕ → Man → ℕ → Type 0
CanAllGo c row set man x = (y : ℕ) → y < 64 → has set y ≡ true → CanGo c (64 * row + y) man x

-- the numbers whose squares are in the one set, but not in the other, do not lose
abbrev pub OthersHold : Numbered Position → List ℕ → ℕ → ℕ → ℕ → ℕ → Type 0
OthersHold g cells k row all losing = (y : ℕ) → y < 64 → has all y ≡ true → has losing y ≡ false → NoLossBy g cells k (64 * row + y)

-- at the squares of the set the other side wins after the move of the man; after each quiet move of the man; of the last man; of all men
abbrev pub AreWonAfter : Numbered Position → List ℕ → ℕ → ℕ → ℕ → Man → ℕ → Type 0
AreWonAfter g cells k row set man x =
    (y : ℕ) (q : Position) → y < 64 → has set y ≡ true → g.position (64 * row + y) ≡ Some q → IsWonAfter g cells k q (move_to man x)

abbrev pub AllLoseBy : Numbered Position → List ℕ → ℕ → ℕ → ℕ → Man → Type 0
AllLoseBy g cells k row set man =
    (y : ℕ) (q : Position) → y < 64 → has set y ≡ true → g.position (64 * row + y) ≡ Some q → QuietMovesLoseBy g cells k q man

abbrev pub AllLoseByLast : Numbered Position → List ℕ → ℕ → ℕ → ℕ → Man → Type 0
AllLoseByLast g cells k row set last =
    (y : ℕ) (q : Position) → y < 64 → has set y ≡ true → g.position (64 * row + y) ≡ Some q → QuietMovesLoseBy g cells k q (on_square last y)

abbrev pub AllLose : Numbered Position → List ℕ → ℕ → ℕ → ℕ → Type 0
AllLose g cells k row set =
    (y : ℕ) (q : Position) → y < 64 → has set y ≡ true → g.position (64 * row + y) ≡ Some q → QuietMovesLose g cells k q

-- the positions at the squares of the set have a move
abbrev pub HaveMoves : Class → ℕ → ℕ → Type 0
HaveMoves c row set = (y : ℕ) (q : Position) → y < 64 → has set y ≡ true → position_numbered c (64 * row + y) ≡ Some q → HasMove q

-- with the last man on y, beside the others, it goes safely to x without a capture
abbrev pub goes_beside : List Man → Man → Side → ℕ → ℕ → Bool
goes_beside others last side y x = is_safe_target (others ++ on_square last y ∷ []) side (on_square last y) x
    && not (is_occupied (others ++ on_square last y ∷ []) x)

-- the last man goes to some square; to a square outside the set; to x from one of the squares of the set
abbrev pub Goes : List Man → Man → Side → ℕ → Type 0
Goes others last side y = (x : ℕ) × (x < 64) × (goes_beside others last side y x ≡ true)

abbrev pub GoesOutside : List Man → Man → Side → ℕ → ℕ → Type 0
GoesOutside others last side set y = (x : ℕ) × (x < 64) × (goes_beside others last side y x ≡ true) × (has set x ≡ false)

abbrev pub GoesInRow : List Man → Man → Side → ℕ → ℕ → Type 0
GoesInRow others last side set x = (y : ℕ) × (y < 64) × (has set y ≡ true) × (goes_beside others last side y x ≡ true)

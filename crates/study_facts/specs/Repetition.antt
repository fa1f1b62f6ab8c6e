-- Moves that only lose time: the opponent forces a position of the line again, whatever winning moves the hero plays.
use Rattle.std.specs.Prelude.{◌≡◌, ℕ, ◌<◌, ◌≤◌, zero, suc, true, Bool, ◌⊎◌, List, Option, MatchOption}
use Rattle.std.specs.List.{list_any}
use Rattle.study_board.specs.Position.{Position}
use Rattle.study_board.specs.Equal.{same_position}
use Rattle.study_moves.specs.declared.moves.Move.{Move}
use Rattle.study_moves.specs.Rules.{after}
use Rattle.study_moves.specs.Game.{IsLegal, IsLost}

-- the position is in the line: the same men, side to move and passed square
abbrev pub is_in_history : List Position → Position → Bool
is_in_history line q = list_any (λ r. same_position r q) line

-- the side to move is mated in some number of plies
abbrev pub HasLost : Position → Type 0
HasLost q = (n : ℕ) × IsLost q n

-- a legal move of r that wins
abbrev pub Wins : Position → Move → Type 0
Wins r h = IsLegal r h × HasLost (after r h)

-- the position is in the line, or a legal move leads into it
abbrev pub IsNear : List Position → Position → Type 0
IsNear line q = (is_in_history line q ≡ true) ⊎ ((n : Move) × IsLegal q n × (is_in_history line (after q n) ≡ true))

-- The position, in which the opponent moves, is back within m: it is near the line; or some legal move of the opponent leads to a position in which some move
-- wins, and each winning move leads to a position that is back within m - 1.
abbrev pub IsRepeatableWithin : List Position → ℕ → Position → Type 0
IsRepeatableWithin line zero q = IsNear line q
IsRepeatableWithin line (suc m) q =
    IsNear line q
    ⊎ ((n : Move) × IsLegal q n
    × ((h : Move) × Wins (after q n) h)
    × ((h : Move) → Wins (after q n) h → IsRepeatableWithin line m (after (after q n) h)))

-- the least m up to 2 within which q is back, `None` if there is none
abbrev pub IsWasteOfTime : List Position → Position → Option ℕ → Type 0
IsWasteOfTime line q least = MatchOption least
    ((k : ℕ) → k ≤ 2 → ¬ (IsRepeatableWithin line k q))
    (λ m. (m ≤ 2) × IsRepeatableWithin line m q × ((k : ℕ) → k < m → ¬ (IsRepeatableWithin line k q)))

-- The only move that holds, and how many only moves in a row the defender can make the hero find.
use Rattle.std.specs.Prelude.{◌≡◌, ℕ, ◌+◌, ◌<◌, ◌≤◌, zero, suc, Bool, true, false, ◌⊎◌, Option, MatchOption}
use Rattle.study_board.specs.Position.{Position}
use Rattle.study_moves.specs.declared.moves.Move.{Move}
use Rattle.study_moves.specs.Rules.{after}
use Rattle.study_moves.specs.Game.{IsLegal, IsWon, IsLost, IsDrawn}
use Rattle.study_values.specs.declared.value.Value.{Value}
use Rattle.study_values.specs.declared.value.Value.TheVariants as values
use Rattle.study_search.specs.declared.only_moves.Outcome.{Outcome}
use Rattle.study_search.specs.declared.only_moves.Outcome.TheVariants.{Win, Draw}

-- the hero, who is to move, wins; or draws
abbrev pub Has : Outcome → Position → Type 0
Has Win p = (k : ℕ) × IsWon p k
Has Draw p = IsDrawn p

-- with the opponent to move, the hero still wins; or the opponent does not win
abbrev pub Holds : Outcome → Position → Type 0
Holds Win q = (k : ℕ) × IsLost q k
Holds Draw q = (k : ℕ) → ¬ (IsWon q k)

-- of the legal moves of p this one holds, and no other
pub record IsOnlyMove (o : Outcome) (p : Position) (m : Move) : Type 0 where
  pub legal : IsLegal p m
  pub holds : Holds o (after p m)
  pub alone : (k : Move) → IsLegal p k → Holds o (after p k) → k ≡ m

-- the hero has the outcome, and this move alone keeps it
abbrev pub IsKey : Outcome → Position → Move → Type 0
IsKey o p m = Has o p × IsOnlyMove o p m

-- The hero, who is to move, has the outcome, and the defender can make him find n only moves in a row: exactly one move holds, and unless it is the last of
-- them, some reply leads to a position in which the hero has the outcome and has to find the rest.
abbrev pub HasOnlyMoves : Outcome → ℕ → Position → Type 0
HasOnlyMoves o zero p = Has o p
HasOnlyMoves o (suc n) p =
    Has o p
    × ((m : Move) × IsOnlyMove o p m
    × ((n ≡ 0) ⊎ ((r : Move) × IsLegal (after p m) r × HasOnlyMoves o n (after (after p m) r))))

-- the greatest number of only moves in a row up to the limit, if the hero has the outcome
abbrev pub IsMost : Outcome → Position → ℕ → Option ℕ → Type 0
IsMost o p limit most = MatchOption most
    (¬ (Has o p))
    (λ n. (n ≤ limit) × HasOnlyMoves o n p × (n < limit → ¬ (HasOnlyMoves o (n + 1) p)))

-- ---- by values

abbrev pub has_outcome : Outcome → Value → Bool
has_outcome Win (values.Win n) = true
has_outcome Win (values.Loss n) = false
has_outcome Win values.Draw = false
has_outcome Draw (values.Win n) = false
has_outcome Draw (values.Loss n) = false
has_outcome Draw values.Draw = true

-- the value for the opponent
abbrev pub keeps_outcome : Outcome → Value → Bool
keeps_outcome Win (values.Win n) = false
keeps_outcome Win (values.Loss n) = true
keeps_outcome Win values.Draw = false
keeps_outcome Draw (values.Win n) = false
keeps_outcome Draw (values.Loss n) = true
keeps_outcome Draw values.Draw = true

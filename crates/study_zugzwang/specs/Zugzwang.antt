-- Mutual zugzwangs.
use Rattle.std.specs.Prelude.{◌≡◌, ℕ, ◌+◌, ◌<◌, false, None}
use Rattle.study_board.specs.Men.{other_side}
use Rattle.study_board.specs.Position.{Position, IsValid}
use Rattle.study_moves.specs.EnPassant.{has_legal_en_passant}
use Rattle.study_moves.specs.Game.{HasNoMove}
use Rattle.study_values.specs.declared.value.Value.{Value}
use Rattle.study_values.specs.declared.value.Value.TheVariants.{Win, Loss, Draw}
use Rattle.study_values.specs.Game.{IsValueOf}

-- the score of the side to move, in half points
abbrev pub half_points : Value → ℕ
half_points (Loss n) = 0
half_points Draw = 1
half_points (Win n) = 2

-- the side to move scores so many half points
abbrev pub Scores : Position → ℕ → Type 0
Scores p k = (v : Value) × IsValueOf p v × (half_points v ≡ k)

abbrev pub ScoresLessThan : Position → ℕ → Type 0
ScoresLessThan p n = (k : ℕ) × Scores p k × (k < n)

-- the side to move in the one position and the side to move in the other score less than a point between them
abbrev pub ScoreLessThanAPoint : Position → Position → Type 0
ScoreLessThanAPoint p q = (i : ℕ) × (j : ℕ) × Scores p i × Scores q j × (i + j < 2)

-- the same men with the other side to move and no passed square
abbrev pub handed_on : Position → Position
handed_on p = record { men = p.men; to_move = other_side p.to_move; passed = None }

-- With either side to move the men are a valid position, and that side has a legal move.
pub record EitherCanMove (p : Position) : Type 0 where
  pub other : IsValid (handed_on p)
  pub own_moves : ¬ (HasNoMove p)
  pub other_moves : ¬ (HasNoMove (handed_on p))

-- Either side can be on move and has a legal move, and neither side wants to be on move: the two sides together score less than a point. If a capture in
-- passing is legal, the right to it cannot pass to the other side.
pub record IsZugzwang (p : Position) : Type 0 where
  pub none_passed : has_legal_en_passant p ≡ false
  pub either : EitherCanMove p
  pub less : ScoreLessThanAPoint p (handed_on p)

-- If one of the two positions is a mutual zugzwang, the other is.
abbrev pub ZugzwangsAreMutual : Type 0
ZugzwangsAreMutual = (p : Position) → IsValid p → IsZugzwang p → IsZugzwang (handed_on p)

-- Best play: the winner mates as soon as possible, the loser is mated as late as possible.
use Rattle.std.specs.Prelude.{◌≡◌, ℕ, zero, suc, Bool, true, false, nat_lt, List, [], ◌∷◌, Option, Some, None, if◌then◌else◌}
use Rattle.study_board.specs.Position.{Position}
use Rattle.study_moves.specs.LegalList.{legal_list}
use Rattle.study_moves.specs.Rules.{after}
use Rattle.study_moves.specs.Order.{IsBefore}
use Rattle.study_moves.specs.Game.{IsLegal}
use Rattle.study_moves.specs.declared.moves.Move.{Move}
use Rattle.study_values.specs.Game.{IsValueOf}
use Rattle.study_values.specs.declared.value.Value.{Value}
use Rattle.study_values.specs.declared.value.Value.TheVariants.{Win, Loss, Draw}
use Rattle.study_facts.specs.declared.continuation.EvaluatedMove.{EvaluatedMove}
use Rattle.study_facts.specs.Continuations.{AreChosen}

-- the first of two values after moves, for the opponent, who is to move then, is better for the side that made the moves
abbrev pub is_better : Value → Value → Bool
is_better (Loss n) (Loss k) = nat_lt n k
is_better (Loss n) Draw = true
is_better (Loss n) (Win k) = true
is_better Draw (Loss k) = false
is_better Draw Draw = false
is_better Draw (Win k) = true
is_better (Win n) (Loss k) = false
is_better (Win n) Draw = false
is_better (Win n) (Win k) = nat_lt k n

-- a move, unless the best of the later ones is better
abbrev pub better_of : EvaluatedMove → Option EvaluatedMove → EvaluatedMove
better_of x None = x
better_of x (Some y) = if is_better y.value x.value then y else x

-- the first of these moves with the best value
abbrev pub first_best : List EvaluatedMove → Option EvaluatedMove
first_best [] = None
first_best (x ∷ xs) = Some (better_of x (first_best xs))

-- the first legal move of p with the best value, `None` if p has no legal move
abbrev pub IsBestMove : Position → Option EvaluatedMove → Type 0
IsBestMove p best = (list : List EvaluatedMove) × AreChosen (λ v. true) p (legal_list p) list × (best ≡ first_best list)

-- best play from p, at most n plies: the best move in each position, up to a position without legal moves
abbrev pub IsBestPlay : ℕ → Position → List EvaluatedMove → Type 0
IsBestPlay zero p [] = Unit {0}
IsBestPlay zero p (x ∷ xs) = ⊥
IsBestPlay (suc n) p [] = IsBestMove p None
IsBestPlay (suc n) p (x ∷ xs) = IsBestMove p (Some x) × IsBestPlay n (after p x.played) xs

-- The move is legal and has this value; no legal move is better, and each legal move before it in the order of moves is worse.
pub record IsFirstBestMove (p : Position) (x : EvaluatedMove) : Type 0 where
  pub legal : IsLegal p x.played
  pub value : IsValueOf (after p x.played) x.value
  pub best : (m : Move) (v : Value) → IsLegal p m → IsValueOf (after p m) v → is_better v x.value ≡ false
  pub first : (m : Move) (v : Value) → IsLegal p m → IsValueOf (after p m) v → IsBefore m x.played → is_better x.value v ≡ true

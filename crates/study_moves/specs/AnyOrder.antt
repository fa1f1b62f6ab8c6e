-- The legal moves of a position, and the quiet moves that can have led to it, man by man, with its men in any order.
use Rattle.std.specs.Prelude.{◌≡◌, ℕ, ◌<◌, Bool, true, false, not, ◌&&◌, ◌↔◌, List, Option, None}
use Rattle.std.specs.List.{Contains}
use Rattle.std.specs.List.Sorted.{IsPermutation}
use Rattle.study_board.specs.declared.men.Side.{Side}
use Rattle.study_board.specs.declared.men.Man.{Man}
use Rattle.study_board.specs.Men.{same_side, other_side}
use Rattle.study_board.specs.Position.{Position, IsValid}
use Rattle.study_moves.specs.declared.moves.Move.{Move}
use Rattle.study_moves.specs.Rules.{has_side, reaches_target, is_promotion_choice, reaches_last_rank, is_legal}
use Rattle.study_moves.specs.EnPassant.{has_legal_en_passant}
use Rattle.study_moves.specs.KingSafety.{is_unsafe}
use Rattle.study_moves.specs.Unmoves.{CanHaveLed, is_unmove_origin, move_from}

-- if no square is passed, the man can go to x: no man of its side stands there, and no king of the side is attacked after that
unfoldable pub is_safe_target : List Man → Side → Man → ℕ → Bool
is_safe_target men side man x = (reaches_target men None man x && not (has_side men side x)) && not (is_unsafe men side man x)

-- the legal moves of q are the moves of these men to safe targets
pub record HasSafeTargets (q : Position) (men : List Man) : Type 0 where
  pub legal : (man : Man) (m : Move) → Contains men man → m.origin ≡ man.at → m.target < 64
      → is_legal q m ≡ ((same_side man.side q.to_move && is_safe_target men q.to_move man m.target)
      && is_promotion_choice (reaches_last_rank man m.target) m.promoted)
  pub mover : (m : Move) → is_legal q m ≡ true → (man : Man) × Contains men man × (m.origin ≡ man.at) × (m.target < 64)

-- the quiet moves that can have led to q are the moves of these men from their possible origins
pub record HasOrigins (q : Position) (men : List Man) : Type 0 where
  pub led : (man : Man) (a : ℕ) → Contains men man → a < 64
      → CanHaveLed q (move_from man a) ↔ ((same_side man.side (other_side q.to_move) && is_unmove_origin men q.to_move man a) ≡ true)
  pub mover : (m : Move) → CanHaveLed q m → (man : Man) × Contains men man × (m.origin < 64) × (m ≡ move_from man m.origin)

-- the men of a valid position, in any order, determine both; the legal moves if no capture in passing is legal
abbrev pub MenTellMoves : Type 0
MenTellMoves = (q : Position) (men : List Man) → IsValid q → IsPermutation men q.men
    → (has_legal_en_passant q ≡ false → HasSafeTargets q men) × HasOrigins q men

-- safe targets and origins are the same in any order of the men
pub record AreSameInOrder (xs ys : List Man) : Type 0 where
  pub side : (s : Side) (x : ℕ) → has_side xs s x ≡ has_side ys s x
  pub reaches : (passed : Option ℕ) (m : Man) (x : ℕ) → reaches_target xs passed m x ≡ reaches_target ys passed m x
  pub unsafe : (s : Side) (m : Man) (x : ℕ) → is_unsafe xs s m x ≡ is_unsafe ys s m x
  pub safe : (s : Side) (m : Man) (x : ℕ) → is_safe_target xs s m x ≡ is_safe_target ys s m x
  pub came : (s : Side) (m : Man) (a : ℕ) → is_unmove_origin xs s m a ≡ is_unmove_origin ys s m a

abbrev pub OrderIsIrrelevant : Type 0
OrderIsIrrelevant = (xs ys : List Man) → IsPermutation xs ys → AreSameInOrder xs ys

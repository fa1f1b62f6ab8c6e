-- Men without a fault, however many there are.
use Rattle.std.specs.Prelude.{◌≡◌, ℕ, ◌<◌, Bool, true, false, not, ◌&&◌, List, Option, Some, None, if◌then◌else◌}
use Rattle.std.specs.List.{All}
use Rattle.study_board.specs.declared.men.Side.{Side}
use Rattle.study_board.specs.declared.men.Side.TheVariants.{White, Black}
use Rattle.study_board.specs.declared.men.Man.{Man}
use Rattle.study_board.specs.declared.fault.PositionFault.{PositionFault}
use Rattle.study_board.specs.declared.fault.PositionFault.TheVariants.{SquareTwice, KingCount, PawnOnEndRank, OpponentInCheck, EnPassantImpossible}
use Rattle.study_board.specs.Men.{other_side}
use Rattle.study_board.specs.Position.{Position, IsAscending, has_square_twice, has_one_king, has_end_pawn, in_check, passed_possible}

-- the first reason, apart from their number, why these men, in any order, are not a position
unfoldable pub fault_among : List Man → Side → Option ℕ → Option PositionFault
fault_among men to_move passed =
    if has_square_twice men then Some SquareTwice
    else (if not (has_one_king men White && has_one_king men Black) then Some KingCount
    else (if has_end_pawn men then Some PawnOnEndRank
    else (if in_check men (other_side to_move) then Some OpponentInCheck
    else (if not (passed_possible men to_move passed) then Some EnPassantImpossible
    else None))))

-- men in order, on squares of the board, and without a fault, however many there are
pub record IsSound (p : Position) : Type 0 where
  pub ordered : IsAscending p.men
  pub on_board : All (λ m. m.at < 64) p.men
  pub once : has_square_twice p.men ≡ false
  pub kings : (has_one_king p.men White && has_one_king p.men Black) ≡ true
  pub pawns : has_end_pawn p.men ≡ false
  pub safe : in_check p.men (other_side p.to_move) ≡ false
  pub possible : passed_possible p.men p.to_move p.passed ≡ true

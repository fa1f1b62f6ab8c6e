use Rattle.study_moves.proofs.Mates.{IsWon-same, IsLost-same, IsWon-IsLost, IsWon-IsDrawn, IsLost-IsDrawn, IsDrawn-stalemate}
use Rattle.study_moves.proofs.laws.values_are_unique.Goals as goal

pub returns : goal.returns
returns c = λ p. record {
  won_once = IsWon-same p;
  lost_once = IsLost-same p;
  won_not_lost = IsWon-IsLost p;
  won_not_drawn = IsWon-IsDrawn p;
  lost_not_drawn = IsLost-IsDrawn p;
  stalemate_drawn = IsDrawn-stalemate p;
}

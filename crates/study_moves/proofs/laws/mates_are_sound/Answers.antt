use Rattle.study_moves.proofs.Mates.{MatesWithin-le, IsMatedWithin-le, MatesWithin-IsMatedWithin, IsWon-odd, IsLost-even}
use Rattle.study_moves.proofs.laws.mates_are_sound.Goals as goal

pub returns : goal.returns
returns c = λ p. record {
  mates_later = λ n m. MatesWithin-le n m p;
  mated_later = λ n m. IsMatedWithin-le n m p;
  one_side = λ n m. MatesWithin-IsMatedWithin n m p;
  won_odd = IsWon-odd p;
  lost_even = IsLost-even p;
}

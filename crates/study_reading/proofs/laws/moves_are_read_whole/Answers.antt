use Rattle.std.proofs.Common.{length, true, false, arith}
use Rattle.study_reading.specs.Movetext.{read_moves}
use Rattle.study_reading.specs.Behind.{moves_in}
use Rattle.study_reading.proofs.ReadWhole.{moves_same}
use Rattle.study_reading.proofs.NoneBehind.{left_same, none_behind}
use Rattle.study_reading.proofs.laws.moves_are_read_whole.Goals as goal

pub returns : goal.returns
unfolding moves_in
returns g c text n le = record {
  moves = λ read. moves_same g.F.Followed.rules n (length text) true text read le (omega arith);
  behind = left_same n (length text) false text le (omega arith);
  ended = λ read x e. none_behind (read_moves g.F.Followed.rules (length text) true text read) x e;
}

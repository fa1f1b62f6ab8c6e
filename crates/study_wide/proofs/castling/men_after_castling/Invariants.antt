use Rattle.std.proofs.Common.{◌≡◌, length, take, map}
use Rattle.study_wide.specs.Castling.{man_after_castling}
use Rattle.study_wide.proofs.castling.men_after_castling.Given as goal

abbrev pub invariant-loop-m : goal.invariant-loop-m
invariant-loop-m l = record {
  count : length l.list.items ≡ l.m-index;
  items : l.list.items ≡ map (man_after_castling l.side l.wing) (take l.m-index l.men);
}

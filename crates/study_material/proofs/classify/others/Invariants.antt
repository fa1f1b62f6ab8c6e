use Rattle.std.proofs.Common.{◌≡◌, ◌≤◌, length, take, filter}
use Rattle.study_material.specs.Lists.{is_other_than_king}
use Rattle.study_material.proofs.classify.others.Given as goal

abbrev pub invariant-loop-m : goal.invariant-loop-m
invariant-loop-m l =
    record {
      written : l.others.items ≡ filter is_other_than_king (take l.m-index l.men);
      few : length l.men ≤ 4;
      room : length l.others.items ≤ l.m-index;
    }

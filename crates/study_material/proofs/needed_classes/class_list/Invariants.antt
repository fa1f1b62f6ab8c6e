use Rattle.std.proofs.Common.{◌≡◌, ◌≤◌, length, take}
use Rattle.study_material.proofs.needed_classes.class_list.Given as goal

abbrev pub invariant-loop-class : goal.invariant-loop-class
invariant-loop-class l = record { written : l.list.items ≡ take l.class-index l.classes; few : length l.classes ≤ 36 }

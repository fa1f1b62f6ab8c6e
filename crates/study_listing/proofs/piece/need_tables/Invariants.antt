use Rattle.std.proofs.Common.{◌≡◌, true, take}
use Rattle.std.specs.List.{AllByRecursion}
use Rattle.study_material.specs.declared.class.Class.{Class}
use Rattle.study_listing.proofs.piece.need_tables.Given as goal

abbrev pub invariant-loop-class : goal.invariant-loop-class
invariant-loop-class g l = AllByRecursion (λ (c : Class). g.V.Values.source.held l.values c ≡ true) (take l.class-index l.class-items)

use Rattle.std.proofs.Common.{take}
use Rattle.std.specs.List.{All}
use Rattle.study_material.specs.Class.{IsNameOf}
use Rattle.study_material.proofs.class.Class.parse.Given as goal

abbrev pub invariant-loop-class : goal.invariant-loop-class
invariant-loop-class l = All (λ d. IsNameOf l.text d → ⊥) (take l.class-index l.class-items)

use Rattle.std.proofs.Common.{◌≡◌, take}
use Rattle.study_material.specs.Class.{class_list}
use Rattle.study_program.specs.Errors.{AreFaultsOf}
use Rattle.study_program.proofs.tables.open_tables.Given as goal

-- the faults of the classes that were opened, and no others
abbrev pub invariant-loop-class : goal.invariant-loop-class
invariant-loop-class g l =
    (l.class-items ≡ class_list)
    × AreFaultsOf l.fn.program (take l.class-index l.class-items) (g.E.Write.contents l.fn.errors) (g.E.Write.contents l.errors)

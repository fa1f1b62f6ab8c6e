use Rattle.std.proofs.Common.{◌≡◌, take}
use Rattle.study_material.specs.declared.class.Class.{Class}
use Rattle.study_values.specs.declared.fault.SourceFault.{SourceFault}
use Rattle.study_marks.proofs.EditLists.{IsRun}
use Rattle.study_marks.proofs.bench.Bench.apply_all.Given as goal

-- the first edits are applied
abbrev pub invariant-loop-edit : goal.invariant-loop-edit
invariant-loop-edit g l = record {
  run : IsRun g.V.Values.source l.fn.values l.values l.fn.self l.self (take l.edit-index l.edits);
  fails : (c : Class) (f : SourceFault) → g.V.Values.source.may_fail l.values c f → g.V.Values.source.may_fail l.fn.values c f;
  done : l.done ≡ l.edit-index;
}

use Rattle.std.proofs.Common.{◌+◌, ◌≤◌, length, take}
use Rattle.std.specs.Prelude.{vec_len, vec_capacity}
use Rattle.study_material.specs.declared.class.Class.{Class}
use Rattle.study_values.specs.declared.fault.SourceFault.{SourceFault}
use Rattle.study_marks.specs.Relabelled.{asked_each}
use Rattle.study_marks.specs.Answers.{WereEvaluated}
use Rattle.study_marks.proofs.PositionsListed.{IsAsked}
use Rattle.study_marks.proofs.evaluate_all.evaluate_positions.Given as goal

-- the first positions are evaluated
abbrev pub invariant-loop-p : goal.invariant-loop-p
invariant-loop-p g l = record {
  asked : IsAsked (g.V.Values.source.held l.fn.values) (g.V.Values.source.held l.values) (g.V.Values.source.asked_of l.fn.values)
      (g.V.Values.source.asked_of l.values) (g.V.Values.source.failed_of l.fn.values) (g.V.Values.source.failed_of l.values)
      (g.V.Values.source.is_honest l.fn.values) (g.V.Values.source.is_honest l.values) (take l.p-index l.positions) l.fn.all.items l.all.items;
  evaluated : WereEvaluated g.V.Values.source l.fn.values (asked_each (take l.p-index l.positions)) l.values;
  fails : (c : Class) (f : SourceFault) → g.V.Values.source.may_fail l.values c f → g.V.Values.source.may_fail l.fn.values c f;
  room : vec_len l.all + length l.positions ≤ vec_capacity l.all + l.p-index;
}

use Rattle.std.proofs.Common.{◌≡◌, ◌≤◌, ◌++◌, length, drop}
use Rattle.study_moves.specs.Rules.{survives}
use Rattle.study_moves.proofs.CarriedUp.{carried_into}
use Rattle.study_moves.proofs.legal.men_with_moved.Given as goal

abbrev pub invariant-loop-m : goal.invariant-loop-m
invariant-loop-m g l = record {
  carried : l.list.items ++ carried_into (survives l.fn.passed l.man l.target) l.carried (drop l.m-index l.men)
      ≡ carried_into (survives l.fn.passed l.man l.target) l.fn.moved l.men;
  few : length l.list.items ≤ l.m-index;
}

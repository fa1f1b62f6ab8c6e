use Rattle.std.proofs.Common.{◌≤◌, length, take}
use Rattle.study_retro.specs.RowMoves.{AreRest}
use Rattle.study_retro.proofs.rows.checks.men_except.Given as goal

abbrev pub invariant-loop-m : goal.invariant-loop-m
invariant-loop-m l = record {
  few : length l.list.items ≤ l.m-index;
  rest : AreRest (take l.m-index l.others) l.from l.list.items;
}

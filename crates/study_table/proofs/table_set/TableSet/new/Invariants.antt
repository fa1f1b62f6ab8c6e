use Rattle.std.proofs.Common.{◌≡◌, ◌≤◌, ◌-◌, None}
use Rattle.std.specs.Prelude.{replicate, vec_capacity, vec_len}
use Rattle.study_table.proofs.table_set.TableSet.new.Given as goal

abbrev pub invariant-loop-tables : goal.invariant-loop-tables
invariant-loop-tables g l = record {
  empty : l.tables.items ≡ replicate (vec_len l.tables) None;
  few : vec_len l.tables ≤ 36;
  room : 36 ≤ vec_capacity l.tables;
}

abbrev pub decreases-loop-tables : goal.decreases-loop-tables
decreases-loop-tables g l = 36 - vec_len l.tables

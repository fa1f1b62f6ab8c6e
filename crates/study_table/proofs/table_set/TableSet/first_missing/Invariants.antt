use Rattle.std.proofs.Common.{◌≡◌, drop}
use Rattle.study_table.specs.TableSet.{first_missing}
use Rattle.study_table.proofs.table_set.TableSet.first_missing.Given as goal

abbrev pub invariant-loop-need : goal.invariant-loop-need
invariant-loop-need g l = first_missing l.self l.need-items ≡ first_missing l.self (drop l.need-index l.need-items)

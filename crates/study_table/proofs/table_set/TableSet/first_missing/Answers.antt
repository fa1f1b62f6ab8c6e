use Rattle.std.proofs.Common.{◌∙◌}
use Rattle.study_material.specs.declared.class.Class.TheVariants.{KK}
use Rattle.study_table.proofs.SetLemmas.{missing_found}
use Rattle.study_table.proofs.table_set.TableSet.first_missing.Goals as goal

pub returns-then-not-has : goal.returns-then-not-has
returns-then-not-has g c =
    missing_found c.args.self.now _ c.as_slice-need-items.result.now c.loop-need.need-index KK c.has.result
    (c.as_slice-need-items.ensures.value ∙ c.needs-needed.ensures) c.loop-need-test.true c.has.ensures.1 c.if-not-has.true c.loop-need.invariant

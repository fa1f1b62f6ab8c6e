use Rattle.std.proofs.Common.{refl}
use Rattle.study_marks.specs.BenchState.{marked_study}
use Rattle.study_page.proofs.WholePage.{from-nothing}
use Rattle.study_page.proofs.csv.record_of.Goals as goal

pub returns-clause-form : goal.returns-clause-form
returns-clause-form g c = (
  marked_study c.args.bench.now,
  refl,
  c.in_ok-facts.facts,
  from-nothing _ _ _ c.new-text.ensures c.in_ok-add_record.ensures,
)

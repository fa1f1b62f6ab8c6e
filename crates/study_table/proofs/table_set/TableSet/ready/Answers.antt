use Rattle.study_table.proofs.SetLemmas.{ready_where}
use Rattle.study_table.proofs.table_set.TableSet.ready.Goals as goal

pub returns : goal.returns
returns g c = ready_where c.args.self.now c.args.class c.first_missing.result c.is_none.result c.first_missing.ensures c.is_none.ensures

use Rattle.study_web.proofs.Laid.{made-open, made-join}
use Rattle.study_web.proofs.laws.made_files_are_read_again.Goals as goal

pub returns-clause-opens : goal.returns-clause-opens
returns-clause-opens c = made-open c.tables_are_read_again.ensures

pub returns-clause-joins : goal.returns-clause-joins
returns-clause-joins c = made-join c.tables_are_read_again.ensures

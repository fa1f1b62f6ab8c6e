use Rattle.study_tablefile.proofs.ReadAgain.{read_again}
use Rattle.study_tablefile.proofs.laws.tables_are_read_again.Goals as goal

pub returns : goal.returns
returns c = read_again

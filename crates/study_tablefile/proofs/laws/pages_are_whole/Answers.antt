use Rattle.study_tablefile.proofs.ReadAgain.{whole_again}
use Rattle.study_tablefile.proofs.laws.pages_are_whole.Goals as goal

pub returns : goal.returns
returns c = whole_again

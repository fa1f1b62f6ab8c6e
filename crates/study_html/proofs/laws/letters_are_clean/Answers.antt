use Rattle.study_html.proofs.CleanWords.{lettered}
use Rattle.study_html.proofs.laws.letters_are_clean.Goals as goal

pub returns : goal.returns
returns c = lettered

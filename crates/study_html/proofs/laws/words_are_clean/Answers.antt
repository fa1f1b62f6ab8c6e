use Rattle.study_html.proofs.CleanWords.{clean}
use Rattle.study_html.proofs.laws.words_are_clean.Goals as goal

pub returns : goal.returns
returns c = clean

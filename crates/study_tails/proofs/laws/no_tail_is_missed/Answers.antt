use Rattle.study_tails.proofs.TailsFound.{tails_complete}
use Rattle.study_tails.proofs.laws.no_tail_is_missed.Goals as goal

pub returns : goal.returns
returns c = tails_complete

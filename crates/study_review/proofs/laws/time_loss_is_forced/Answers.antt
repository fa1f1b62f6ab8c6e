use Rattle.study_review.proofs.PlaysBack.{time-loss-is-forced}
use Rattle.study_review.proofs.laws.time_loss_is_forced.Goals as goal

pub returns : goal.returns
returns c = time-loss-is-forced

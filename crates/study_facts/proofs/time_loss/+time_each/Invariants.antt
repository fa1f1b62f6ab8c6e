use Rattle.std.proofs.Common.{length}
use Rattle.study_facts.proofs.time_loss.+time_each.Given as goal

abbrev pub decreases-time_each : goal.decreases-time_each
decreases-time_each g l = length l.moves.now

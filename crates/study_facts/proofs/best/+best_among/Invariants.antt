use Rattle.std.proofs.Common.{length}
use Rattle.study_facts.proofs.best.+best_among.Given as goal

abbrev pub decreases-best_among : goal.decreases-best_among
decreases-best_among g l = length l.moves.now

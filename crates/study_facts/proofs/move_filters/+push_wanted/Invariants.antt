use Rattle.std.proofs.Common.{length}
use Rattle.study_facts.proofs.move_filters.+push_wanted.Given as goal

abbrev pub decreases-push_wanted : goal.decreases-push_wanted
decreases-push_wanted g l = length l.moves.now

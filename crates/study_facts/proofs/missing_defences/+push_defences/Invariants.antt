use Rattle.std.proofs.Common.{length}
use Rattle.study_facts.proofs.missing_defences.+push_defences.Given as goal

abbrev pub decreases-push_defences : goal.decreases-push_defences
decreases-push_defences g l = length l.moves.now

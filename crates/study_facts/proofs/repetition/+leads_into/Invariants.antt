use Rattle.std.proofs.Common.{length}
use Rattle.study_facts.proofs.repetition.+leads_into.Given as goal

abbrev pub decreases-leads_into : goal.decreases-leads_into
decreases-leads_into l = length l.moves.now

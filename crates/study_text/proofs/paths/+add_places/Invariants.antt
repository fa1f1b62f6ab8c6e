use Rattle.std.proofs.Common.{length}
use Rattle.study_text.proofs.paths.+add_places.Given as goal

abbrev pub decreases-add_places : goal.decreases-add_places
decreases-add_places g l = length l.steps.now

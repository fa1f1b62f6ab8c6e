use Rattle.std.proofs.Common.{length}
use Rattle.study_view.proofs.classes.+add_needed.Given as goal

abbrev pub decreases-add_needed : goal.decreases-add_needed
decreases-add_needed l = length l.classes.now

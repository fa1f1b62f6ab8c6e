use Rattle.std.proofs.Common.{length}
use Rattle.study_view.proofs.classes.+is_needed.Given as goal

abbrev pub decreases-is_needed : goal.decreases-is_needed
decreases-is_needed l = length l.positions.now

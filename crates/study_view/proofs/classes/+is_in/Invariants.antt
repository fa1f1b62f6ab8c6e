use Rattle.std.proofs.Common.{length}
use Rattle.study_view.proofs.classes.+is_in.Given as goal

abbrev pub decreases-is_in : goal.decreases-is_in
decreases-is_in l = length l.classes.now

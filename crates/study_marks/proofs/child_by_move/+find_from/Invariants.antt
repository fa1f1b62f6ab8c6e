use Rattle.std.proofs.Common.{◌-◌}
use Rattle.study_marks.proofs.child_by_move.+find_from.Given as goal

abbrev pub decreases-find_from : goal.decreases-find_from
decreases-find_from g l = l.count - l.place

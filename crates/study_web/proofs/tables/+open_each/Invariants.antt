use Rattle.std.proofs.Common.{length}
use Rattle.study_web.proofs.tables.+open_each.Given as goal

abbrev pub decreases-open_each : goal.decreases-open_each
decreases-open_each g l = length l.classes.now

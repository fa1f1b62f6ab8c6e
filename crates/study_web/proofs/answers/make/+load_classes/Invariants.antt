use Rattle.std.proofs.Common.{length}
use Rattle.study_web.proofs.answers.make.+load_classes.Given as goal

abbrev pub decreases-load_classes : goal.decreases-load_classes
decreases-load_classes g l = length l.needed.now

use Rattle.std.proofs.Common.{length}
use Rattle.study_web.proofs.answers.setup.+add_names.Given as goal

abbrev pub decreases-add_names : goal.decreases-add_names
decreases-add_names g l = length l.classes.now

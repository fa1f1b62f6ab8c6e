use Rattle.std.proofs.Common.{length}
use Rattle.study_web.proofs.class_files.+add_spans.Given as goal

abbrev pub decreases-add_spans : goal.decreases-add_spans
decreases-add_spans g l = length l.spans.now

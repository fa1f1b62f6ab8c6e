use Rattle.std.proofs.Common.{length}
use Rattle.study_search.proofs.rows.+first_leading.Given as goal

abbrev pub decreases-first_leading : goal.decreases-first_leading
decreases-first_leading g l = length l.replies.now

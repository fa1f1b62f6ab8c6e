use Rattle.std.proofs.Common.{length}
use Rattle.study_listing.proofs.features.+some_takes.Given as goal

abbrev pub decreases-some_takes : goal.decreases-some_takes
decreases-some_takes l = length l.replies.now

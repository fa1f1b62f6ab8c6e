use Rattle.std.proofs.Common.{length}
use Rattle.study_listing.proofs.text.+push_below.Given as goal

abbrev pub decreases-push_below : goal.decreases-push_below
decreases-push_below l = length l.moves.now

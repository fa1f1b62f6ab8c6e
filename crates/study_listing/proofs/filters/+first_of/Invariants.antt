use Rattle.std.proofs.Common.{length}
use Rattle.study_listing.proofs.filters.+first_of.Given as goal

abbrev pub decreases-first_of : goal.decreases-first_of
decreases-first_of l = length l.by.now

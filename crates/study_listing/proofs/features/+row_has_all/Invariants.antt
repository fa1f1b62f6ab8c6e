use Rattle.std.proofs.Common.{length}
use Rattle.study_listing.proofs.features.+row_has_all.Given as goal

abbrev pub decreases-row_has_all : goal.decreases-row_has_all
decreases-row_has_all g l = length l.wanted.now

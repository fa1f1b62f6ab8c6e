use Rattle.std.proofs.Common.{length}
use Rattle.study_listing.proofs.features.+row_has.Given as goal

abbrev pub decreases-row_has : goal.decreases-row_has
decreases-row_has g l = length l.row.now

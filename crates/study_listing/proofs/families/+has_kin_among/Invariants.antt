use Rattle.std.proofs.Common.{length}
use Rattle.study_listing.proofs.families.+has_kin_among.Given as goal

abbrev pub decreases-has_kin_among : goal.decreases-has_kin_among
decreases-has_kin_among g l = length l.men.now

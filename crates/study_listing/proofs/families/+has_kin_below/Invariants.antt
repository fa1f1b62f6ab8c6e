use Rattle.study_listing.proofs.families.+has_kin_below.Given as goal

abbrev pub decreases-has_kin_below : goal.decreases-has_kin_below
decreases-has_kin_below g l = l.end

use Rattle.std.proofs.Common.{◌≡◌, take}
use Rattle.study_listing.specs.Families.{moved_men}
use Rattle.study_listing.proofs.families.moved_men.Given as goal

abbrev pub invariant-loop-man : goal.invariant-loop-man
invariant-loop-man l = l.list.items ≡ moved_men l.from l.to (take l.man-index l.men)

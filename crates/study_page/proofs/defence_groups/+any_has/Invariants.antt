use Rattle.std.proofs.Common.{length}
use Rattle.study_page.proofs.defence_groups.+any_has.Given as goal

abbrev pub decreases-any_has : goal.decreases-any_has
decreases-any_has l = length l.list.now

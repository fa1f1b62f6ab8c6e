use Rattle.std.proofs.Common.{length}
use Rattle.study_page.proofs.defence_groups.+add_elsewhere.Given as goal

abbrev pub decreases-add_elsewhere : goal.decreases-add_elsewhere
decreases-add_elsewhere g l = length l.list.now

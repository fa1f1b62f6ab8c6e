use Rattle.std.proofs.Common.{length}
use Rattle.study_page.proofs.main_defences.+add_main.Given as goal

abbrev pub decreases-add_main : goal.decreases-add_main
decreases-add_main g l = length l.list.now

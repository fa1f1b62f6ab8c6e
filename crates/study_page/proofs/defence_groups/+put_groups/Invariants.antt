use Rattle.std.proofs.Common.{◌-◌, length}
use Rattle.study_page.proofs.defence_groups.+put_groups.Given as goal

abbrev pub decreases-put_groups : goal.decreases-put_groups
decreases-put_groups g l = length l.list.now - l.place

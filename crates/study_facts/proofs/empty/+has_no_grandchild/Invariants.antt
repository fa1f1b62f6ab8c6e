use Rattle.std.proofs.Common.{◌-◌}
use Rattle.study_facts.proofs.empty.+has_no_grandchild.Given as goal

abbrev pub decreases-has_no_grandchild : goal.decreases-has_no_grandchild
decreases-has_no_grandchild g l = l.count - l.place

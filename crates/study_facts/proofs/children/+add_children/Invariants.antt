use Rattle.std.proofs.Common.{◌-◌}
use Rattle.study_facts.proofs.children.+add_children.Given as goal

abbrev pub decreases-add_children : goal.decreases-add_children
decreases-add_children g l = l.count - l.place

use Rattle.std.proofs.Common.{◌-◌}
use Rattle.study_view.proofs.passed.+add_from.Given as goal

-- the squares that are left
abbrev pub decreases-add_from : goal.decreases-add_from
decreases-add_from l = 64 - l.number

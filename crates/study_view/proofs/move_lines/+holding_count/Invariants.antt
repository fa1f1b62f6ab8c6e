use Rattle.std.proofs.Common.{length}
use Rattle.study_view.proofs.move_lines.+holding_count.Given as goal

abbrev pub decreases-holding_count : goal.decreases-holding_count
decreases-holding_count l = length l.list.now

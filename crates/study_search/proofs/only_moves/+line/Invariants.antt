use Rattle.std.proofs.Common.{length, ◌+◌, ◌*◌}
use Rattle.study_search.proofs.only_moves.+line.Given as goal

abbrev pub decreases-has_only_moves : goal.decreases-has_only_moves
decreases-has_only_moves g l = 1024 * l.n + 2

abbrev pub decreases-has_only_moves_on : goal.decreases-has_only_moves_on
decreases-has_only_moves_on g l = 1024 * l.n + 3

abbrev pub decreases-finds_only_moves : goal.decreases-finds_only_moves
decreases-finds_only_moves g l = 1024 * l.n + 1

abbrev pub decreases-some_reply_leads : goal.decreases-some_reply_leads
decreases-some_reply_leads g l = 1024 * l.n + 600 + length l.replies.now

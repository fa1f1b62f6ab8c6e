use Rattle.std.proofs.Common.{length}
use Rattle.study_reply.proofs.reason.+reason_among.Given as goal

abbrev pub decreases-reason_among : goal.decreases-reason_among
decreases-reason_among l = length l.refusals.now

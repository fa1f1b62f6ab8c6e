use Rattle.study_review.proofs.Refuted.{failures-refuted}
use Rattle.study_review.proofs.laws.failures_are_refuted.Goals as goal

pub returns : goal.returns
returns c = failures-refuted c.mates_are_sound.ensures c.legal_list_is_exact.ensures.legal

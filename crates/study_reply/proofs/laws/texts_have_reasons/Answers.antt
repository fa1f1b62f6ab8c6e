use Rattle.study_reply.proofs.ReasonsFound.{texts-have-reasons}
use Rattle.study_reply.proofs.laws.texts_have_reasons.Goals as goal

pub returns : goal.returns
returns c = texts-have-reasons

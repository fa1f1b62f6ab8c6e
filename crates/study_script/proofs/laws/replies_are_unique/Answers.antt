use Rattle.study_script.proofs.OneReply.{replies-unique}
use Rattle.study_script.proofs.laws.replies_are_unique.Goals as goal

pub returns : goal.returns
returns c = replies-unique c.values_are_unique.ensures c.annotations_are_unique.ensures

use Rattle.study_head.proofs.VerdictLaws.{sound-faultless}
use Rattle.study_head.proofs.laws.sound_has_no_fault.Goals as goal

pub returns : goal.returns
returns c = sound-faultless

use Rattle.study_wide_text.proofs.SanAgrees.{san_agree}
use Rattle.study_wide_text.proofs.laws.san_agrees.Goals as goal

pub returns : goal.returns
returns c = san_agree

use Rattle.std.proofs.Common.{refl}
use Rattle.study_html.specs.Frame.{back}
use Rattle.study_html.proofs.frame.back.Goals as goal

pub returns : goal.returns
unfolding back
returns c = refl

use Rattle.std.proofs.Common.{refl}
use Rattle.study_html.specs.Frame.{front}
use Rattle.study_html.proofs.frame.front.Goals as goal

pub returns : goal.returns
unfolding front
returns c = refl

use Rattle.std.proofs.Common.{refl}
use Rattle.study_html.specs.Frame.{sheet_style}
use Rattle.study_html.proofs.frame.sheet_style.Goals as goal

pub returns : goal.returns
unfolding sheet_style
returns c = refl

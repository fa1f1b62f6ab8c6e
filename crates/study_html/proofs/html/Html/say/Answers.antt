use Rattle.study_html.proofs.MarkupGrows.{said_nested}
use Rattle.study_html.proofs.html.Html.say.Goals as goal

pub invariant_of-self : goal.invariant_of-self
invariant_of-self g c = rw c.in-Ok.ensures (said_nested _ _ c.self.invariant)

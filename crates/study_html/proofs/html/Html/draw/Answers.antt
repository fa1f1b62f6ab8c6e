use Rattle.study_html.proofs.MarkupGrows.{drawn_nested}
use Rattle.study_html.proofs.html.Html.draw.Goals as goal

pub invariant_of-self : goal.invariant_of-self
invariant_of-self g c = rw c.in-Ok.ensures (drawn_nested _ _ c.self.invariant)

use Rattle.study_html.proofs.MarkupGrows.{spelled_nested}
use Rattle.study_html.proofs.html.Html.spell.Goals as goal

pub invariant_of-self : goal.invariant_of-self
invariant_of-self g c = rw c.in-Ok.ensures (spelled_nested _ _ c.self.invariant)

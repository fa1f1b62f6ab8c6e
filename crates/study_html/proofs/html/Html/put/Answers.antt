use Rattle.study_html.proofs.MarkupGrows.{inside_nested}
use Rattle.study_html.proofs.html.Html.put.Goals as goal

pub invariant_of-self : goal.invariant_of-self
invariant_of-self g c = rw c.in-Ok.ensures (inside_nested _ _ _ c.self.invariant (rw c.as_slice.ensures c.within.invariant))

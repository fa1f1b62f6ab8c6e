use Rattle.study_html.proofs.MarkupGrows.{both_nested}
use Rattle.study_html.proofs.html.Html.append.Goals as goal

pub invariant_of-self : goal.invariant_of-self
invariant_of-self g c = rw c.in-Ok.ensures (both_nested _ _ c.self.invariant (rw c.as_slice.ensures c.more.invariant))

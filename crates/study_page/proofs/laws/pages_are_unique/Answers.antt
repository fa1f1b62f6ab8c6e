use Rattle.study_page.proofs.OnePage.{one-page}
use Rattle.study_page.proofs.laws.pages_are_unique.Goals as goal

pub returns : goal.returns
returns c = one-page c.values_are_unique.ensures

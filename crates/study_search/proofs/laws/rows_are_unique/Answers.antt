use Rattle.study_search.proofs.OneRow.{one-row}
use Rattle.study_search.proofs.laws.rows_are_unique.Goals as goal

pub returns : goal.returns
returns c outcome n p = one-row outcome n p

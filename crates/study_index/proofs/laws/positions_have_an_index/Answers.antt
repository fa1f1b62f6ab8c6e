use Rattle.study_index.proofs.ComputedIndex.{IsIndex-index_of, index_of-only}
use Rattle.study_index.proofs.laws.positions_have_an_index.Goals as goal

pub returns : goal.returns
returns c = λ p v. record { is = IsIndex-index_of p v; only = λ n i. index_of-only p n v i }

use Rattle.study_index.proofs.ComputedIndex.{numbered_of_decoded, decoded_of_numbered}
use Rattle.study_index.proofs.laws.numbers_are_read.Goals as goal

pub returns : goal.returns
returns c = λ k n q. (decoded_of_numbered k n q, numbered_of_decoded k n q)

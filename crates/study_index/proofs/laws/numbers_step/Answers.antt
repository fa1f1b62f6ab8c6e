use Rattle.study_index.proofs.SteppedNumbers.{numbers-step}
use Rattle.study_index.proofs.laws.numbers_step.Goals as goal

pub returns : goal.returns
returns c = numbers-step

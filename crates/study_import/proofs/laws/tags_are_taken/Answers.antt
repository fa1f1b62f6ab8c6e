use Rattle.study_import.proofs.TagsTaken.{taken}
use Rattle.study_import.proofs.laws.tags_are_taken.Goals as goal

pub returns : goal.returns
returns c = taken

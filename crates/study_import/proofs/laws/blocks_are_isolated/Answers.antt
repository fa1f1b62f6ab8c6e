use Rattle.study_import.proofs.Apart.{isolated}
use Rattle.study_import.proofs.laws.blocks_are_isolated.Goals as goal

pub returns : goal.returns
returns c = isolated

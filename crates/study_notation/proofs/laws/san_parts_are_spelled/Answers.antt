use Rattle.study_notation.proofs.MoveAgain.{parts_spelled}
use Rattle.study_notation.proofs.laws.san_parts_are_spelled.Goals as goal

pub returns : goal.returns
returns c = parts_spelled

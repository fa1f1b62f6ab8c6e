use Rattle.study_moves.proofs.AnyOrder.{men-tell-moves}
use Rattle.study_moves.proofs.laws.men_tell_moves.Goals as goal

pub returns : goal.returns
returns c = men-tell-moves

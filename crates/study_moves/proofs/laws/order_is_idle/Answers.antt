use Rattle.study_moves.proofs.AnyOrder.{order-is-idle}
use Rattle.study_moves.proofs.laws.order_is_idle.Goals as goal

pub returns : goal.returns
returns c = order-is-idle

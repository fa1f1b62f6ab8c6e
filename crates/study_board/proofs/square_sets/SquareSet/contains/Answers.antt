use Rattle.study_board.proofs.SetBits.{has_by_shift}
use Rattle.study_board.proofs.square_sets.SquareSet.contains.Goals as goal

pub returns : goal.returns
returns c = rw c.self.view_is (has_by_shift c.args.self c.args.x c.number.result c.number.ensures.value)

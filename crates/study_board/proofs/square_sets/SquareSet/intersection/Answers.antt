use Rattle.study_board.proofs.SetBits.{has-and}
use Rattle.study_board.proofs.square_sets.SquareSet.intersection.Goals as goal

pub returns : goal.returns
returns c x = rw (c.self.view_is, c.other.view_is) (has-and c.args.self c.args.other x)

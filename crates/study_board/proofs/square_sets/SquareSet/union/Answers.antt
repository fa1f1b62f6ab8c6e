use Rattle.study_board.proofs.SetBits.{has-or}
use Rattle.study_board.proofs.square_sets.SquareSet.union.Goals as goal

pub returns : goal.returns
returns c x = rw (c.of_bits.ensures, c.self.view_is, c.other.view_is) (has-or c.args.self c.args.other x)

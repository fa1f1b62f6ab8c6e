use Rattle.study_board.proofs.TableBits.{single_has}
use Rattle.study_board.proofs.square_sets.SquareSet.of.Goals as goal

pub returns : goal.returns
returns c = single_has c.args.a c.number.result c.number.ensures.value c.number.ensures.small

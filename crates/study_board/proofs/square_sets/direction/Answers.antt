use Rattle.study_board.proofs.TableBits.{direction_at, direction_at_small}
use Rattle.study_board.proofs.square_sets.direction.Goals as goal

pub returns-clause-value : goal.returns-clause-value
returns-clause-value c = direction_at c.args.a c.args.y c.number.result c.number-2.result c.number.ensures.value c.number-2.ensures.value

pub returns-clause-small : goal.returns-clause-small
returns-clause-small c = direction_at_small c.args.a c.args.y c.number.result c.number-2.result
    c.number.ensures.value c.number-2.ensures.value c.number.ensures.small c.number-2.ensures.small

use Rattle.study_board.proofs.TableBits.{ray_behind}
use Rattle.study_board.proofs.square_sets.shadow.Goals as goal

pub returns : goal.returns
returns c x lx = ray_behind c.args.a c.args.y c.direction.result c.ray.result c.direction.ensures.value
    c.ray.ensures c.number-from.ensures.small c.number-over.ensures.small x lx

use Rattle.study_board.proofs.TableBits.{rays_between}
use Rattle.study_board.proofs.square_sets.between.Goals as goal

pub returns : goal.returns
returns c y ly =
    rays_between c.args.a c.args.x c.direction.result c.direction-2.result c.ray.result c.ray-2.result c.intersection.result y
    c.direction.ensures.value c.direction-2.ensures.value c.ray.ensures c.ray-2.ensures (c.intersection.ensures y)
    c.number-from.ensures.small c.number-to.ensures.small ly

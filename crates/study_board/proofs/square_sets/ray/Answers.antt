use Rattle.std.proofs.Common.{◌∙◌}
use Rattle.study_board.proofs.TableBits.{ray_at}
use Rattle.study_board.proofs.square_sets.ray.Goals as goal

pub returns : goal.returns
returns c = c.of_bits.ensures ∙ ray_at c.args.direction c.args.a c.number.result c.number.ensures.value

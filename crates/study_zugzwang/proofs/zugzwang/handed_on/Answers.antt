use Rattle.std.proofs.Common.{rules}
use Rattle.study_zugzwang.proofs.Zugzwangs.{handed_on_is}
use Rattle.study_zugzwang.proofs.zugzwang.handed_on.Goals as goal

pub returns-in-Ok-clause-some : goal.returns-in-Ok-clause-some
returns-in-Ok-clause-some c = (
  handed_on_is c.args.p.now c.in-Ok.q c.men.ensures.valid c.in-Ok.ensures.valid (search rules) (search rules) (search rules),
  c.in-Ok.ensures.valid,
)

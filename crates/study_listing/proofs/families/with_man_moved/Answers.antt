use Rattle.std.proofs.Common.{rules}
use Rattle.study_listing.proofs.Kin.{moved-needs}
use Rattle.study_listing.proofs.families.with_man_moved.Goals as goal

pub returns-in-Ok-clause-needs : goal.returns-in-Ok-clause-needs
returns-in-Ok-clause-needs c = moved-needs c.args.p.now c.in-Ok.q c.args.from c.args.to (search rules)

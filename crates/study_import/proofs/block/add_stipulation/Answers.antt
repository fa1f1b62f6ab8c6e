use Rattle.std.proofs.Common.{sym}
use Rattle.study_import.proofs.Stipulated.{stipulation_same}
use Rattle.study_import.proofs.block.add_stipulation.Goals as goal

pub returns : goal.returns
returns g c = rw (← stipulation_same c.args.stipulation.now) c.add_stipulation.ensures

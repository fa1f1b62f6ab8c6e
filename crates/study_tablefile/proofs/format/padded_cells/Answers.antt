use Rattle.study_tablefile.proofs.Lists.{padded_front}
use Rattle.study_tablefile.proofs.format.padded_cells.Goals as goal

pub returns : goal.returns
returns c = rw c.copy_from_slice.ensures.after (padded_front c.args.cells.now c.requires)

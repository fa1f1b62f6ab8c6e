use Rattle.study_tree.proofs.RowReads.{spot-rows, size-rows}
use Rattle.study_tree.proofs.laws.nodes_in_rows.Goals as goal

pub returns : goal.returns
returns g c = (spot-rows, size-rows)

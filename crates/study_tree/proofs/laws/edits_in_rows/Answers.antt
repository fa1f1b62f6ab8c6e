use Rattle.study_tree.proofs.RowEdits.{child-rows, dropped-rows, moved-rows, label-rows}
use Rattle.study_tree.proofs.laws.edits_in_rows.Goals as goal

pub returns : goal.returns
returns g c = (child-rows, dropped-rows, moved-rows, label-rows)

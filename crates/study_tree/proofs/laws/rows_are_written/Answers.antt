use Rattle.study_tree.proofs.RowReads.{are-rows, same-tree}
use Rattle.study_tree.proofs.RowTrees.{tree-of}
use Rattle.study_tree.proofs.laws.rows_are_written.Goals as goal

pub returns : goal.returns
returns g c = (are-rows, tree-of, same-tree)

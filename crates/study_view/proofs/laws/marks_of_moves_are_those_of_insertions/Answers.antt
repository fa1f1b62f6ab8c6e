use Rattle.study_view.proofs.NewNode.{marks-of-insertions}
use Rattle.study_view.proofs.laws.marks_of_moves_are_those_of_insertions.Goals as goal

pub returns : goal.returns
returns c = marks-of-insertions c.values_are_unique.ensures

use Rattle.study_marks.proofs.DualCounts.{dual-counts-others}
use Rattle.study_marks.proofs.laws.duals_count_other_moves.Goals as goal

pub returns : goal.returns
returns c = dual-counts-others c.values_are_unique.ensures

use Rattle.std.proofs.Common.{sym}
use Rattle.study_marks.specs.BenchState.{marked_study}
use Rattle.study_marks.specs.Bench.{node_seen}
use Rattle.study_marks.proofs.PathRenewed.{there-spot}
use Rattle.study_marks.proofs.PathWalks.{width_none, width_some}
use Rattle.study_tree.proofs.TreeDepth.{within-length}
use Rattle.study_marks.specs.FaultSums.{below_at}
use Rattle.study_facts.proofs.WrittenOrder.{none-below}
use Rattle.study_facts.proofs.empty.ends_with.Goals as goal

pub has_no_grandchild-requires-clause-short : goal.has_no_grandchild-requires-clause-short
has_no_grandchild-requires-clause-short g c =
    within-length 256 (marked_study c.args.bench.now).tree.below c.args.steps.now c.start-first.ensures.study.shallow
    (there-spot (marked_study c.args.bench.now).tree c.args.steps.now _ (sym c.in-Some.ensures))

pub has_no_grandchild-requires-clause-all : goal.has_no_grandchild-requires-clause-all
has_no_grandchild-requires-clause-all g c =
    sym (width_some (marked_study c.args.bench.now).tree c.args.steps.now (node_seen c.in-Some.node) (sym c.in-Some.ensures))

pub returns-in-None : goal.returns-in-None
returns-in-None g c =
    none-below (below_at (marked_study c.args.bench.now).tree.below c.args.steps.now)
    (width_none (marked_study c.args.bench.now).tree c.args.steps.now (sym c.in-None.ensures))

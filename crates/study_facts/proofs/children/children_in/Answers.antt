use Rattle.std.proofs.Common.{sym}
use Rattle.study_marks.specs.BenchState.{marked_study}
use Rattle.study_marks.specs.Bench.{node_seen}
use Rattle.study_marks.proofs.PathRenewed.{there-spot}
use Rattle.study_marks.proofs.ChildFound.{spot-children}
use Rattle.study_tree.proofs.TreeDepth.{within-length}
use Rattle.study_facts.proofs.children.children_in.Goals as goal

pub add_children-requires-clause-short : goal.add_children-requires-clause-short
add_children-requires-clause-short g c =
    within-length 256 (marked_study c.args.bench.now).tree.below c.args.steps.now c.start-first.ensures.study.shallow
    (there-spot (marked_study c.args.bench.now).tree c.args.steps.now _ (sym c.in-Some.ensures))

pub add_children-requires-clause-all : goal.add_children-requires-clause-all
add_children-requires-clause-all g c =
    spot-children (marked_study c.args.bench.now).tree c.args.steps.now (node_seen c.in-Some.node) (sym c.in-Some.ensures)

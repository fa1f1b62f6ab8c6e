use Rattle.std.proofs.Common.{sym}
use Rattle.study_marks.specs.BenchState.{marked_study}
use Rattle.study_marks.specs.Bench.{node_seen}
use Rattle.study_marks.proofs.PathWalks.{width_none, width_some}
use Rattle.study_facts.proofs.children.child_count.Goals as goal

pub returns-in-None : goal.returns-in-None
returns-in-None g c = sym (width_none (marked_study c.args.bench.now).tree c.args.steps.now (sym c.in-None.ensures))

pub returns-in-Some : goal.returns-in-Some
returns-in-Some g c = sym (width_some (marked_study c.args.bench.now).tree c.args.steps.now (node_seen c.in-Some.node) (sym c.in-Some.ensures))

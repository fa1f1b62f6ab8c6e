use Rattle.std.proofs.lemmas.Result.{on_ok_weaker}
use Rattle.study_marks.specs.BenchState.{marked_study}
use Rattle.study_facts.specs.Made.{Grew, Rose}
use Rattle.study_facts.specs.Nodes.{FaultLines, NodeLines}
use Rattle.study_facts.specs.Order.{written_order}
use Rattle.study_facts.specs.TimeFaults.{IsTimeFault}
use Rattle.study_facts.proofs.EachAdded.{grew-each, rose-each}
use Rattle.study_review.proofs.review_lines.add_all.Goals as goal

pub returns-clause-faults : goal.returns-clause-faults
returns-clause-faults g c h =
    let s = marked_study c.args.bench.now in
    on_ok_weaker c.walk_study.result
    (grew-each _ (FaultLines s) (λ t. t.faults)
    (λ path a b (k : Grew (FaultLines s path) a.faults b.faults × Rose (IsTimeFault s path) a.time_faults b.time_faults
    × Grew (NodeLines s path) a.nodes b.nodes). k.0)
    (written_order s) c.args.draft.now c.walk_study.new.findings)
    (c.walk_study.ensures.adds h)

pub returns-clause-time : goal.returns-clause-time
returns-clause-time g c h =
    let s = marked_study c.args.bench.now in
    on_ok_weaker c.walk_study.result
    (rose-each _ (IsTimeFault s) (λ t. t.time_faults)
    (λ path a b (k : Grew (FaultLines s path) a.faults b.faults × Rose (IsTimeFault s path) a.time_faults b.time_faults
    × Grew (NodeLines s path) a.nodes b.nodes). k.1)
    (written_order s) c.args.draft.now c.walk_study.new.findings)
    (c.walk_study.ensures.adds h)

pub returns-clause-nodes : goal.returns-clause-nodes
returns-clause-nodes g c h =
    let s = marked_study c.args.bench.now in
    on_ok_weaker c.walk_study.result
    (grew-each _ (NodeLines s) (λ t. t.nodes)
    (λ path a b (k : Grew (FaultLines s path) a.faults b.faults × Rose (IsTimeFault s path) a.time_faults b.time_faults
    × Grew (NodeLines s path) a.nodes b.nodes). k.2)
    (written_order s) c.args.draft.now c.walk_study.new.findings)
    (c.walk_study.ensures.adds h)

use Rattle.std.proofs.Common.{ap, ◌++◌, ◌∙◌}
use Rattle.std.specs.List.{flat_map}
use Rattle.study_marks.specs.BenchState.{marked_study}
use Rattle.study_facts.specs.Order.{written_order}
use Rattle.study_head.specs.Reached.{reached_by}
use Rattle.study_head.proofs.FactsMade.{lists-each}
use Rattle.study_head.proofs.reached.reached_in.Goals as goal

pub returns-clause-list : goal.returns-clause-list
returns-clause-list g c h =
    let s = marked_study c.args.bench.now in
    lists-each (reached_by s) (λ t. t.list.items) (written_order s) (record { list = c.new.result }) c.walk_study.new.findings
    (c.in_ok-walk_study.ensures.adds h)
    ∙ ap (λ l. l ++ flat_map (reached_by s) (written_order s)) c.new.ensures.items

use Rattle.study_marks.specs.BenchState.{marked_study}
use Rattle.study_facts.specs.Asked.{within}
use Rattle.study_facts.proofs.Asking.{of-evaluated, no-memory}
use Rattle.study_page.proofs.MadeRows.{zugzwang-evaluated}
use Rattle.study_page.proofs.node_rows.add_zugzwang.Goals as goal

pub returns-in_ok-put_zugzwang_at-in-Ok-clause-text : goal.returns-in_ok-put_zugzwang_at-in-Ok-clause-text
returns-in_ok-put_zugzwang_at-in-Ok-clause-text g c h =
    zugzwang-evaluated (marked_study c.args.bench.now) c.args.node.now.here c.requires.here c.in-Ok.zugzwang c.args.html.now c.put_zugzwang_at.new.html
    (c.in-Ok.ensures.game h) c.in_ok-put_zugzwang_at-in-Ok.ensures

pub returns-in_err-put_zugzwang_at-in-Ok-clause-asked : goal.returns-in_err-put_zugzwang_at-in-Ok-clause-asked
returns-in_err-put_zugzwang_at-in-Ok-clause-asked g c =
    no-memory (within c.args.node.now.here.node.position.now g.V.Values.source)
    c.args.values.now c.zugzwang_at.new.values c.from_residual.result c.from_residual.ensures.1
    (of-evaluated (within c.args.node.now.here.node.position.now g.V.Values.source)
    c.args.values.now c.zugzwang_at.new.values c.in-Ok.ensures.evaluated c.in-Ok.ensures.failures c.zugzwang_at.ensures.honest c.zugzwang_at.ensures.tables)

pub returns-in_ok-put_zugzwang_at-in-Ok-clause-asked : goal.returns-in_ok-put_zugzwang_at-in-Ok-clause-asked
returns-in_ok-put_zugzwang_at-in-Ok-clause-asked g c =
    of-evaluated (within c.args.node.now.here.node.position.now g.V.Values.source)
    c.args.values.now c.zugzwang_at.new.values c.in-Ok.ensures.evaluated c.in-Ok.ensures.failures c.zugzwang_at.ensures.honest c.zugzwang_at.ensures.tables

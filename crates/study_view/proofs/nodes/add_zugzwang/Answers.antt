use Rattle.study_facts.specs.Asked.{within}
use Rattle.study_facts.proofs.Asking.{of-evaluated}
use Rattle.study_view.specs.declared.fault.ViewFault.TheVariants.{OutOfMemory}
use Rattle.study_view.proofs.AllAsked.{walks-so}
use Rattle.study_view.proofs.nodes.add_zugzwang.Goals as goal

pub returns-in_ok-add_zugzwang_line-in-Ok-clause-text : goal.returns-in_ok-add_zugzwang_line-in-Ok-clause-text
returns-in_ok-add_zugzwang_line-in-Ok-clause-text g c h =
    (c.in-Ok.zugzwang, c.in-Ok.ensures.game h, c.in_ok-add_zugzwang_line-in-Ok.ensures)

pub returns-in_err-add_zugzwang_line-in-Ok-clause-asked : goal.returns-in_err-add_zugzwang_line-in-Ok-clause-asked
returns-in_err-add_zugzwang_line-in-Ok-clause-asked g c =
    walks-so (within c.args.p.now g.V.Values.source) (Unit {0})
    c.args.values.now c.zugzwang_at.new.values c.from_residual.result OutOfMemory c.from_residual.ensures.1
    (of-evaluated (within c.args.p.now g.V.Values.source)
    c.args.values.now c.zugzwang_at.new.values c.in-Ok.ensures.evaluated c.in-Ok.ensures.failures c.zugzwang_at.ensures.honest c.zugzwang_at.ensures.tables)

pub returns-in_ok-add_zugzwang_line-in-Ok-clause-asked : goal.returns-in_ok-add_zugzwang_line-in-Ok-clause-asked
returns-in_ok-add_zugzwang_line-in-Ok-clause-asked g c =
    of-evaluated (within c.args.p.now g.V.Values.source)
    c.args.values.now c.zugzwang_at.new.values c.in-Ok.ensures.evaluated c.in-Ok.ensures.failures c.zugzwang_at.ensures.honest c.zugzwang_at.ensures.tables

use Rattle.std.proofs.Common.{Err, sym, ap, subst, ◌∙◌}
use Rattle.study_web.specs.declared.answers.make.MakeFault.{MakeFault}
use Rattle.study_web.specs.Making.{IsMakeFault}
use Rattle.study_web.proofs.Needed.{build_fault}
use Rattle.study_web.proofs.answers.make.build_table.Goals as goal

pub returns-in-Err-clause-fault : goal.returns-in-Err-clause-fault
returns-in-Err-clause-fault g c = λ spans bytes right all files.
    subst (λ (f : MakeFault). IsMakeFault spans bytes c.args.class f) (sym c.of_build.ensures)
    (build_fault c.needs_come_first.ensures spans bytes c.args.class c.args.tables.now.tables c.tables-2.result.now
    c.in-Err.reason c.tables-2.ensures (λ d e. (c.build.ensures.missing d).0 (c.in-Err.is ∙ ap Err e))
    (λ r e. c.build.ensures.far r (c.in-Err.is ∙ ap Err e)) right all (rw c.tables.ensures at c.table-held.ensures.closed) files)

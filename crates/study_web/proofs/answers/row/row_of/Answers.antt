use Rattle.std.proofs.Common.{true, sym, subst}
use Rattle.study_material.specs.declared.class.Class.{Class}
use Rattle.study_material.specs.Needs.{NeedsClass}
use Rattle.study_prober.specs.PagedTables.{paged_source}
use Rattle.study_reply.specs.declared.refusal.Refusal.{Refusal}
use Rattle.study_web.specs.declared.request_fault.RequestFault.TheVariants as denial
use Rattle.study_web.specs.Opened.{IsOfValues}
use Rattle.study_web.proofs.Denials.{search_reported}
use Rattle.study_web.proofs.answers.row.row_of.Goals as goal

pub returns-in-Err-found_row-clause-none : goal.returns-in-Err-found_row-clause-none
returns-in-Err-found_row-clause-none g c =
    let headers = g.S.TableStore.headers c.args.store.now in
    let faults = g.S.TableStore.faults c.args.store.now in
    let Right = (d : Class) → g.S.TableStore.honest c.args.store.now true d in
    subst (λ (r : Refusal). IsOfValues headers faults Right c.args.asked.now.start.position (denial.Refused r)) (sym c.of_probe.ensures)
    (search_reported (paged_source g.S.Pages.PageSource.honest g.S.Pages.PageSource.gives) headers faults Right
    (NeedsClass c.args.asked.now.start.position) c.in-Ok.tables c.in-Err-found_row.fault
    c.in-Err-found_row.ensures.faults c.in-Ok.ensures.held c.in-Ok.ensures.fails c.in-Ok.ensures.right)

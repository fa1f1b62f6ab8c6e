use Rattle.std.proofs.Common.{true, sym, subst}
use Rattle.study_material.specs.declared.class.Class.{Class}
use Rattle.study_material.specs.Needs.{IsNeeded}
use Rattle.study_prober.specs.PagedTables.{paged_source}
use Rattle.study_listing.specs.Requests.{class_of_request}
use Rattle.study_web.specs.declared.request_fault.RequestFault.{RequestFault}
use Rattle.study_web.specs.Opened.{IsOfSearch}
use Rattle.study_web.proofs.Denials.{search_stopped}
use Rattle.study_web.proofs.answers.find.found_of.Goals as goal

pub returns-clause-text : goal.returns-clause-text
returns-clause-text g c right = c.in-Ok-piece_text.ensures.text (c.in-Ok.ensures.right right)

pub returns-in-Err-piece_text-clause-none : goal.returns-in-Err-piece_text-clause-none
returns-in-Err-piece_text-clause-none g c =
    let class = class_of_request c.args.piece.now.request in
    let headers = g.S.TableStore.headers c.args.store.now in
    let faults = g.S.TableStore.faults c.args.store.now in
    let Right = (d : Class) → g.S.TableStore.honest c.args.store.now true d in
    subst (λ (d : RequestFault). IsOfSearch headers faults Right class d) (sym c.of_stop.ensures)
    (search_stopped (paged_source g.S.Pages.PageSource.honest g.S.Pages.PageSource.gives) headers faults Right (IsNeeded class) c.in-Ok.tables
    c.in-Err-piece_text.stop c.in-Err-piece_text.ensures.faults c.in-Ok.ensures.held c.in-Ok.ensures.fails c.in-Ok.ensures.right)

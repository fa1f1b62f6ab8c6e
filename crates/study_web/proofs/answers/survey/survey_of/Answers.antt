use Rattle.study_board.specs.Position.{IsValid}
use Rattle.std.proofs.Common.{rules, true, Err, sym, ap, subst, ◌∙◌}
use Rattle.study_material.specs.declared.class.Class.{Class}
use Rattle.study_prober.specs.PagedTables.{paged_source}
use Rattle.study_reply.specs.declared.refusal.Refusal.{Refusal}
use Rattle.study_web.specs.declared.request_fault.RequestFault.TheVariants as denial
use Rattle.study_web.specs.Opened.{IsOfValues}
use Rattle.study_web.proofs.Denials.{survey_denied}
use Rattle.study_web.proofs.answers.survey.survey_of.Goals as goal

pub returns-clause-none : goal.returns-clause-none
returns-clause-none g c =
    let headers = g.S.TableStore.headers c.args.store.now in
    let faults = g.S.TableStore.faults c.args.store.now in
    let valid : IsValid c.args.asked.now.start.position = search rules in
    subst (λ (r : Refusal). IsOfValues headers faults ((d : Class) → g.S.TableStore.honest c.args.store.now true d) c.args.asked.now.start.position
    (denial.Refused r))
    (sym c.of_probe.ensures)
    (survey_denied (paged_source g.S.Pages.PageSource.honest g.S.Pages.PageSource.gives) headers faults ((d : Class)
    → g.S.TableStore.honest c.args.store.now true d) c.in-Ok.tables
    c.write_survey.new.values c.in-Err-Values.fault
    c.args.asked.now.start c.args.asked.now.square c.write_survey.result valid
    (c.in-Err-Values.is ∙ ap Err c.in-Err-Values.field-0-is) c.write_survey.ensures.asked c.in-Ok.ensures.held c.in-Ok.ensures.fails c.in-Ok.ensures.right)

use Rattle.study_script.specs.Session.{SessionHolds}
use Rattle.study_script.specs.Stores.{HonestOn}
use Rattle.study_script.proofs.Apart.{executed-apart, holds-cleared}
use Rattle.study_script.specs.SessionHolds.{document_seen}
use Rattle.study_script.proofs.DocumentsLeft.{leaves_apart}
use Rattle.study_script.proofs.dispatch.execute_apart.Goals as goal

pub returns-clause-done : goal.returns-clause-done
returns-clause-done g c = λ trusted s may d.
    executed-apart s c.args.line.now
    (SessionHolds g.S.Pages.PageSource.honest g.S.Pages.PageSource.gives (HonestOn trusted g.S.TableStore.honest) g.S.TableStore.files
    g.S.TableStore.headers g.S.TableStore.faults c.execute_line-answer.new.document c.execute_line-answer.new.tables c.execute_line-answer.new.store)
    (SessionHolds g.S.Pages.PageSource.honest g.S.Pages.PageSource.gives (HonestOn trusted g.S.TableStore.honest) g.S.TableStore.files
    g.S.TableStore.headers g.S.TableStore.faults c.clear_after.new.document c.execute_line-answer.new.tables c.execute_line-answer.new.store)
    c.execute_line-answer.result c.is_err-refused.result c.is_err-refused.ensures.value
    (λ t h. holds-cleared g.S.Pages.PageSource.honest g.S.Pages.PageSource.gives (HonestOn trusted g.S.TableStore.honest) g.S.TableStore.files
    g.S.TableStore.headers g.S.TableStore.faults c.execute_line-answer.new.document c.clear_after.new.document c.execute_line-answer.new.tables
    c.execute_line-answer.new.store t
    _ c.clear_after.ensures.cleared c.clear_after.ensures.kept h)
    (c.execute_line-answer.ensures.done trusted s may d)

pub returns-clause-document : goal.returns-clause-document
returns-clause-document g c =
    leaves_apart c.execute_line-answer.result c.args.line.now c.is_err-refused.result (document_seen c.args.document.now) c.execute_line-answer.new.document
    c.clear_after.new.document c.is_err-refused.ensures.value c.clear_after.ensures.cleared c.clear_after.ensures.kept c.execute_line-answer.ensures.document

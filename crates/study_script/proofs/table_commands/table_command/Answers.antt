use Rattle.study_script.specs.Stores.{HonestOn, StoreSeen}
use Rattle.study_script.specs.Replies.{IsClassReply}
use Rattle.study_script.specs.SessionHolds.{TablesFrom}
use Rattle.study_script.proofs.Executions.{table_done, table_refused}
use Rattle.study_script.proofs.table_commands.table_command.Goals as goal

pub returns-in-Ok : goal.returns-in-Ok
returns-in-Ok g c = λ trusted s may h seen. table_done g.row.A.Denot (λ o. IsClassReply s o c.args.word c.args.name.now)
    (λ t. TablesFrom g.S.Pages.PageSource.honest g.S.Pages.PageSource.gives s c.in_tables.new.tables t
    × StoreSeen (HonestOn trusted g.S.TableStore.honest) g.S.TableStore.files g.S.TableStore.headers g.S.TableStore.faults c.in_tables.new.store t)
    c.in_tables.result c.in-Ok.reported c.in-Ok.is (c.in_tables.ensures trusted s may h seen)

pub returns-in-Err : goal.returns-in-Err
returns-in-Err g c = λ trusted s may h seen. table_refused g.row.A.Denot (λ o. IsClassReply s o c.args.word c.args.name.now)
    (λ t. TablesFrom g.S.Pages.PageSource.honest g.S.Pages.PageSource.gives s c.in_tables.new.tables t
    × StoreSeen (HonestOn trusted g.S.TableStore.honest) g.S.TableStore.files g.S.TableStore.headers g.S.TableStore.faults c.in_tables.new.store t)
    c.in_tables.result c.in-Err.refusal c.in-Err.is (c.in_tables.ensures trusted s may h seen)

use Rattle.std.proofs.Common.{◌≡◌}
use Rattle.study_script.specs.Stores.{HonestOn, StoreSeen}
use Rattle.study_script.specs.Replies.{IsClassReply, IsNamedReply, class_parsed}
use Rattle.study_script.specs.declared.tables.Tables.TheVariants as held
use Rattle.study_script.specs.Decided.{HoldsWhole, HoldsPaged}
use Rattle.study_script.specs.SessionHolds.{TablesFrom}
use Rattle.study_script.proofs.ClassReplies.{whole_of, paged_of, tables_whole, tables_paged, asked_whole, decided_weaker}
use Rattle.study_script.proofs.table_commands.in_tables.Goals as goal

pub returns-in-Whole : goal.returns-in-Whole
returns-in-Whole g c = λ trusted s may h seen.
    let w = c.in-Whole.whole in
    let whole = whole_of g.S.Pages.PageSource.honest g.S.Pages.PageSource.gives c.args.tables.now w s c.in-Whole.is h in
    let new = c.whole_command.new in
    decided_weaker (λ o. IsNamedReply s o c.args.word (class_parsed c.args.name.now))
    (λ o. IsClassReply s o c.args.word c.args.name.now) (λ t. HoldsWhole new.tables t × (t.document ≡ s.document)
    × StoreSeen (HonestOn trusted g.S.TableStore.honest) g.S.TableStore.files g.S.TableStore.headers g.S.TableStore.faults new.store t)
    (λ t. TablesFrom {A = g.row.A.Denot} g.S.Pages.PageSource.honest g.S.Pages.PageSource.gives s (held.Whole new.tables) t
    × StoreSeen (HonestOn trusted g.S.TableStore.honest) g.S.TableStore.files g.S.TableStore.headers g.S.TableStore.faults new.store t)
    c.whole_command.result (λ o r i. asked_whole s o c.args.word c.args.name.now r whole.whole i)
    (λ t k. (tables_whole {A = g.row.A.Denot} g.S.Pages.PageSource.honest g.S.Pages.PageSource.gives new.tables s t k.0 k.1, k.2))
    (c.whole_command.ensures trusted s may whole seen)

pub returns-in-Paged : goal.returns-in-Paged
returns-in-Paged g c = λ trusted s may h seen.
    let new = c.paged_command.new in
    decided_weaker (λ o. IsClassReply s o c.args.word c.args.name.now)
    (λ o. IsClassReply s o c.args.word c.args.name.now)
    (λ t. HoldsPaged g.S.Pages.PageSource.honest g.S.Pages.PageSource.gives new.tables t × (t.document ≡ s.document)
    × StoreSeen (HonestOn trusted g.S.TableStore.honest) g.S.TableStore.files g.S.TableStore.headers g.S.TableStore.faults new.store t)
    (λ t. TablesFrom {A = g.row.A.Denot} g.S.Pages.PageSource.honest g.S.Pages.PageSource.gives s (held.Paged new.tables) t
    × StoreSeen (HonestOn trusted g.S.TableStore.honest) g.S.TableStore.files g.S.TableStore.headers g.S.TableStore.faults new.store t)
    c.paged_command.result (λ o r i. i)
    (λ t k. (tables_paged {A = g.row.A.Denot} g.S.Pages.PageSource.honest g.S.Pages.PageSource.gives new.tables s t k.0 k.1, k.2))
    (c.paged_command.ensures trusted s may (paged_of g.S.Pages.PageSource.honest g.S.Pages.PageSource.gives c.args.tables.now c.in-Paged.paged s c.in-Paged.is
    h) seen)

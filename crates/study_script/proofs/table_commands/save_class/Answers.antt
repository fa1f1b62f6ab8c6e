use Rattle.std.proofs.Common.{List, Option, sym, ap, ◌∙◌, is_some}
use Rattle.study_table.specs.Table.{Table, table_of}
use Rattle.study_script.specs.Stores.{HonestOn, StoreSeen}
use Rattle.study_script.proofs.HeldTables.{store_anew}
use Rattle.study_script.proofs.ClassReplies.{save_none, save_unopened, save_cut, save_done}
use Rattle.study_script.proofs.table_commands.save_class.Goals as goal

pub returns-in_default : goal.returns-in_default
returns-in_default g c = λ trusted s h seen.
    let none = ap (λ (o : Option Table). is_some o) (c.in_default.ensures.value ∙ ap (λ (x : List (Option Table)). table_of x c.args.class) c.tables.ensures) in
    save_none c.args.tables.now s h c.args.class (StoreSeen (HonestOn trusted g.S.TableStore.honest) g.S.TableStore.files g.S.TableStore.headers
    g.S.TableStore.faults c.args.store.now) seen (sym none)

pub returns-in_default-writer : goal.returns-in_default-writer
returns-in_default-writer g c = λ trusted s h seen.
    let some = ap (λ (o : Option Table). is_some o) (c.in-Some.ensures.value ∙ ap (λ (x : List (Option Table)). table_of x c.args.class) c.tables.ensures) in
    save_unopened c.args.tables.now s h c.args.class (StoreSeen (HonestOn trusted g.S.TableStore.honest) g.S.TableStore.files g.S.TableStore.headers
    g.S.TableStore.faults c.writer.new.self)
    (store_anew (HonestOn trusted g.S.TableStore.honest) g.S.TableStore.files g.S.TableStore.headers g.S.TableStore.faults c.args.store.now c.writer.new.self
    s c.args.class (λ b all k is. c.writer.ensures.stays b k (all k is)) c.writer.ensures.files c.writer.ensures.headers c.writer.ensures.faults seen)
    c.in_default-writer.field-0 (sym some)

pub returns-then-is_err : goal.returns-then-is_err
returns-then-is_err g c = λ trusted s h seen.
    let some = ap (λ (o : Option Table). is_some o) (c.in-Some.ensures.value ∙ ap (λ (x : List (Option Table)). table_of x c.args.class) c.tables.ensures) in
    save_cut c.args.tables.now s h c.args.class (StoreSeen (HonestOn trusted g.S.TableStore.honest) g.S.TableStore.files g.S.TableStore.headers
    g.S.TableStore.faults c.writer.new.self)
    (store_anew (HonestOn trusted g.S.TableStore.honest) g.S.TableStore.files g.S.TableStore.headers g.S.TableStore.faults c.args.store.now c.writer.new.self
    s c.args.class (λ b all k is. c.writer.ensures.stays b k (all k is)) c.writer.ensures.files c.writer.ensures.headers c.writer.ensures.faults seen)
    (sym some)

pub returns : goal.returns
returns g c = λ trusted s h seen.
    let some = ap (λ (o : Option Table). is_some o) (c.in-Some.ensures.value ∙ ap (λ (x : List (Option Table)). table_of x c.args.class) c.tables.ensures) in
    save_done c.args.tables.now s h c.args.class (StoreSeen (HonestOn trusted g.S.TableStore.honest) g.S.TableStore.files g.S.TableStore.headers
    g.S.TableStore.faults c.writer.new.self)
    (store_anew (HonestOn trusted g.S.TableStore.honest) g.S.TableStore.files g.S.TableStore.headers g.S.TableStore.faults c.args.store.now c.writer.new.self
    s c.args.class (λ b all k is. c.writer.ensures.stays b k (all k is)) c.writer.ensures.files c.writer.ensures.headers c.writer.ensures.faults seen)
    (sym some)

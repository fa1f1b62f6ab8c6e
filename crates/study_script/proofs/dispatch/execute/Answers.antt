use Rattle.std.proofs.Common.{sym, ap, subst}
use Rattle.study_notation.specs.Fen.{start_of}
use Rattle.study_command.specs.Paths.{steps_of}
use Rattle.study_command.specs.Parser.{Asked, fen_command, node_query, node_command, table_command, stipulate, insert, tag, solve, pgn, command_seen}
use Rattle.study_script.specs.State.{State, Environment}
use Rattle.study_script.specs.SessionHolds.{Holds, HoldsFrom, TablesFrom}
use Rattle.study_script.specs.Stores.{StoreSeen, HonestOn, IsTrustedAsked}
use Rattle.study_script.specs.Session.{SessionHolds}
use Rattle.study_script.specs.Replies.{IsReplyTo}
use Rattle.study_script.proofs.Executions.{executed_kept}
use Rattle.study_script.proofs.HeldBehindCommands.{start_beside, stipulate_beside, insert_beside, document_held}
use Rattle.study_script.proofs.HeldBehindCommands.{tables_there, session_edited, session_document, session_class}
use Rattle.std.proofs.Common.{refl}
use Rattle.study_script.specs.SessionHolds.{document_seen}
use Rattle.study_script.specs.Executed.{Leaves}
use Rattle.study_script.proofs.DocumentsLeft.{leaves_same}
use Rattle.study_script.proofs.dispatch.execute.Goals as goal

pub returns-in-FromFen-clause-done : goal.returns-in-FromFen-clause-done
returns-in-FromFen-clause-done g c = λ trusted s may d. executed_kept {I = λ (o : Environment). IsReplyTo s o (fen_command c.in-FromFen.word c.in-FromFen.fen.now)}
    {J = λ (o : Environment). IsReplyTo s o (command_seen c.args.command.now)}
    {H = Holds g.S.Pages.PageSource.honest g.S.Pages.PageSource.gives c.fen_command.new.document c.fen_command.new.tables}
    {K = SessionHolds g.S.Pages.PageSource.honest g.S.Pages.PageSource.gives (HonestOn trusted g.S.TableStore.honest) g.S.TableStore.files
    g.S.TableStore.headers g.S.TableStore.faults
    c.fen_command.new.document c.fen_command.new.tables c.args.store.now} c.fen_command.result
    (λ o r i. subst (λ (x : Asked). IsReplyTo s o x r) (sym (ap command_seen c.in-FromFen.is)) i)
    (λ o r i h. session_edited g.S.Pages.PageSource.honest g.S.Pages.PageSource.gives (HonestOn trusted g.S.TableStore.honest) g.S.TableStore.files
    g.S.TableStore.headers g.S.TableStore.faults
    c.args.document.now c.fen_command.new.document c.args.tables.now c.fen_command.new.tables c.args.store.now s r.state d
    (start_beside s c.in-FromFen.word s.document (start_of c.in-FromFen.fen.now) o r i) h)
    (c.fen_command.ensures.done s d.held)

pub returns-in-Query-clause-done : goal.returns-in-Query-clause-done
returns-in-Query-clause-done g c = λ trusted s may d. executed_kept
    {I = λ (o : Environment). IsReplyTo s o (node_query c.in-Query.word (steps_of c.in-Query.path.word.now))}
    {J = λ (o : Environment). IsReplyTo s o (command_seen c.args.command.now)}
    {H = HoldsFrom {A = g.row.A.Denot} s c.args.document.now}
    {K = SessionHolds g.S.Pages.PageSource.honest g.S.Pages.PageSource.gives (HonestOn trusted g.S.TableStore.honest) g.S.TableStore.files
    g.S.TableStore.headers g.S.TableStore.faults
    c.args.document.now c.args.tables.now c.args.store.now} c.node_query.result
    (λ o r i. subst (λ (x : Asked). IsReplyTo s o x r) (sym (ap command_seen c.in-Query.is)) i)
    (λ o r i h. session_document g.S.Pages.PageSource.honest g.S.Pages.PageSource.gives (HonestOn trusted g.S.TableStore.honest) g.S.TableStore.files
    g.S.TableStore.headers g.S.TableStore.faults
    c.args.document.now c.args.document.now c.args.tables.now c.args.store.now s r.state d h)
    (c.node_query.ensures s (document_held g.S.Pages.PageSource.honest g.S.Pages.PageSource.gives c.args.document.now c.args.tables.now s d.held))

pub returns-in-Node-clause-done : goal.returns-in-Node-clause-done
returns-in-Node-clause-done g c = λ trusted s may d. executed_kept {I = λ (o : Environment). IsReplyTo s o (node_command c.in-Node.word (steps_of c.in-Node.path.word.now))}
    {J = λ (o : Environment). IsReplyTo s o (command_seen c.args.command.now)}
    {H = HoldsFrom {A = g.row.A.Denot} s c.node_command.new.document}
    {K = SessionHolds g.S.Pages.PageSource.honest g.S.Pages.PageSource.gives (HonestOn trusted g.S.TableStore.honest) g.S.TableStore.files
    g.S.TableStore.headers g.S.TableStore.faults
    c.node_command.new.document c.args.tables.now c.args.store.now} c.node_command.result
    (λ o r i. subst (λ (x : Asked). IsReplyTo s o x r) (sym (ap command_seen c.in-Node.is)) i)
    (λ o r i h. session_document g.S.Pages.PageSource.honest g.S.Pages.PageSource.gives (HonestOn trusted g.S.TableStore.honest) g.S.TableStore.files
    g.S.TableStore.headers g.S.TableStore.faults
    c.args.document.now c.node_command.new.document c.args.tables.now c.args.store.now s r.state d h)
    (c.node_command.ensures.done s (document_held g.S.Pages.PageSource.honest g.S.Pages.PageSource.gives c.args.document.now c.args.tables.now s d.held))

pub returns-in-Table-clause-done : goal.returns-in-Table-clause-done
returns-in-Table-clause-done g c = λ trusted s may d. executed_kept {I = λ (o : Environment). IsReplyTo s o (table_command c.in-Table.word c.in-Table.name.now)}
    {J = λ (o : Environment). IsReplyTo s o (command_seen c.args.command.now)}
    {H = λ (t : State). TablesFrom g.S.Pages.PageSource.honest g.S.Pages.PageSource.gives s c.table_command.new.tables t
    × StoreSeen (HonestOn trusted g.S.TableStore.honest) g.S.TableStore.files g.S.TableStore.headers g.S.TableStore.faults c.table_command.new.store t}
    {K = SessionHolds g.S.Pages.PageSource.honest g.S.Pages.PageSource.gives (HonestOn trusted g.S.TableStore.honest) g.S.TableStore.files
    g.S.TableStore.headers g.S.TableStore.faults
    c.args.document.now c.table_command.new.tables c.table_command.new.store} c.table_command.result
    (λ o r i. subst (λ (x : Asked). IsReplyTo s o x r) (sym (ap command_seen c.in-Table.is)) i)
    (λ o r i h. session_class g.S.Pages.PageSource.honest g.S.Pages.PageSource.gives (HonestOn trusted g.S.TableStore.honest) g.S.TableStore.files
    g.S.TableStore.headers g.S.TableStore.faults
    c.args.document.now c.args.tables.now c.table_command.new.tables c.args.store.now c.table_command.new.store s r.state d h)
    (c.table_command.ensures trusted s (subst (λ (x : Asked). IsTrustedAsked trusted x) (ap command_seen c.in-Table.is) may)
    (tables_there g.S.Pages.PageSource.honest g.S.Pages.PageSource.gives c.args.document.now c.args.tables.now s d.held) d.seen)

pub returns-in-Stipulate-clause-done : goal.returns-in-Stipulate-clause-done
returns-in-Stipulate-clause-done g c = λ trusted s may d. executed_kept {I = λ (o : Environment). IsReplyTo s o (stipulate c.in-Stipulate.stipulation)}
    {J = λ (o : Environment). IsReplyTo s o (command_seen c.args.command.now)}
    {H = Holds g.S.Pages.PageSource.honest g.S.Pages.PageSource.gives c.stipulate.new.document c.stipulate.new.tables}
    {K = SessionHolds g.S.Pages.PageSource.honest g.S.Pages.PageSource.gives (HonestOn trusted g.S.TableStore.honest) g.S.TableStore.files
    g.S.TableStore.headers g.S.TableStore.faults
    c.stipulate.new.document c.stipulate.new.tables c.args.store.now} c.stipulate.result
    (λ o r i. subst (λ (x : Asked). IsReplyTo s o x r) (sym (ap command_seen c.in-Stipulate.is)) i)
    (λ o r i h. session_edited g.S.Pages.PageSource.honest g.S.Pages.PageSource.gives (HonestOn trusted g.S.TableStore.honest) g.S.TableStore.files
    g.S.TableStore.headers g.S.TableStore.faults
    c.args.document.now c.stipulate.new.document c.args.tables.now c.stipulate.new.tables c.args.store.now s r.state d
    (stipulate_beside s s.document c.in-Stipulate.stipulation o r i) h)
    (c.stipulate.ensures.done s d.held)

pub returns-in-Insert-clause-done : goal.returns-in-Insert-clause-done
returns-in-Insert-clause-done g c = λ trusted s may d. executed_kept
    {I = λ (o : Environment). IsReplyTo s o (insert (steps_of c.in-Insert.path.word.now) c.in-Insert.san.now)}
    {J = λ (o : Environment). IsReplyTo s o (command_seen c.args.command.now)}
    {H = Holds g.S.Pages.PageSource.honest g.S.Pages.PageSource.gives c.insert.new.document c.insert.new.tables}
    {K = SessionHolds g.S.Pages.PageSource.honest g.S.Pages.PageSource.gives (HonestOn trusted g.S.TableStore.honest) g.S.TableStore.files
    g.S.TableStore.headers g.S.TableStore.faults
    c.insert.new.document c.insert.new.tables c.args.store.now} c.insert.result
    (λ o r i. subst (λ (x : Asked). IsReplyTo s o x r) (sym (ap command_seen c.in-Insert.is)) i)
    (λ o r i h. session_edited g.S.Pages.PageSource.honest g.S.Pages.PageSource.gives (HonestOn trusted g.S.TableStore.honest) g.S.TableStore.files
    g.S.TableStore.headers g.S.TableStore.faults
    c.args.document.now c.insert.new.document c.args.tables.now c.insert.new.tables c.args.store.now s r.state d
    (insert_beside s s.document (steps_of c.in-Insert.path.word.now) c.in-Insert.san.now o r i) h)
    (c.insert.ensures.done s d.held)

pub returns-in-Tag-clause-done : goal.returns-in-Tag-clause-done
returns-in-Tag-clause-done g c = λ trusted s may d. executed_kept {I = λ (o : Environment). IsReplyTo s o (tag c.in-Tag.name c.in-Tag.text.now)}
    {J = λ (o : Environment). IsReplyTo s o (command_seen c.args.command.now)}
    {H = HoldsFrom {A = g.row.A.Denot} s c.set_tag.new.document}
    {K = SessionHolds g.S.Pages.PageSource.honest g.S.Pages.PageSource.gives (HonestOn trusted g.S.TableStore.honest) g.S.TableStore.files
    g.S.TableStore.headers g.S.TableStore.faults
    c.set_tag.new.document c.args.tables.now c.args.store.now} c.set_tag.result
    (λ o r i. subst (λ (x : Asked). IsReplyTo s o x r) (sym (ap command_seen c.in-Tag.is)) i)
    (λ o r i h. session_document g.S.Pages.PageSource.honest g.S.Pages.PageSource.gives (HonestOn trusted g.S.TableStore.honest) g.S.TableStore.files
    g.S.TableStore.headers g.S.TableStore.faults
    c.args.document.now c.set_tag.new.document c.args.tables.now c.args.store.now s r.state d h)
    (c.set_tag.ensures.done s (document_held g.S.Pages.PageSource.honest g.S.Pages.PageSource.gives c.args.document.now c.args.tables.now s d.held))

pub returns-in-Solve-clause-done : goal.returns-in-Solve-clause-done
returns-in-Solve-clause-done g c = λ trusted s may d. executed_kept
    {I = λ (o : Environment). IsReplyTo s o (solve c.in-Solve.count.number (steps_of c.in-Solve.path.word.now))}
    {J = λ (o : Environment). IsReplyTo s o (command_seen c.args.command.now)}
    {H = HoldsFrom {A = g.row.A.Denot} s c.args.document.now}
    {K = SessionHolds g.S.Pages.PageSource.honest g.S.Pages.PageSource.gives (HonestOn trusted g.S.TableStore.honest) g.S.TableStore.files
    g.S.TableStore.headers g.S.TableStore.faults
    c.args.document.now c.args.tables.now c.args.store.now} c.solve_at.result
    (λ o r i. subst (λ (x : Asked). IsReplyTo s o x r) (sym (ap command_seen c.in-Solve.is)) i)
    (λ o r i h. session_document g.S.Pages.PageSource.honest g.S.Pages.PageSource.gives (HonestOn trusted g.S.TableStore.honest) g.S.TableStore.files
    g.S.TableStore.headers g.S.TableStore.faults
    c.args.document.now c.args.document.now c.args.tables.now c.args.store.now s r.state d h)
    (c.solve_at.ensures s (document_held g.S.Pages.PageSource.honest g.S.Pages.PageSource.gives c.args.document.now c.args.tables.now s d.held))

pub returns-in-Pgn-clause-done : goal.returns-in-Pgn-clause-done
returns-in-Pgn-clause-done g c = λ trusted s may d. executed_kept {I = λ (o : Environment). IsReplyTo s o (pgn)}
    {J = λ (o : Environment). IsReplyTo s o (command_seen c.args.command.now)}
    {H = HoldsFrom {A = g.row.A.Denot} s c.args.document.now}
    {K = SessionHolds g.S.Pages.PageSource.honest g.S.Pages.PageSource.gives (HonestOn trusted g.S.TableStore.honest) g.S.TableStore.files
    g.S.TableStore.headers g.S.TableStore.faults
    c.args.document.now c.args.tables.now c.args.store.now} c.pgn.result
    (λ o r i. subst (λ (x : Asked). IsReplyTo s o x r) (sym (ap command_seen c.in-Pgn.is)) i)
    (λ o r i h. session_document g.S.Pages.PageSource.honest g.S.Pages.PageSource.gives (HonestOn trusted g.S.TableStore.honest) g.S.TableStore.files
    g.S.TableStore.headers g.S.TableStore.faults
    c.args.document.now c.args.document.now c.args.tables.now c.args.store.now s r.state d h)
    (c.pgn.ensures s (document_held g.S.Pages.PageSource.honest g.S.Pages.PageSource.gives c.args.document.now c.args.tables.now s d.held))

pub returns-in-FromFen-clause-document : goal.returns-in-FromFen-clause-document
returns-in-FromFen-clause-document g c =
    subst (λ (x : Asked). Leaves c.fen_command.result x (document_seen c.args.document.now) (document_seen c.fen_command.new.document))
    (sym (ap command_seen c.in-FromFen.is)) c.fen_command.ensures.document

pub returns-in-Node-clause-document : goal.returns-in-Node-clause-document
returns-in-Node-clause-document g c =
    subst (λ (x : Asked). Leaves c.node_command.result x (document_seen c.args.document.now) (document_seen c.node_command.new.document))
    (sym (ap command_seen c.in-Node.is)) c.node_command.ensures.document

pub returns-in-Stipulate-clause-document : goal.returns-in-Stipulate-clause-document
returns-in-Stipulate-clause-document g c =
    subst (λ (x : Asked). Leaves c.stipulate.result x (document_seen c.args.document.now) (document_seen c.stipulate.new.document))
    (sym (ap command_seen c.in-Stipulate.is)) c.stipulate.ensures.document

pub returns-in-Insert-clause-document : goal.returns-in-Insert-clause-document
returns-in-Insert-clause-document g c =
    subst (λ (x : Asked). Leaves c.insert.result x (document_seen c.args.document.now) (document_seen c.insert.new.document))
    (sym (ap command_seen c.in-Insert.is)) c.insert.ensures.document

pub returns-in-Tag-clause-document : goal.returns-in-Tag-clause-document
returns-in-Tag-clause-document g c =
    subst (λ (x : Asked). Leaves c.set_tag.result x (document_seen c.args.document.now) (document_seen c.set_tag.new.document))
    (sym (ap command_seen c.in-Tag.is)) c.set_tag.ensures.document

pub returns-in-Query-clause-document : goal.returns-in-Query-clause-document
returns-in-Query-clause-document g c =
    let here = document_seen c.args.document.now in
    subst (λ (x : Asked). Leaves c.node_query.result x here here) (sym (ap command_seen c.in-Query.is)) (leaves_same c.node_query.result (node_query c.in-Query.word (steps_of c.in-Query.path.word.now)) here refl)

pub returns-in-Table-clause-document : goal.returns-in-Table-clause-document
returns-in-Table-clause-document g c =
    let here = document_seen c.args.document.now in
    subst (λ (x : Asked). Leaves c.table_command.result x here here) (sym (ap command_seen c.in-Table.is)) (leaves_same c.table_command.result (table_command c.in-Table.word c.in-Table.name.now) here refl)

pub returns-in-Solve-clause-document : goal.returns-in-Solve-clause-document
returns-in-Solve-clause-document g c =
    let here = document_seen c.args.document.now in
    subst (λ (x : Asked). Leaves c.solve_at.result x here here) (sym (ap command_seen c.in-Solve.is)) (leaves_same c.solve_at.result (solve c.in-Solve.count.number (steps_of c.in-Solve.path.word.now)) here refl)

pub returns-in-Pgn-clause-document : goal.returns-in-Pgn-clause-document
returns-in-Pgn-clause-document g c =
    let here = document_seen c.args.document.now in
    subst (λ (x : Asked). Leaves c.pgn.result x here here) (sym (ap command_seen c.in-Pgn.is)) (leaves_same c.pgn.result pgn here refl)

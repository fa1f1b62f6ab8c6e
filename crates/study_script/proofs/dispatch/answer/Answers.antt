use Rattle.study_script.specs.Replies.{IsReply}
use Rattle.study_script.specs.Session.{SessionHolds}
use Rattle.study_script.specs.Stores.{HonestOn}
use Rattle.study_script.proofs.Executions.{executed_answered, executed_broken, piece_written, piece_cut_off}
use Rattle.study_script.proofs.dispatch.answer.Goals as goal

pub returns-clause-ok : goal.returns-clause-ok
returns-clause-ok g c = λ trusted s may d.
    executed_answered (IsReply s c.args.line.now)
    (SessionHolds g.S.Pages.PageSource.honest g.S.Pages.PageSource.gives (HonestOn trusted g.S.TableStore.honest) g.S.TableStore.files
    g.S.TableStore.headers g.S.TableStore.faults c.execute_line-answer.new.document c.execute_line-answer.new.tables c.execute_line-answer.new.store)
    c.execute_line-answer.result c.write_reply.result (g.W.Write.contents c.args.out.now) (g.W.Write.contents c.write_reply.new.out)
    (c.execute_line-answer.ensures.done trusted s may d) c.write_reply.ensures.ok c.write_reply.ensures.refused

pub returns-clause-err : goal.returns-clause-err
returns-clause-err g c = λ trusted s may d.
    executed_broken (IsReply s c.args.line.now)
    (SessionHolds g.S.Pages.PageSource.honest g.S.Pages.PageSource.gives (HonestOn trusted g.S.TableStore.honest) g.S.TableStore.files
    g.S.TableStore.headers g.S.TableStore.faults c.execute_line-answer.new.document c.execute_line-answer.new.tables c.execute_line-answer.new.store)
    c.execute_line-answer.result c.write_reply.result (g.W.Write.contents c.args.out.now) (g.W.Write.contents c.write_reply.new.out)
    (c.execute_line-answer.ensures.done trusted s may d) c.write_reply.ensures.err

pub returns-clause-written : goal.returns-clause-written
returns-clause-written g c =
    piece_written c.args.line.now c.execute_line-answer.result c.execute_line-answer.ensures.piece c.write_reply.result (g.W.Write.contents c.args.out.now)
    (g.W.Write.contents c.write_reply.new.out) c.write_reply.ensures.ok c.write_reply.ensures.refused

pub returns-clause-cut_off : goal.returns-clause-cut_off
returns-clause-cut_off g c =
    piece_cut_off c.args.line.now c.execute_line-answer.result c.execute_line-answer.ensures.piece c.write_reply.result (g.W.Write.contents c.args.out.now)
    (g.W.Write.contents c.write_reply.new.out) c.write_reply.ensures.err

use Rattle.std.proofs.Common.{Some, refl}
use Rattle.study_script.specs.State.{StoreKnowledge}
use Rattle.study_web.specs.Views.{over_files}
use Rattle.study_web.proofs.Unread.{unread_as}
use Rattle.study_web.proofs.answers.script.run_to_end.Goals as goal

pub returns-clause-left : goal.returns-clause-left
returns-clause-left g c = λ classes right held fails.
    let store = c.args.store.now in
    let shelf : StoreKnowledge = record { files = g.S.TableStore.files store; headers = g.S.TableStore.headers store; faults = g.S.TableStore.faults store } in
    let all = c.in-Ok-report_session.ensures.after (over_files classes shelf) (record {
      held = record { document = refl; marks = tt; values = right; classes = held; paged = refl; faults = fails };
      seen = record {
        is_honest = λ d is. absurd cc;
        known = record { files_known = λ d. refl; headers_known = λ d. refl; faults_known = λ d f. refl };
      };
    }) in
    (_, all.3.held, (all.0, all.1, refl, rw c.new-refused.ensures.items at all.2))

pub returns-in-Err-clause-stops : goal.returns-in-Err-clause-stops
returns-in-Err-clause-stops g c =
    unread_as c.args.script.now c.in-Err.fault c.own_fault.result (Some c.report_session.new.script.now, c.in-Err.ensures.shape) c.own_fault.ensures.own
    c.own_fault.ensures.same

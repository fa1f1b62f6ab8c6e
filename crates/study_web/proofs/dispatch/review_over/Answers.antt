use Rattle.study_web.proofs.Reviews.{reviewed_as, reviewed_denied, review_made}
use Rattle.study_web.proofs.Shelves.{right_made, tables_made}
use Rattle.study_web.proofs.dispatch.review_over.Goals as goal

pub returns-in-Ok : goal.returns-in-Ok
returns-in-Ok g c =
    let made = c.new-store.ensures in
    let reported = c.in-Ok.reported in
    reviewed_as c.args.files.now.spans.now c.args.files.now.bytes.now c.args.script.now reported.text.items c.ran.result.text.items reported.summary
    c.ran.result.ended
    c.ran.ensures.text c.ran.ensures.ended c.in-Ok.ensures.own
    (λ right. review_made made.spans made.bytes made.written c.args.script.now reported.text.items reported.summary
    (c.in-Ok.ensures.review (right_made made.spans made.bytes right)) right)

pub returns-in-Err : goal.returns-in-Err
returns-in-Err g c =
    let made = c.new-store.ensures in
    reviewed_denied c.args.files.now.spans.now c.args.files.now.bytes.now c.args.script.now c.in-Err.denial c.fault_answer.result.text.items
    c.fault_answer.result.ended
    (tables_made made.spans made.bytes made.written c.in-Err.denial c.in-Err.ensures.denied) c.fault_answer.ensures

use Rattle.study_web.proofs.Printing.{printed_as, printed_denied, print_made}
use Rattle.study_web.proofs.Shelves.{tables_made}
use Rattle.study_web.proofs.dispatch.report_over.Goals as goal

pub returns-in-Ok : goal.returns-in-Ok
returns-in-Ok g c =
    let made = c.new-store.ensures in
    let reported = c.in-Ok.reported in
    printed_as c.args.files.now.spans.now c.args.files.now.bytes.now c.args.script.now reported.text.items c.ran.result.text.items reported.summary
    c.ran.result.ended
    c.ran.ensures.text c.ran.ensures.ended c.in-Ok.ensures.own
    (print_made made.spans made.bytes made.written c.args.script.now reported.text.items reported.summary c.in-Ok.ensures.file)

pub returns-in-Err : goal.returns-in-Err
returns-in-Err g c =
    let made = c.new-store.ensures in
    printed_denied c.args.files.now.spans.now c.args.files.now.bytes.now c.args.script.now c.in-Err.denial c.fault_answer.result.text.items
    c.fault_answer.result.ended
    (tables_made made.spans made.bytes made.written c.in-Err.denial c.in-Err.ensures.denied) c.fault_answer.ensures

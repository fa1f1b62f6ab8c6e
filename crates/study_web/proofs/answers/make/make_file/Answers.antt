use Rattle.std.proofs.Common.{rules}
use Rattle.study_web.proofs.answers.make.make_file.Goals as goal

pub returns-in_err-table-clause-fault : goal.returns-in_err-table-clause-fault
returns-in_err-table-clause-fault g c =
    let fault = c.in_err-table.ensures.fault c.args.spans.now c.args.bytes.now c.in_ok-tables.ensures.right c.in_ok-tables.ensures.settled
    c.in_ok-tables.ensures.files in
    search rules

pub returns-clause-fault : goal.returns-clause-fault
returns-clause-fault g c = c.text_of.ensures.err c.args.spans.now c.args.bytes.now c.args.class

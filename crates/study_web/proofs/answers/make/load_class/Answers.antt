use Rattle.std.proofs.Common.{rules}
use Rattle.study_web.proofs.Needed.{keeps_files, taken, added_ok}
use Rattle.study_web.proofs.answers.make.load_class.Goals as goal

pub returns-clause-taken : goal.returns-clause-taken
returns-clause-taken g c =
    taken c.args.tables.now c.add.new.self c.in_ok-table.table c.add.result (rw c.tables.ensures at c.table-held.ensures.closed)
    c.add.ensures.added c.add.ensures.same c.args.spans.now c.args.bytes.now c.args.class
    (λ lacks none. added_ok _ c.args.tables.now.tables c.in_ok-table.table.class c.args.class c.in_ok-table.ensures.class lacks none c.add.ensures.fault)
    c.in_ok-table.ensures.class

pub returns-clause-files : goal.returns-clause-files
returns-clause-files g c =
    keeps_files c.args.tables.now c.add.new.self c.in_ok-table.table c.add.result (rw c.tables.ensures at c.table-held.ensures.closed)
    c.add.ensures.added c.add.ensures.same c.args.spans.now c.args.bytes.now c.args.class c.in_ok-table.ensures.class (search rules)

use Rattle.std.proofs.Common.{sym}
use Rattle.study_script.proofs.HeldTables.{needs_right, right_reported}
use Rattle.study_script.proofs.ClassReplies.{verify_none, verify_reported}
use Rattle.study_script.proofs.table_commands.verify_class.Goals as goal

pub returns-in-None : goal.returns-in-None
returns-in-None g c = λ s h. verify_none c.args.tables.now s h c.args.class (sym c.in-None.ensures.held)

pub returns-in-Some : goal.returns-in-Some
returns-in-Some g c = λ s h.
    verify_reported c.args.tables.now s h c.args.class c.in-Some.right (sym c.in-Some.ensures.held)
    (right_reported c.args.tables.now.tables c.args.class c.in-Some.right h.values (sym c.in-Some.ensures.held)
    (c.in-Some.ensures.right (needs_right c.args.tables.now.tables c.args.class h.values)))

use Rattle.std.proofs.Common.{◌≢◌, rules}
use Rattle.study_web.proofs.Needed.{settled_ok}
use Rattle.study_web.proofs.answers.make.load_needed.Goals as goal

pub returns-clause-right : goal.returns-clause-right
returns-clause-right g c = λ all.
    let other : c.args.need ≢ c.args.class = search rules in c.load_class.ensures.right (all c.args.need c.requires other)

pub returns-clause-settled : goal.returns-clause-settled
returns-clause-settled g c = λ before.
    settled_ok c.load_class.result c.needs_come_first.ensures c.args.spans.now c.args.bytes.now c.args.class c.args.need c.args.tables.now.tables
    c.load_class.new.tables.tables c.requires c.load_class.ensures.taken before

use Rattle.std.proofs.Common.{rules}
use Rattle.study_view.proofs.ClassesNeeded.{in_rest}
use Rattle.study_view.proofs.classes.+is_in.Goals as goal

pub returns-else-eq : goal.returns-else-eq
returns-else-eq t c =
    in_rest c.in-Some.first.now c.args.class c.in-Some.rest.now c.args.classes.now c.is_in.result c.in-Some.ensures.cases.0
    (λ e. let other = c.if-eq.false in let same = c.eq.ensures in search rules) c.is_in.ensures

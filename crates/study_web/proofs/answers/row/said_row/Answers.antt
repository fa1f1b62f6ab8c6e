use Rattle.std.proofs.Common.{subst}
use Rattle.study_web.specs.Row.{IsFoundRow}
use Rattle.study_web.proofs.RowsFound.{none-said, row-said}
use Rattle.study_web.proofs.answers.row.said_row.Goals as goal

pub returns-in-None : goal.returns-in-None
returns-in-None g c h =
    none-said c.args.outcome c.args.p.now c.none_text.result (λ t. t.items) (subst (IsFoundRow c.args.outcome c.args.p.now) c.in-None.is h)
    c.none_text.ensures

pub returns-in-Some : goal.returns-in-Some
returns-in-Some g c h =
    row-said c.args.outcome c.args.p.now c.in-Some.found c.row_text.result (λ t. t.items)
    (subst (IsFoundRow c.args.outcome c.args.p.now) c.in-Some.is h) c.row_text.ensures

use Rattle.std.proofs.Common.{sym, ◌∙◌}
use Rattle.study_search.specs.ByCells.{IsHandedOn, is_less}
use Rattle.study_search.proofs.ZugzwangCells.{not-less, less-and}
use Rattle.study_search.proofs.by_cells.is_zugzwang_by.Goals as goal

pub returns-then-not-less : goal.returns-then-not-less
returns-then-not-less c = not-less (IsHandedOn c.args.class c.args.number) (is_less c.args.own c.args.other) (sym c.is_less-less.ensures ∙ c.if-not-less.true)

pub returns : goal.returns
returns c = less-and (IsHandedOn c.args.class c.args.number) (is_less c.args.own c.args.other) c.is_handed_on.result
    (sym c.is_less-less.ensures ∙ c.if-not-less.false) c.is_handed_on.ensures

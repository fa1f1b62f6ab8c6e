use Rattle.study_search.specs.ByCells.{IsZugzwangBy}
use Rattle.study_search.proofs.ZugzwangCells.{next-at, next-within}
use Rattle.study_search.proofs.by_cells.next_facing.Goals as goal

pub returns-in-Ok-clause-game : goal.returns-in-Ok-clause-game
returns-in-Ok-clause-game g c h owns =
    next-at c.values_are_unique.ensures c.args.class c.args.page c.opposite-other_page.result c.args.own.now c.read_page.new.into owns (c.in-Ok.ensures.game h)
    c.requires.whole c.opposite-other_page.ensures.page c.args.from c.args.to c.next_by_cells.result c.requires.from c.requires.to c.requires.page
    c.next_by_cells.ensures

pub returns-in-Ok-clause-within : goal.returns-in-Ok-clause-within
returns-in-Ok-clause-within g c =
    next-within (IsZugzwangBy c.args.class c.args.own.now c.read_page.new.into) c.args.from c.args.to c.next_by_cells.result c.next_by_cells.ensures

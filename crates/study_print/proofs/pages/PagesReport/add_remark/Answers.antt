use Rattle.std.proofs.Common.{true, false, sym, ◌∙◌}
use Rattle.study_print.proofs.EntriesGrow.{game_after, no_game_after, on-ok}
use Rattle.study_print.proofs.pages.PagesReport.add_remark.Goals as goal

pub returns-then-not-is_left_out-clause-listed : goal.returns-then-not-is_left_out-clause-listed
returns-then-not-is_left_out-clause-listed g c reported listed =
    on-ok c.write_remark.result _
    (no_game_after reported c.args.self.now.count c.args.number c.args.self.now.rows c.args.line.now (sym c.is_left_out.ensures ∙ c.if-not-is_left_out.true) listed)

pub returns-clause-listed : goal.returns-clause-listed
returns-clause-listed g c reported listed =
    let next = c.next-self in
    game_after reported c.args.self.now.count next.result c.args.number c.args.self.now.rows c.in_ok-more.more c.args.line.now
    (sym c.is_left_out.ensures ∙ c.if-not-is_left_out.false) listed c.in_ok-more.ensures.ok next.ensures.nothing next.ensures.one next.ensures.several

use Rattle.std.proofs.Common.{sym}
use Rattle.study_import.specs.Blocks.{WideRead, entry_seen}
use Rattle.study_import.proofs.WideSpelt.{english_added}
use Rattle.study_import.proofs.wide_block.add_wide_read.Goals as goal

pub returns-in-Ok : goal.returns-in-Ok
returns-in-Ok g c =
    let x : WideRead = record { study = c.in-Ok.game.study; notes = c.in-Ok.game.notes; behind = c.in-Ok.game.behind.now } in
    english_added c.add_wide_aimed.result c.args.out.now c.add_wide_aimed.new.out c.args.setting.now.choice (entry_seen c.args.setting.now.entry) c.args.start.now
    x (sym (rw c.in-Ok.is at c.in_ok-game.ensures)) c.add_wide_aimed.ensures

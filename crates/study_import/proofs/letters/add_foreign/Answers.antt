use Rattle.std.proofs.Common.{length, true, Some}
use Rattle.study_games.specs.Languages.{in_english}
use Rattle.study_import.specs.FewMen.{read_moves}
use Rattle.study_reading.specs.Behind.{to_the_end}
use Rattle.study_import.specs.Blocks.{entry_seen, no_moves, game_read}
use Rattle.study_import.proofs.StoppedBlock.{stopped_again}
use Rattle.study_import.proofs.letters.add_foreign.Goals as goal

pub returns : goal.returns
unfolding game_read
returns g c =
    let text = in_english c.args.language c.args.setting.now.entry.text.now in
    let begun = c.in_ok-game.ensures in
    stopped_again c.add_stopped.result c.args.out.now c.add_stopped.new.out c.args.setting.now.choice (entry_seen c.args.setting.now.entry) c.args.start.now
    (Some c.args.language) c.in-Err.fault (to_the_end (read_moves (length text) true text (no_moves c.args.start.now)))
    (rw c.in_ok-english.ensures at (rw c.as_slice.ensures at (rw c.copied.ensures at (rw begun at c.in-Err.ensures))))
    c.add_stopped.ensures.memory c.add_stopped.ensures.reported

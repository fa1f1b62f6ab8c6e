use Rattle.std.proofs.Common.{length, true, sym, subst, ◌∙◌}
use Rattle.study_games.specs.Header.{tags_of}
use Rattle.study_marks.specs.Study.{plain_study}
use Rattle.study_marks.specs.BenchState.{marked_study}
use Rattle.study_reading.specs.Notes.{game_of}
use Rattle.study_import.specs.FewMen.{Ended, read_moves}
use Rattle.study_reading.specs.Behind.{to_the_end}
use Rattle.study_import.specs.Blocks.{Reported, entry_seen, no_moves, game_read, sourced_block, sources_of}
use Rattle.study_import.specs.BlocksRead.{Adds}
use Rattle.study_import.proofs.StoppedBlock.{reported_is}
use Rattle.study_import.proofs.Spelt.{english_added}
use Rattle.study_import.proofs.letters.add_read.Goals as goal

pub returns-in-Ok : goal.returns-in-Ok
unfolding game_read
returns-in-Ok g c =
    let s = c.read_whole.new.self in
    let choice = c.args.setting.now.choice in
    let e = entry_seen c.args.setting.now.entry in
    let start = c.args.start.now in
    let x : Ended = record {
      game = game_of (plain_study (marked_study s.reading.study.bench)) s.reading.lines.path.items s.reading.lines.begun s.reading.lines.waiting.items
          s.reading.lines.cut s.reading.inserts s.notes;
      behind = c.in-Ok.behind.now;
    } in
    english_added c.add_aimed.result c.args.out.now c.add_aimed.new.out choice e start x
    (rw c.copied.ensures at (rw c.in_ok-game.ensures at c.in-Ok.ensures))
    (subst (λ (t : Reported). Adds c.add_aimed.result c.args.out.now c.add_aimed.new.out
    (sourced_block e start t (sources_of choice.given (tags_of e.text) start.position.to_move t.notes))) c.reported_of-reported.ensures c.add_aimed.ensures)

pub returns : goal.returns
unfolding game_read
returns g c =
    let text = c.args.setting.now.entry.text.now in
    let expected = to_the_end (read_moves (length text) true text (no_moves c.args.start.now)) in
    c.add_unread.ensures
    (reported_is c.in-Err.fault.why expected c.in-Err.fault.left (sym c.is_of_memory.ensures ∙ c.if-is_of_memory.false)
    (rw c.copied.ensures at (rw c.in_ok-game.ensures at c.in-Err.ensures)))

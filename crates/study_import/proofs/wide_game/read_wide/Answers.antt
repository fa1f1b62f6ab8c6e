use Rattle.std.proofs.Common.{ap, ◌∙◌}
use Rattle.study_board.specs.declared.men.Side.TheVariants.{White}
use Rattle.study_marks.specs.declared.stipulation.Goal.TheVariants.{Win}
use Rattle.study_wide_text.specs.declared.start.WideStart.{WideStart}
use Rattle.study_reading.specs.Notes.{game_of}
use Rattle.study_reading.specs.Movetext.{Ended}
use Rattle.study_tails.specs.Study.{WideStudy}
use Rattle.study_tails.specs.Followed.{no_wide_moves}
use Rattle.study_import.proofs.WideReading.{read_whole_is}
use Rattle.study_import.proofs.wide_game.read_wide.Goals as goal

pub returns-in-Ok : goal.returns-in-Ok
returns-in-Ok g c =
    let s = c.read_whole.new.self in
    let x : Ended WideStudy = record {
      game = game_of s.reading.study s.reading.lines.path.items s.reading.lines.begun s.reading.lines.waiting.items s.reading.lines.cut s.reading.inserts s.notes;
      behind = c.in-Ok.behind.now;
    } in
    read_whole_is c.args.text.now c.args.start.now _ x c.study_of.result
    (c.begin_wide_game-game.ensures ∙ ap (λ (t : WideStart). no_wide_moves t (record { hero = White; goal = Win })) c.copied_start.ensures)
    c.in-Ok.ensures c.study_of.ensures

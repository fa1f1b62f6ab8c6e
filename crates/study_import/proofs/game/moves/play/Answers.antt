use Rattle.std.proofs.Common.{◌≡◌, true, refl, sym, subst, ◌∙◌}
use Rattle.study_board.specs.Position.{Position}
use Rattle.study_moves.specs.Rules.{is_legal}
use Rattle.study_marks.specs.Study.{plain_study, position_at}
use Rattle.study_marks.specs.BenchState.{marked_study}
use Rattle.study_import.proofs.Moved.{here, nowhere, at_start, read_at, unread_at, added_legal}
use Rattle.study_import.proofs.game.moves.play.Goals as goal

pub play_move-requires-clause-found : goal.play_move-requires-clause-found
play_move-requires-clause-found g c = here (marked_study c.args.bench.now) c.args.path.now c.in-Some.start (sym c.in-Some.is ∙ c.start_at.ensures)

pub play_move-requires-clause-legal : goal.play_move-requires-clause-legal
play_move-requires-clause-legal g c =
    let at = at_start (marked_study c.args.bench.now) c.args.path.now c.in-Some.start (sym c.in-Some.is ∙ c.start_at.ensures) in
    subst (λ (p : Position). is_legal p c.in-Ok.m ≡ true) at c.in-Ok.ensures.legal

pub returns-in-Ok-clause-comes : goal.returns-in-Ok-clause-comes
returns-in-Ok-clause-comes g c =
    read_at (marked_study c.args.bench.now) c.args.path.now c.args.san.now c.in-Ok.m c.in-Some.start
    (here (marked_study c.args.bench.now) c.args.path.now c.in-Some.start (sym c.in-Some.is ∙ c.start_at.ensures))
    (at_start (marked_study c.args.bench.now) c.args.path.now c.in-Some.start (sym c.in-Some.is ∙ c.start_at.ensures))
    (sym c.in-Ok.is ∙ c.read_san.ensures.value) c.play_move.result (plain_study (marked_study c.play_move.new.bench)) c.play_move.ensures.comes

pub returns-in-Ok-clause-legal : goal.returns-in-Ok-clause-legal
returns-in-Ok-clause-legal g c =
    let at = at_start (marked_study c.args.bench.now) c.args.path.now c.in-Some.start (sym c.in-Some.is ∙ c.start_at.ensures) in
    added_legal c.play_move.result (position_at (marked_study c.args.bench.now) c.args.path.now) c.in-Ok.m
    (subst (λ (p : Position). is_legal p c.in-Ok.m ≡ true) at c.in-Ok.ensures.legal) c.play_move.ensures.added

pub returns-in_default-clause-comes : goal.returns-in_default-clause-comes
returns-in_default-clause-comes g c =
    (nowhere (marked_study c.args.bench.now) c.args.path.now c.args.san.now (sym c.in_default.is ∙ c.start_at.ensures), refl)

pub returns-in-Err-clause-comes : goal.returns-in-Err-clause-comes
returns-in-Err-clause-comes g c = (
  unread_at (marked_study c.args.bench.now) c.args.path.now c.args.san.now c.in-Err.fault c.in-Some.start
      (here (marked_study c.args.bench.now) c.args.path.now c.in-Some.start (sym c.in-Some.is ∙ c.start_at.ensures))
      (at_start (marked_study c.args.bench.now) c.args.path.now c.in-Some.start (sym c.in-Some.is ∙ c.start_at.ensures))
      (sym c.in-Err.is ∙ c.read_san.ensures.value),
  refl,
)

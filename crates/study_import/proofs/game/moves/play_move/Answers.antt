use Rattle.std.proofs.Common.{Bool, true, Err, ap, ◌∙◌}
use Rattle.study_material.specs.declared.class.Class.{Class}
use Rattle.study_moves.specs.Rules.{after}
use Rattle.study_marks.specs.Queries.{asked_at}
use Rattle.study_marks.specs.Study.{plain_study, position_at}
use Rattle.study_marks.specs.BenchState.{marked_study, BenchState}
use Rattle.study_import.proofs.Moved.{moved_new, moved_there, moved_deep, moved_full}
use Rattle.study_import.proofs.game.moves.play_move.Goals as goal

all_held : Class → Bool
all_held c = true

pub returns-in-Ok-clause-comes : goal.returns-in-Ok-clause-comes
unfolding all_held after
returns-in-Ok-clause-comes g c =
    moved_new (marked_study c.args.bench.now) c.args.path.now c.args.m.now all_held
    (asked_at (after (position_at (marked_study c.args.bench.now) c.args.path.now) c.args.m.now)) c.insert.result c.requires.found c.requires.legal
    c.insert.ensures.refusal c.in-Ok.place _ c.in-Ok.is c.in-Ok.ensures.place c.in-Ok.ensures.edited

pub returns-in-Err-AlreadyThere-clause-comes : goal.returns-in-Err-AlreadyThere-clause-comes
unfolding all_held after
returns-in-Err-AlreadyThere-clause-comes g c =
    moved_there (marked_study c.args.bench.now) c.args.path.now c.args.m.now all_held
    (asked_at (after (position_at (marked_study c.args.bench.now) c.args.path.now) c.args.m.now)) c.insert.result c.requires.found c.requires.legal
    c.insert.ensures.refusal c.in-Err-AlreadyThere.place _ (c.in-Err-AlreadyThere.is ∙ ap Err c.in-Err-AlreadyThere.field-0-is)
    (ap (λ (b : BenchState). plain_study (marked_study b)) c.in-Err-AlreadyThere.ensures.same)

pub returns-in-Err-TooDeep-clause-comes : goal.returns-in-Err-TooDeep-clause-comes
unfolding all_held after
returns-in-Err-TooDeep-clause-comes g c = (
  moved_deep (marked_study c.args.bench.now) c.args.path.now c.args.m.now all_held
      (asked_at (after (position_at (marked_study c.args.bench.now) c.args.path.now) c.args.m.now)) c.insert.result c.requires.found c.requires.legal
      c.insert.ensures.refusal (c.in-Err-TooDeep.is ∙ ap Err c.in-Err-TooDeep.field-0-is),
  ap (λ (b : BenchState). plain_study (marked_study b)) c.in-Err-TooDeep.ensures.same,
)

pub returns-in-Err-TreeFull-clause-comes : goal.returns-in-Err-TreeFull-clause-comes
unfolding all_held after
returns-in-Err-TreeFull-clause-comes g c = (
  moved_full (marked_study c.args.bench.now) c.args.path.now c.args.m.now all_held
      (asked_at (after (position_at (marked_study c.args.bench.now) c.args.path.now) c.args.m.now)) c.insert.result c.requires.found c.requires.legal
      c.insert.ensures.refusal (c.in-Err-TreeFull.is ∙ ap Err c.in-Err-TreeFull.field-0-is),
  ap (λ (b : BenchState). plain_study (marked_study b)) c.in-Err-TreeFull.ensures.same,
)

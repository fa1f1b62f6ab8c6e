use Rattle.std.proofs.Common.{sym, ◌∙◌}
use Rattle.study_marks.specs.Study.{position_at}
use Rattle.study_marks.specs.BenchState.{marked_study}
use Rattle.study_import.proofs.Moved.{at_start}
use Rattle.study_import.proofs.Played.{read_nowhere, line_at, legal_at}
use Rattle.study_import.proofs.game.few_men.FewMenFollowed.play.Goals as goal

pub returns-in_default-clause-goes : goal.returns-in_default-clause-goes
returns-in_default-clause-goes g c =
    read_nowhere (marked_study c.args.self.now.bench) c.args.steps.now c.args.san.now c.in_ok-path.path c.in_ok-path.ensures
    (sym c.in_default.is ∙ c.start_at.ensures)

pub add_step-requires : goal.add_step-requires
add_step-requires g c =
    let s = marked_study c.args.self.now.bench in
    legal_at c.in_ok-step.step.added c.in-Some.start.position (position_at s c.in_ok-path.path)
    (at_start s c.in_ok-path.path c.in-Some.start (sym c.in-Some.is ∙ c.start_at.ensures)) c.in_ok-step.ensures.legal

pub returns-clause-inserted : goal.returns-clause-inserted
returns-clause-inserted g c =
    let s = marked_study c.args.self.now.bench in
    line_at s c.args.steps.now c.args.inserts.now c.in_ok-path.path c.in-Some.start c.in_ok-step.step.added c.add_step.new.text c.in_ok-path.ensures
    (at_start s c.in_ok-path.path c.in-Some.start (sym c.in-Some.is ∙ c.start_at.ensures)) c.in_ok-add_step.ensures

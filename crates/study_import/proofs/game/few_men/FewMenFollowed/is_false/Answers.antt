use Rattle.std.proofs.Common.{sym, ◌∙◌}
use Rattle.study_marks.specs.BenchState.{marked_study}
use Rattle.study_import.proofs.Claims.{not_there, claimed}
use Rattle.study_import.proofs.game.few_men.FewMenFollowed.is_false.Goals as goal

pub returns-in-None : goal.returns-in-None
returns-in-None g c =
    not_there (marked_study c.args.self.now.bench) c.args.steps.now c.args.claim c.in_ok-path.path c.in_ok-path.ensures (sym c.in-None.is ∙ c.start_at.ensures)

pub returns : goal.returns
returns g c =
    c.is_false.ensures
    ∙ claimed (marked_study c.args.self.now.bench) c.args.steps.now c.args.claim c.in_ok-path.path c.in-Some.start c.in_ok-path.ensures
    (sym c.in-Some.is ∙ c.start_at.ensures)

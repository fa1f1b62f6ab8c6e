use Rattle.std.proofs.Common.{List, ℕ, ◌++◌, ap, ◌∙◌, sym, append-nil}
use Rattle.study_marks.specs.BenchState.{marked_study}
use Rattle.study_page.proofs.KeyMade.{second_none}
use Rattle.study_page.proofs.sheet.add_second.Goals as goal

pub returns-in-None : goal.returns-in-None
returns-in-None g c =
    sym (append-nil c.args.text.now)
    ∙ ap (λ (t : List ℕ). c.args.text.now ++ t) (sym (second_none (marked_study c.args.bench.now) (sym c.move_to.ensures ∙ c.in-None.is)))

use Rattle.std.proofs.Common.{sym, ap, ◌∙◌}
use Rattle.study_marks.specs.BenchState.{marked_study}
use Rattle.study_review.specs.Review.{waste_line}
use Rattle.study_review.proofs.writing.add_waste.Goals as goal

pub returns : goal.returns
unfolding waste_line
returns g c =
    c.add_waste_words.ensures (marked_study c.args.bench.now) (sym c.stipulation.ensures)
    (sym (c.to_move.ensures ∙ ap (λ x. x.position.to_move) c.start.ensures.value)) (sym c.requires)

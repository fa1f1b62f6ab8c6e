use Rattle.std.proofs.Common.{sym, ap, ◌∙◌}
use Rattle.std.specs.Prelude.{codes}
use Rattle.std.proofs.lemmas.Result.{on_ok_weaker}
use Rattle.study_marks.specs.BenchState.{marked_study}
use Rattle.study_pgn.specs.Pgn.{opening_words}
use Rattle.study_review.specs.Review.{stipulation_line}
use Rattle.study_facts.proofs.TextGrows.{three}
use Rattle.study_review.proofs.writing.add_stipulation_line.Goals as goal

pub returns : goal.returns
unfolding stipulation_line
returns g c =
    let s = marked_study c.args.bench.now in
    on_ok_weaker c.add-2.result
    (three c.args.text.now c.add.new.self c.add_opening_words.new.text c.add-2.new.self (codes "stipulation ") (opening_words s) (codes "\n")
    c.in_ok-add.ensures (c.in_ok-add_opening_words.ensures s (sym c.stipulation.ensures)
    (sym (c.to_move.ensures ∙ ap (λ x. x.position.to_move) c.start.ensures.value)) (sym c.requires)))
    c.add-2.ensures

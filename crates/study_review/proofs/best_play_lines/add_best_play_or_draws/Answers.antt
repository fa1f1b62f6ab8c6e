use Rattle.study_review.proofs.NodesReported.{keep-evaluated}
use Rattle.study_review.proofs.best_play_lines.add_best_play_or_draws.Goals as goal

pub returns-in_ok-add_drawing_moves_line-in-Draw-clause-text : goal.returns-in_ok-add_drawing_moves_line-in-Draw-clause-text
returns-in_ok-add_drawing_moves_line-in-Draw-clause-text g c all h =
    keep-evaluated c.args.steps.now c.args.p.now c.args.evaluated.now c.args.value c.args.text.now c.add_drawing_moves_line.new.text c.in-Draw.is all
    c.in_ok-add_drawing_moves_line-in-Draw.ensures

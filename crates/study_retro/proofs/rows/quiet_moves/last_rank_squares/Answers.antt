use Rattle.study_retro.proofs.RowEscapeLemmas.{on_last_rank}
use Rattle.study_retro.proofs.rows.quiet_moves.last_rank_squares.Goals as goal

pub returns : goal.returns
returns c = λ y ly. rw (
  c.union-2.ensures y,
  c.union.ensures y,
  c.of.ensures y ly,
  c.between.ensures y ly,
  c.of-2.ensures y ly,
  c.at-first.ensures,
  c.at-last.ensures,
  c.last_rank-start.ensures,
) (on_last_rank c.args.side y ly)

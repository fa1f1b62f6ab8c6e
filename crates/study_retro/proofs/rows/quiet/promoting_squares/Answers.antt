use Rattle.study_retro.proofs.RowLemmas.{on_rank}
use Rattle.study_retro.proofs.rows.quiet.promoting_squares.Goals as goal

pub returns : goal.returns
returns c = λ y ly. rw (
  c.union-2.ensures y,
  c.union.ensures y,
  c.of.ensures y ly,
  c.between.ensures y ly,
  c.of-2.ensures y ly,
  c.at-first.ensures,
  c.at-last.ensures,
  c.rank_before_last-start.ensures,
) (on_rank c.args.side y ly)

use Rattle.std.proofs.Common.{arith}
use Rattle.study_retro.specs.Report.{win_of, loss_of}
use Rattle.study_retro.proofs.ReportLemmas.{IsGreatestBelow-none, IsGreatestBelow-more, IsGreatest-below}
use Rattle.study_retro.proofs.builder.greatest_distances.Goals as goal

pub loop-cell-init : goal.loop-cell-init
loop-cell-init c = record { win = IsGreatestBelow-none win_of c.args.cells.now; loss = IsGreatestBelow-none loss_of c.args.cells.now }

pub loop-cell-preserved : goal.loop-cell-preserved
loop-cell-preserved c = record {
  win = IsGreatestBelow-more win_of c.args.cells.now c.loop-cell.cell-index c.loop-cell.deepest.win
      c.with-deepest.result.win c.value_at.result c.value_at.ensures c.with-deepest.ensures.win
      c.loop-cell.invariant.win;
  loss = IsGreatestBelow-more loss_of c.args.cells.now c.loop-cell.cell-index c.loop-cell.deepest.loss
      c.with-deepest.result.loss c.value_at.result c.value_at.ensures c.with-deepest.ensures.loss
      c.loop-cell.invariant.loss;
}

pub returns-clause-win : goal.returns-clause-win
returns-clause-win c = IsGreatest-below win_of c.args.cells.now c.loop-cell.cell-index c.loop-cell.deepest.win (omega arith) c.loop-cell.invariant.win

pub returns-clause-loss : goal.returns-clause-loss
returns-clause-loss c = IsGreatest-below loss_of c.args.cells.now c.loop-cell.cell-index c.loop-cell.deepest.loss (omega arith) c.loop-cell.invariant.loss

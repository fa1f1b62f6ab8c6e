use Rattle.study_retro.specs.Report.{win_of, loss_of}
use Rattle.study_retro.proofs.ReportLemmas.{IsGreatestBelow}
use Rattle.study_retro.proofs.builder.greatest_distances.Given as goal

abbrev pub invariant-loop-cell : goal.invariant-loop-cell
invariant-loop-cell l = record {
  win : IsGreatestBelow win_of l.cells l.cell-index l.deepest.win;
  loss : IsGreatestBelow loss_of l.cells l.cell-index l.deepest.loss;
}

use Rattle.std.proofs.Common.{false}
use Rattle.std.proofs.lemmas.Bool.{false≢true}
use Rattle.study_program.proofs.Kept.{HasRun-both}
use Rattle.study_program.proofs.program.run_over_files.Goals as goal

pub returns : goal.returns
returns g c = HasRun-both _ _ _ _ _ _ _ c.run.ensures.shape c.run.ensures.fits (c.run.ensures.outcome (λ d. false) (λ d is. absurd (false≢true is)))

use Rattle.std.proofs.Common.{List, ℕ, take, ap, ◌∙◌}
use Rattle.study_prober.proofs.Cells.{cells_of_text}
use Rattle.study_prober.proofs.Faults.{passed_on}
use Rattle.study_prober.proofs.open_table.OpenTable.cells.Goals as goal

pub returns-in_err-page-clause-whole : goal.returns-in_err-page-clause-whole
returns-in_err-page-clause-whole g c = λ t honest same complete d n reported. c.in_err-page.ensures.whole t honest same
    complete d n (passed_on c.from_residual.result _ _ c.from_residual.ensures.1 reported)

pub returns-clause-ok : goal.returns-clause-ok
returns-clause-ok g c = λ t honest same.
    c.copy_front.ensures ∙ ap (λ (bytes : List ℕ). take 4096 bytes) (c.in_ok-page.ensures.ok t honest same)
    ∙ cells_of_text t c.args.self.now.header.version c.args.number

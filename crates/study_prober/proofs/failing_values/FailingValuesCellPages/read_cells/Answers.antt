use Rattle.std.proofs.Common.{◌≡◌, false, sym, ◌∙◌}
use Rattle.study_values.specs.declared.fault.SourceFault.TheVariants.{Device}
use Rattle.study_prober.proofs.ReadPages.{no-table-by, no-table-failed}
use Rattle.study_prober.proofs.failing_values.FailingValuesCellPages.read_cells.Goals as goal
use Rattle.study_prober.proofs.failing_values.FailingValuesCellPages.read_cells.Goals.{then-eq+then-holds, else-eq}

pub returns-clause-no_table : goal.returns-clause-no_table
returns-clause-no_table g c = λ d.
    let held = g.V.Values.source.held c.args.self.now.values c.args.class in
    elim c.if-eq.branch [
      | then-eq+then-holds w ↦ no-table-by c.if-eq.answer _ d ((d ≡ c.args.class) × (held ≡ false)) w.answer-is
          (no-table-failed held c.args.class d Device (sym w.holds.ensures ∙ w.if-holds.true))
      | else-eq w ↦ no-table-by c.if-eq.answer _ d ((d ≡ c.args.class) × (held ≡ false)) w.answer-is (w.read_cells-answer.ensures.no_table d)
    ]

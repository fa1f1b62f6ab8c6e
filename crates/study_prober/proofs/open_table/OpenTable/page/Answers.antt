use Rattle.std.proofs.Common.{sym, ◌∙◌}
use Rattle.std.proofs.lemmas.Bool.{false≢true}
use Rattle.study_prober.proofs.Cells.{whole_read}
use Rattle.study_prober.proofs.open_table.OpenTable.page.Goals as goal

pub returns-else-page_cells-clause-whole : goal.returns-else-page_cells-clause-whole
returns-else-page_cells-clause-whole g c = λ t honest same complete d n reported.
    let number = c.requires.number in
    absurd
    (false≢true (sym (sym c.page_cells.ensures ∙ c.if-page_cells.false) ∙ whole_read t c.args.self.now.header
    c.args.number c.page.new.into c.requires.header same complete
    (c.in_ok-page.ensures.ok t c.args.self.now.header.version honest (rw same number))))

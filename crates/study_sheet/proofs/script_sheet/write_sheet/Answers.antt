use Rattle.std.proofs.Common.{sym, ◌∙◌}
use Rattle.study_script.specs.SessionHolds.{are_paged}
use Rattle.study_report.specs.Outcome.{over_tables}
use Rattle.study_print.proofs.FileWritten.{where_ok}
use Rattle.study_sheet.proofs.SheetWritten.{whole_sheet, sheet_shape, sheet_fits}
use Rattle.study_sheet.proofs.script_sheet.write_sheet.Goals as goal

pub returns-clause-sheet : goal.returns-clause-sheet
returns-clause-sheet g c = λ classes right held.
    let ran = c.write_report-ran in
    whole_sheet (g.R.Read.remaining ran.new.script) (g.W.Write.contents c.args.out.now) (g.W.Write.contents c.write_sheet_opening.new.out)
    (g.W.Write.contents ran.new.out) (g.W.Write.contents c.write_end.new.out) c.write_end.result (over_tables classes (are_paged c.args.tables))
    (g.R.Read.remaining c.args.script.now) ran.result
    (where_ok c.write_sheet_opening.result _ (sym c.is_err.ensures.value ∙ c.if-is_err.false) c.write_sheet_opening.ensures.ok)
    (ran.ensures.outcome classes right held) c.write_end.ensures

pub returns-clause-shape : goal.returns-clause-shape
returns-clause-shape g c =
    let ran = c.write_report-ran in
    sheet_shape (g.R.Read.remaining ran.new.script) (g.W.Write.contents ran.new.out) (g.W.Write.contents c.write_end.new.out)
    (g.R.Read.remaining c.args.script.now) ran.result c.write_end.result ran.ensures.shape c.write_end.ensures

pub returns-clause-fits : goal.returns-clause-fits
returns-clause-fits g c =
    let ran = c.write_report-ran in
    sheet_fits (g.R.Read.remaining ran.new.script) (g.W.Write.contents c.args.out.now) (g.W.Write.contents c.write_sheet_opening.new.out)
    (g.W.Write.contents ran.new.out) (g.W.Write.contents c.write_end.new.out) c.write_end.result (g.R.Read.remaining c.args.script.now) ran.result
    (where_ok c.write_sheet_opening.result _ (sym c.is_err.ensures.value ∙ c.if-is_err.false) c.write_sheet_opening.ensures.ok)
    ran.ensures.fits c.write_end.ensures

use Rattle.std.proofs.Common.{[], sym, ◌∙◌, subst}
use Rattle.study_html.specs.Markup.{IsWellNested}
use Rattle.study_print.proofs.FileWritten.{where_ok, whole_file, whole_fits}
use Rattle.study_print.proofs.FileNested as nested
use Rattle.study_print.proofs.script_pages.write_pages_over.Goals as goal

pub returns-clause-file : goal.returns-clause-file
returns-clause-file g c first holds =
    let ran = c.write_report_over-ran in
    whole_file first (g.R.Read.remaining ran.new.script) (g.W.Write.contents c.args.out.now)
    (g.W.Write.contents c.write_opening.new.out) (g.W.Write.contents ran.new.out) (g.W.Write.contents c.write_ending.new.out)
    c.write_ending.result ran.new.report.count ran.new.report.rows (g.R.Read.remaining c.args.script.now) ran.result
    (where_ok c.write_opening.result _ (sym c.is_err.ensures.value ∙ c.if-is_err.false) c.write_opening.ensures.ok)
    (ran.ensures.outcome first holds) (ran.ensures.listed first [] holds (c.new-pages.ensures.count, c.new-pages.ensures.rows))
    (ran.ensures.listed_before first [] holds (c.new-pages.ensures.count, c.new-pages.ensures.rows))
    c.write_ending.ensures

pub returns-clause-fits : goal.returns-clause-fits
returns-clause-fits g c =
    let ran = c.write_report_over-ran in
    whole_fits (g.R.Read.remaining ran.new.script) (g.W.Write.contents c.args.out.now)
    (g.W.Write.contents c.write_opening.new.out) (g.W.Write.contents ran.new.out) (g.W.Write.contents c.write_ending.new.out)
    c.write_ending.result ran.new.report.count ran.new.report.rows (g.R.Read.remaining c.args.script.now) ran.result
    (where_ok c.write_opening.result _ (sym c.is_err.ensures.value ∙ c.if-is_err.false) c.write_opening.ensures.ok)
    ran.ensures.fits c.write_ending.ensures

pub returns-clause-whole : goal.returns-clause-whole
returns-clause-whole g c =
    let ran = c.write_report_over-ran in
    nested.whole_file (g.W.Write.contents c.args.out.now) (g.W.Write.contents c.write_opening.new.out) (g.W.Write.contents ran.new.out)
    (g.W.Write.contents c.write_ending.new.out) ran.new.report.count ran.new.report.rows
    (subst IsWellNested c.as_slice-rows.ensures.text c.as_slice-rows.ensures.nested)
    (g.R.Read.remaining ran.new.script) (g.R.Read.remaining c.args.script.now) ran.result c.write_ending.result
    (where_ok c.write_opening.result _ (sym c.is_err.ensures.value ∙ c.if-is_err.false) c.write_opening.ensures.ok)
    ran.ensures.fits c.write_ending.ensures

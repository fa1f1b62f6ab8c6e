use Rattle.std.proofs.Common.{sym, ◌∙◌}
use Rattle.study_script.specs.SessionHolds.{are_paged}
use Rattle.study_report.specs.Outcome.{over_tables}
use Rattle.study_print.proofs.FileWritten.{where_ok}
use Rattle.study_list.proofs.ListWritten.{whole_list, list_shape, list_fits}
use Rattle.study_list.proofs.script_list.write_list.Goals as goal

pub returns-clause-list : goal.returns-clause-list
returns-clause-list g c = λ classes right held.
    let ran = c.write_report in
    whole_list (g.R.Read.remaining ran.new.script) (g.W.Write.contents c.args.out.now) (g.W.Write.contents c.write_head_record.new.out)
    (g.W.Write.contents ran.new.out) ran.result (over_tables classes (are_paged c.args.tables)) (g.R.Read.remaining c.args.script.now)
    (where_ok c.write_head_record.result _ (sym c.is_err.ensures.value ∙ c.if-is_err.false) c.write_head_record.ensures.ok)
    (ran.ensures.outcome classes right held)

pub returns-clause-shape : goal.returns-clause-shape
returns-clause-shape g c =
    let ran = c.write_report in
    list_shape (g.R.Read.remaining ran.new.script) (g.R.Read.remaining c.args.script.now) ran.result ran.ensures.shape

pub returns-clause-fits : goal.returns-clause-fits
returns-clause-fits g c =
    let ran = c.write_report in
    list_fits (g.R.Read.remaining ran.new.script) (g.W.Write.contents c.args.out.now) (g.W.Write.contents c.write_head_record.new.out)
    (g.W.Write.contents ran.new.out) ran.result (g.R.Read.remaining c.args.script.now)
    (where_ok c.write_head_record.result _ (sym c.is_err.ensures.value ∙ c.if-is_err.false) c.write_head_record.ensures.ok)
    ran.ensures.fits

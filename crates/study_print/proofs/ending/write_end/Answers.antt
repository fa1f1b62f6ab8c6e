use Rattle.std.proofs.Common.{rules}
use Rattle.study_text.proofs.TextTaken.{TakesPrefix-first, TakesPrefix-second}
use Rattle.study_html.specs.Frame.{page_closing}
use Rattle.study_print.specs.Pages.{summary_text}
use Rattle.study_print.proofs.ending.write_end.Goals as goal

pub returns-in_err-write_entries-clause-device : goal.returns-in_err-write_entries-clause-device
returns-in_err-write_entries-clause-device g c h =
    TakesPrefix-first (g.W.Write.contents c.args.out.now) (g.W.Write.contents c.write_entries.new.out)
    (summary_text c.args.count c.args.rows.now) page_closing (c.in_err-write_entries.ensures.device (search rules))

pub returns-in-Err-clause-device : goal.returns-in-Err-clause-device
returns-in-Err-clause-device g c h =
    TakesPrefix-second (g.W.Write.contents c.args.out.now) (g.W.Write.contents c.write_entries.new.out)
    (g.W.Write.contents c.write_closing.new.out) (summary_text c.args.count c.args.rows.now) page_closing
    c.in_ok-write_entries.ensures.ok c.in-Err.ensures.prefix

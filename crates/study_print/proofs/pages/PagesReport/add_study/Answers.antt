use Rattle.std.proofs.Common.{refl, rules}
use Rattle.study_marks.specs.BenchState.{marked_study}
use Rattle.study_marks.specs.Study.{plain_study}
use Rattle.study_report.specs.Reported.{study_entry}
use Rattle.study_print.proofs.EntriesGrow.{entries_after}
use Rattle.study_print.proofs.PageReported.{reported_plain}
use Rattle.study_print.proofs.pages.PagesReport.add_study.Goals as goal

pub returns-in_err-rows-clause-device : goal.returns-in_err-rows-clause-device
returns-in_err-rows-clause-device g c honest right h =
    reported_plain c.args.bench.now c.args.info (g.W.Write.contents c.args.out.now) (g.W.Write.contents c.write_page.new.out) right
    (c.in_err-rows.ensures.device honest (search rules))

pub returns-clause-listed : goal.returns-clause-listed
returns-clause-listed g c reported honest right listed =
    let next = c.next-self in
    let s = marked_study c.args.bench.now in
    let row = c.in_ok-rows.ensures.rows honest in
    entries_after reported c.args.self.now.count next.result c.args.self.now.rows c.in_ok-rows.rows (study_entry (plain_study s) c.args.info) listed
    (row.0, (s, refl, right.marks, row.1), row.2) next.ensures.nothing next.ensures.one next.ensures.several

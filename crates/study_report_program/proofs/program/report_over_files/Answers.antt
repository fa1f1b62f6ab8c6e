use Rattle.std.specs.Prelude.{codes}
use Rattle.study_material.specs.Class.{class_list}
use Rattle.study_report_program.proofs.FormShapes.{none_reported, lines_reported, pages_reported, sheet_reported, list_reported}
use Rattle.study_program.proofs.ErrorsWritten.{no_faults}
use Rattle.study_report_program.proofs.program.report_over_files.Goals as goal

pub returns-in_default-clause-reported : goal.returns-in_default-clause-reported
returns-in_default-clause-reported g c = none_reported _ _ _ _

pub returns-in_default-clause-faults : goal.returns-in_default-clause-faults
returns-in_default-clause-faults g c quiet = no_faults (codes "studyreport") class_list _

pub returns-in_default-new-clause-reported : goal.returns-in_default-new-clause-reported
returns-in_default-new-clause-reported g c = none_reported _ _ _ _

pub returns-in_default-new-clause-faults : goal.returns-in_default-new-clause-faults
returns-in_default-new-clause-faults g c quiet = no_faults (codes "studyreport") class_list _

pub returns-in-Lines-clause-reported : goal.returns-in-Lines-clause-reported
returns-in-Lines-clause-reported g c = rw c.in-Lines.is (lines_reported _ _ _ _ _ c.write_report.ensures.shape c.write_report.ensures.fits)

pub returns-in-Sheet-clause-reported : goal.returns-in-Sheet-clause-reported
returns-in-Sheet-clause-reported g c = rw c.in-Sheet.is (sheet_reported _ _ _ _ _ c.write_sheet.ensures.shape c.write_sheet.ensures.fits)

pub returns-in-List-clause-reported : goal.returns-in-List-clause-reported
returns-in-List-clause-reported g c = rw c.in-List.is (list_reported _ _ _ _ _ c.write_list.ensures.shape c.write_list.ensures.fits)

pub returns-in-Pages-clause-reported : goal.returns-in-Pages-clause-reported
returns-in-Pages-clause-reported g c =
    rw c.in-Pages.is (pages_reported _ _ _ _ _ c.write_pages.ensures.shape c.write_pages.ensures.fits)

pub returns-clause-reported : goal.returns-clause-reported
returns-clause-reported g c =
    rw c.in-Pages-2.is (pages_reported _ _ _ _ _ c.write_pages-in-Pages-2.ensures.shape c.write_pages-in-Pages-2.ensures.fits)

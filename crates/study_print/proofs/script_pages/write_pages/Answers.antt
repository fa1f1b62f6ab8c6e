use Rattle.std.proofs.Common.{refl}
use Rattle.study_script.specs.SessionHolds.{are_paged}
use Rattle.study_report.specs.Outcome.{over_tables}
use Rattle.study_print.proofs.script_pages.write_pages.Goals as goal

pub returns-clause-file : goal.returns-clause-file
returns-clause-file g c = λ classes right held. c.write_pages_over.ensures.file (over_tables classes (are_paged c.args.tables)) (record {
  held =
      record {
        document = refl;
        marks = tt;
        values = right;
        classes = held;
        paged = refl;
        faults = λ d f m. refl;
      };
  seen = record {
    is_honest = λ d is. absurd cc;
    known = record { files_known = λ d. refl; headers_known = λ d. refl; faults_known = λ d f. refl };
  };
})

use Rattle.std.proofs.Common.{refl}
use Rattle.study_report.specs.Outcome.{over_tables}
use Rattle.study_script.specs.SessionHolds.{are_paged}
use Rattle.study_report.proofs.script_report.write_report.Goals as goal

pub returns-clause-outcome : goal.returns-clause-outcome
returns-clause-outcome g c = λ classes right held. c.write_report_over.ensures.outcome (over_tables classes (are_paged c.args.tables)) (record {
  held =
      record {
        document = refl;
        marks = tt;
        values = right;
        classes = held;
        paged = refl;
        faults = λ d f m. refl;
      };
  seen = record {
    is_honest = λ d is. absurd cc;
    known = record { files_known = λ d. refl; headers_known = λ d. refl; faults_known = λ d f. refl };
  };
})

pub returns-clause-listed : goal.returns-clause-listed
returns-clause-listed g c = λ classes reported right held kept. c.write_report_over.ensures.listed
    (over_tables classes (are_paged c.args.tables)) reported (record {
      held =
          record {
            document = refl;
            marks = tt;
            values = right;
            classes = held;
            paged = refl;
            faults = λ d f m. refl;
          };
      seen = record {
        is_honest = λ d is. absurd cc;
        known = record { files_known = λ d. refl; headers_known = λ d. refl; faults_known = λ d f. refl };
      };
    }) kept

pub returns-clause-listed_before : goal.returns-clause-listed_before
returns-clause-listed_before g c = λ classes reported right held kept. c.write_report_over.ensures.listed_before
    (over_tables classes (are_paged c.args.tables))
    reported (record {
      held =
          record {
            document = refl;
            marks = tt;
            values = right;
            classes = held;
            paged = refl;
            faults = λ d f m. refl;
          };
      seen = record {
        is_honest = λ d is. absurd cc;
        known = record { files_known = λ d. refl; headers_known = λ d. refl; faults_known = λ d f. refl };
      };
    }) kept

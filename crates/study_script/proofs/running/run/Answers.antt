use Rattle.std.proofs.Common.{is_some, refl}
use Rattle.study_script.specs.Outcome.{initial_state}
use Rattle.study_script.specs.Stores.{shelf_of}
use Rattle.study_script.proofs.TablesFaults.{none_fails}
use Rattle.study_script.proofs.running.run.Goals as goal

pub returns-clause-outcome : goal.returns-clause-outcome
returns-clause-outcome g c =
    λ trusted honest. c.run_session.ensures.outcome trusted c.args.settings.separate
    (initial_state (shelf_of g.S.TableStore.files g.S.TableStore.headers g.S.TableStore.faults c.args.store.now)
    (is_some c.args.settings.pages)) (
      refl,
      record {
        held =
            record {
              document = refl;
              marks = tt;
              values = c.in-Ok-empty_tables.ensures.none.values;
              classes = c.in-Ok-empty_tables.ensures.none.none;
              paged = c.in-Ok-empty_tables.ensures.mode;
              faults = λ d f m. absurd (none_fails g.S.Pages.PageSource.gives c.in-Ok-empty_tables.tables d f (c.in-Ok-empty_tables.ensures.none.none d) m);
            };
        seen = record { is_honest = honest; known = record { files_known = λ _. refl; headers_known = λ _. refl; faults_known = λ _ _. refl } };
      },
    )

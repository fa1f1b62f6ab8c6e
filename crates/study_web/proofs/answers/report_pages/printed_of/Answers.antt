use Rattle.std.proofs.Common.{Bool, true, ℕ, List, Some, is_some, filter, refl, subst, sym, ◌∙◌}
use Rattle.study_material.specs.declared.class.Class.{Class}
use Rattle.study_material.specs.Class.{class_list}
use Rattle.study_prober.specs.PagedTables.{held_of}
use Rattle.study_print.specs.Pages.{IsFile}
use Rattle.study_script.specs.State.{StoreKnowledge}
use Rattle.study_web.specs.Answers.{IsFileOver}
use Rattle.study_web.specs.Views.{OverStore, over_files}
use Rattle.study_web.proofs.Opening.{among_chosen}
use Rattle.study_web.proofs.Unread.{own_as}
use Rattle.study_web.proofs.answers.report_pages.printed_of.Goals as goal

pub returns-in-Ok-clause-file : goal.returns-in-Ok-clause-file
returns-in-Ok-clause-file g c =
    let run = c.write_pages_over-summary in
    let headers = g.S.TableStore.headers c.args.store.now in
    let faults = g.S.TableStore.faults c.args.store.now in
    own_as (λ text summary. ((d : Class) → g.S.TableStore.honest c.args.store.now true d)
    → OverStore headers faults (IsFileOver c.args.script.now text summary))
    c.own_end.result.text.items run.new.out.items run.result c.own_end.result.summary
    (λ right.
    let chosen : Class → Bool = λ d. is_some (held_of c.in-Ok.tables.sources d) in
    let classes = filter chosen class_list in
    let store = c.open_tables.new.store in
    let shelf : StoreKnowledge = record { files = g.S.TableStore.files store; headers = g.S.TableStore.headers store; faults = g.S.TableStore.faults store } in
    let same = c.open_tables.ensures.faults in
    let file = run.ensures.file (over_files classes shelf) (record {
      held = record {
        document = refl;
        marks = tt;
        values = c.in-Ok.ensures.right right;
        classes = λ d. sym (among_chosen chosen d);
        paged = refl;
        faults = λ d f m. same d f ∙ c.in-Ok.ensures.fails d f m;
      };
      seen = record {
        is_honest = λ d is. absurd cc;
        known = record { files_known = λ d. refl; headers_known = λ d. refl; faults_known = λ d f. refl };
      };
    }) in (
      classes,
      λ d. rw (among_chosen chosen d) (c.in-Ok.ensures.held d),
      shelf,
      same,
      (
        Some run.new.script.now,
        subst (λ (t : List ℕ). IsFile (over_files classes shelf) c.args.script.now (Some run.new.script.now) (Some t) (Some run.new.out.items) run.result)
            c.new-text.ensures.items file,
      ),
    ))
    c.own_end.ensures.ended

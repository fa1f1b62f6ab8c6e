use Rattle.std.proofs.Common.{Bool, Some, is_some, filter, refl, sym, ◌∙◌}
use Rattle.study_material.specs.declared.class.Class.{Class}
use Rattle.study_material.specs.Class.{class_list}
use Rattle.study_prober.specs.PagedTables.{held_of}
use Rattle.study_script.specs.State.{StoreKnowledge}
use Rattle.study_web.specs.Views.{over_files}
use Rattle.study_web.proofs.Opening.{among_chosen}
use Rattle.study_web.proofs.Unread.{own_review}
use Rattle.study_web.proofs.answers.script.review_of.Goals as goal

pub returns-in-Ok-clause-review : goal.returns-in-Ok-clause-review
returns-in-Ok-clause-review g c = λ right.
    let chosen : Class → Bool = λ d. is_some (held_of c.in-Ok.tables.sources d) in
    let classes = filter chosen class_list in
    let store = c.open_tables.new.store in
    let shelf : StoreKnowledge = record { files = g.S.TableStore.files store; headers = g.S.TableStore.headers store; faults = g.S.TableStore.faults store } in
    let same = c.open_tables.ensures.faults in
    let reported = c.write_report_over-summary.ensures.outcome (over_files classes shelf) (record {
      held = record {
        document = refl;
        marks = tt;
        values = c.in-Ok.ensures.right right;
        classes = λ d. sym (among_chosen chosen d);
        paged = refl;
        faults = λ d f m. same d f ∙ c.in-Ok.ensures.fails d f m;
      };
      seen = record {
        is_honest = λ d is. absurd cc;
        known = record { files_known = λ d. refl; headers_known = λ d. refl; faults_known = λ d f. refl };
      };
    }) in (
      classes,
      λ d. rw (among_chosen chosen d) (c.in-Ok.ensures.held d),
      shelf,
      same,
      own_review (over_files classes shelf) c.args.script.now c.own_end.result.text.items c.write_report_over-summary.new.out.items
          (Some c.write_report_over-summary.new.script.now) c.write_report_over-summary.result c.own_end.result.summary
          (rw c.new-text.ensures.items at reported)
          c.own_end.ensures.ended,
    )

use Rattle.std.proofs.Common.{◌≡◌, true}
use Rattle.study_marks.specs.Queries.{asked_at}
use Rattle.study_reply.specs.Words.{stipulation_words}
use Rattle.study_script.specs.State.{quiet}
use Rattle.study_script.specs.SessionHolds.{tables_held, tables_source, are_paged}
use Rattle.study_script.specs.Replies.{with_study}
use Rattle.study_command.specs.Documents.{new_study}
use Rattle.study_script.proofs.AskingEdits.{refused_asking, accepted_outside}
use Rattle.study_script.proofs.Documents.{study_made, document_same}
use Rattle.study_script.proofs.TablesFaults.{failing_known}
use Rattle.std.proofs.Common.{Some, ap, sym}
use Rattle.study_command.specs.Documents.{study}
use Rattle.study_script.proofs.position_commands.make_study.Goals as goal

pub returns-in-Ok-clause-done : goal.returns-in-Ok-clause-done
returns-in-Ok-clause-done g c = λ s h.
    let new = new_study c.args.start c.args.stipulation.now in
    let tables = c.args.tables.now in (
      quiet,
      with_study s new,
      accepted_outside s (tables_held tables) (asked_at c.args.start.position) new (stipulation_words c.args.stipulation.now) h.classes
          c.in-Ok.ensures.found,
      study_made g.P.PageSource.honest g.P.PageSource.gives
          c.args.document.now c.in-Ok.bench tables c.new_bench.new.tables s new h c.in-Ok.ensures.made (c.in-Ok.ensures.right h.values)
          (c.new_bench.ensures.honest h.values) c.new_bench.ensures.tables c.new_bench.ensures.mode c.new_bench.ensures.fails_as_before,
    )

pub returns-in-Err-clause-done : goal.returns-in-Err-clause-done
returns-in-Err-clause-done g c = λ s h.
    let asked = asked_at c.args.start.position in
    let new = new_study c.args.start c.args.stipulation.now in
    let tables = c.args.tables.now in
    let reported = refused_asking g.row.A.Denot s (tables_held tables) (are_paged tables) asked new (stipulation_words c.args.stipulation.now)
    c.in-Err.refusal h.classes h.paged c.in-Err.ensures.refusal c.in-Err.ensures.device
    (c.in-Err.ensures.no_damage h.values) c.in-Err.ensures.takes_no_memory
    (failing_known (tables_source g.P.PageSource.honest g.P.PageSource.gives)
    (λ d f. s.shelf.faults d f ≡ true) tables c.new_bench.new.tables asked c.in-Err.refusal h.faults c.in-Err.ensures.first) in (
      reported.0,
      s,
      reported.1,
      document_same g.P.PageSource.honest g.P.PageSource.gives c.args.document.now tables c.new_bench.new.tables s h (c.new_bench.ensures.honest h.values)
          c.new_bench.ensures.tables c.new_bench.ensures.mode c.new_bench.ensures.fails_as_before,
    )

pub returns-in-Ok-clause-document : goal.returns-in-Ok-clause-document
returns-in-Ok-clause-document g c = ap (λ s. Some (study s)) (sym c.in-Ok.ensures.made)

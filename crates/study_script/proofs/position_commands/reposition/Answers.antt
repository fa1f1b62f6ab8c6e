use Rattle.std.proofs.Common.{◌≡◌, true}
use Rattle.std.specs.Prelude.{codes}
use Rattle.study_notation.specs.FenSpelling.{fen_text}
use Rattle.study_marks.specs.Study.{plain_study}
use Rattle.study_marks.specs.BenchState.{marked_study}
use Rattle.study_marks.specs.Queries.{asked_at}
use Rattle.study_marks.specs.Edits.{with_position}
use Rattle.study_reply.specs.Words.{reply_line}
use Rattle.study_script.specs.State.{quiet}
use Rattle.study_script.specs.SessionHolds.{tables_held, tables_source, are_paged}
use Rattle.study_script.specs.Replies.{with_study}
use Rattle.study_script.proofs.AskingEdits.{refused_asking, accepted_outside}
use Rattle.study_script.proofs.HeldBehindReplies.{study_edited, study_same}
use Rattle.study_script.proofs.TablesFaults.{failing_known}
use Rattle.std.proofs.Common.{Some, ap, sym}
use Rattle.study_command.specs.Documents.{study}
use Rattle.study_script.specs.SessionHolds.{bench_seen}
use Rattle.study_script.proofs.position_commands.reposition.Goals as goal

pub returns-in-Ok-clause-done : goal.returns-in-Ok-clause-done
returns-in-Ok-clause-done g c = λ s h.
    let start = c.copied.result in
    let new = with_position (plain_study (marked_study c.args.bench.now)) start in
    let tables = c.args.tables.now in
    rw (← c.copied.ensures) (
      quiet,
      with_study s new,
      accepted_outside s (tables_held tables) (asked_at start.position) new (reply_line (codes "position ") (fen_text start)) h.classes c.in-Ok.ensures.found,
      study_edited g.P.PageSource.honest g.P.PageSource.gives c.args.bench.now c.set_position.new.bench tables c.set_position.new.tables
          s new h c.in-Ok.ensures.edited (c.in-Ok.ensures.right h.values) (c.set_position.ensures.honest h.values)
          c.set_position.ensures.tables c.set_position.ensures.mode c.set_position.ensures.fails_as_before,
    )

pub returns-in-Err-clause-done : goal.returns-in-Err-clause-done
returns-in-Err-clause-done g c = λ s h.
    let start = c.copied.result in
    let new = with_position (plain_study (marked_study c.args.bench.now)) start in
    let asked = asked_at start.position in
    let tables = c.args.tables.now in
    let out = refused_asking g.row.A.Denot s (tables_held tables) (are_paged tables) asked new (reply_line (codes "position ") (fen_text start))
    c.in-Err.refusal h.classes h.paged c.in-Err.ensures.refusal c.in-Err.ensures.device
    (c.in-Err.ensures.no_damage h.values) c.in-Err.ensures.takes_no_memory
    (failing_known (tables_source g.P.PageSource.honest g.P.PageSource.gives)
    (λ d f. s.shelf.faults d f ≡ true) tables c.set_position.new.tables asked c.in-Err.refusal h.faults c.in-Err.ensures.first) in rw (← c.copied.ensures) (
      out.0,
      s,
      out.1,
      study_same g.P.PageSource.honest g.P.PageSource.gives c.args.bench.now c.set_position.new.bench tables c.set_position.new.tables s
          h c.in-Err.ensures.same (c.set_position.ensures.honest h.values) c.set_position.ensures.tables
          c.set_position.ensures.mode c.set_position.ensures.fails_as_before,
    )

pub returns-in-Ok-clause-document : goal.returns-in-Ok-clause-document
returns-in-Ok-clause-document g c = rw (← c.copied.ensures) (ap (λ s. Some (study s)) (sym c.in-Ok.ensures.edited))

pub returns-in-Err-clause-document : goal.returns-in-Err-clause-document
returns-in-Err-clause-document g c = ap bench_seen c.in-Err.ensures.same

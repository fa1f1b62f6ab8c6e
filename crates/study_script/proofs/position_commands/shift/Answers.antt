use Rattle.std.proofs.Common.{◌≡◌, true, sym, subst}
use Rattle.std.specs.Prelude.{codes}
use Rattle.study_notation.specs.FenSpelling.{fen_text}
use Rattle.study_marks.specs.Study.{plain_study}
use Rattle.study_marks.specs.BenchState.{marked_study}
use Rattle.study_marks.specs.Queries.{positions_asked}
use Rattle.study_marks.specs.Edits.{with_start}
use Rattle.study_reply.specs.Words.{reply_line}
use Rattle.study_script.specs.State.{quiet}
use Rattle.study_script.specs.SessionHolds.{tables_held, tables_source, are_paged}
use Rattle.study_script.specs.Replies.{accepted_reply, with_study, IsShiftReply}
use Rattle.study_script.proofs.AskingEdits.{accepted_outside}
use Rattle.study_script.proofs.ShiftReplies.{unbroken, shift_refused}
use Rattle.study_script.proofs.HeldBehindReplies.{study_edited, study_same}
use Rattle.study_script.proofs.TablesFaults.{failing_known}
use Rattle.std.proofs.Common.{ap}
use Rattle.study_marks.specs.Edits.{shift_refusal}
use Rattle.study_script.specs.SessionHolds.{bench_seen}
use Rattle.study_script.proofs.DocumentsLeft.{ruled_after}
use Rattle.study_script.proofs.position_commands.shift.Goals as goal

pub returns-in-Ok-clause-done : goal.returns-in-Ok-clause-done
returns-in-Ok-clause-done g c = λ s h.
    let start = c.copied.result in
    let old = plain_study (marked_study c.args.bench.now) in
    let new = with_start old start in
    let said = reply_line (codes "shift ") (fen_text start) in
    let tables = c.args.tables.now in rw (← c.copied.ensures) (
      quiet,
      with_study s new,
      subst (λ x. IsShiftReply s quiet old start x (accepted_reply (with_study s new) said))
          (sym (unbroken (Unit {0}) (marked_study c.args.bench.now) start c.in-Ok.ensures.broken))
          (accepted_outside s (tables_held tables) (positions_asked new) new said h.classes c.in-Ok.ensures.found),
      study_edited g.P.PageSource.honest g.P.PageSource.gives c.args.bench.now c.shift_position.new.bench tables
          c.shift_position.new.tables s new h c.in-Ok.ensures.edited (c.in-Ok.ensures.right h.values)
          (c.shift_position.ensures.honest h.values) c.shift_position.ensures.tables c.shift_position.ensures.mode c.shift_position.ensures.fails_as_before,
    )

pub returns-in-Err-clause-done : goal.returns-in-Err-clause-done
returns-in-Err-clause-done g c = λ s h.
    let start = c.copied.result in
    let old = plain_study (marked_study c.args.bench.now) in
    let asked = positions_asked (with_start old start) in
    let tables = c.args.tables.now in
    let out = shift_refused g.row.A.Denot s (tables_held tables) (are_paged tables) old start c.in-Err.refusal
    h.classes h.paged c.in-Err.ensures.refusal c.in-Err.ensures.device (c.in-Err.ensures.no_damage h.values)
    (failing_known (tables_source g.P.PageSource.honest g.P.PageSource.gives)
    (λ d f. s.shelf.faults d f ≡ true) tables c.shift_position.new.tables asked c.in-Err.refusal h.faults c.in-Err.ensures.first) in rw (← c.copied.ensures) (
      out.0,
      s,
      out.1,
      study_same g.P.PageSource.honest g.P.PageSource.gives c.args.bench.now c.shift_position.new.bench tables
          c.shift_position.new.tables s h c.in-Err.ensures.same (c.shift_position.ensures.honest h.values)
          c.shift_position.ensures.tables c.shift_position.ensures.mode c.shift_position.ensures.fails_as_before,
    )

pub returns-in-Ok-clause-document : goal.returns-in-Ok-clause-document
returns-in-Ok-clause-document g c =
    let start = c.copied.result in
    let old = plain_study (marked_study c.args.bench.now) in
    rw (← c.copied.ensures) (ruled_after (shift_refusal old start) (with_start old start) (plain_study (marked_study c.shift_position.new.bench))
    (unbroken (Unit {0}) (marked_study c.args.bench.now) start c.in-Ok.ensures.broken) c.in-Ok.ensures.edited)

pub returns-in-Err-clause-document : goal.returns-in-Err-clause-document
returns-in-Err-clause-document g c = ap bench_seen c.in-Err.ensures.same

use Rattle.std.specs.Prelude.{codes}
use Rattle.study_marks.specs.Study.{plain_study}
use Rattle.study_marks.specs.BenchState.{marked_study}
use Rattle.study_marks.specs.Edits.{with_promotion, promote_refusal}
use Rattle.study_text.specs.Paths.{path_text}
use Rattle.study_reply.specs.Words.{path_after_move_up}
use Rattle.study_reply.specs.Words.{reply_line}
use Rattle.study_script.specs.State.{quiet}
use Rattle.study_script.specs.Replies.{with_study}
use Rattle.study_script.proofs.SilentEdits.{edit_accepted, edit_refused, promote_same}
use Rattle.study_script.proofs.HeldBehindReplies.{bench_edited, bench_same}
use Rattle.std.proofs.Common.{ap}
use Rattle.study_script.specs.SessionHolds.{bench_seen}
use Rattle.study_script.proofs.SilentEdits.{accepted_same}
use Rattle.study_script.proofs.DocumentsLeft.{ruled_after}
use Rattle.study_script.proofs.changes.promote.Goals as goal

pub returns-in-Ok-clause-done : goal.returns-in-Ok-clause-done
returns-in-Ok-clause-done g c = λ s h.
    let old = plain_study (marked_study c.args.bench.now) in
    let new = with_promotion old c.args.path in
    let text = reply_line (codes "promote ") (path_text (path_after_move_up c.args.path)) in
    let why = promote_refusal {A = g.row.A.Denot} old c.args.path in
    let reason = promote_refusal {A = Unit {0}} old c.args.path in
    let alike = promote_same g.row.A.Denot (Unit {0}) old c.args.path in (
      quiet,
      with_study s new,
      edit_accepted s why reason new text alike c.promote.result _ c.promote.ensures.refusal c.in-Ok.is,
      bench_edited c.promote.new.self s new c.in-Ok.ensures.edited (c.in-Ok.ensures.right h.marks),
    )

pub returns-clause-done : goal.returns-clause-done
returns-clause-done g c = λ s h.
    let old = plain_study (marked_study c.args.bench.now) in
    let new = with_promotion old c.args.path in
    let text = reply_line (codes "promote ") (path_text (path_after_move_up c.args.path)) in
    let why = promote_refusal {A = g.row.A.Denot} old c.args.path in
    let reason = promote_refusal {A = Unit {0}} old c.args.path in
    let alike = promote_same g.row.A.Denot (Unit {0}) old c.args.path in (
      quiet,
      s,
      edit_refused s why reason new text alike c.promote.result c.in-Err.refusal c.promote.ensures.refusal c.in-Err.is,
      bench_same c.promote.new.self c.args.bench.now s c.in-Err.ensures.same h,
    )

pub returns-in-Ok-clause-document : goal.returns-in-Ok-clause-document
returns-in-Ok-clause-document g c =
    let old = plain_study (marked_study c.args.bench.now) in
    let why = promote_refusal {A = g.row.A.Denot} old c.args.path in
    let reason = promote_refusal {A = Unit {0}} old c.args.path in
    let alike = promote_same g.row.A.Denot (Unit {0}) old c.args.path in
    ruled_after reason (with_promotion old c.args.path) (plain_study (marked_study c.promote.new.self))
    (accepted_same why reason alike c.promote.result _ c.promote.ensures.refusal c.in-Ok.is) c.in-Ok.ensures.edited

pub returns-clause-document : goal.returns-clause-document
returns-clause-document g c = ap bench_seen c.in-Err.ensures.same

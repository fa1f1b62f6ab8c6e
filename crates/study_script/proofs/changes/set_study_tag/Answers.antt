use Rattle.std.specs.Prelude.{codes}
use Rattle.study_marks.specs.Study.{plain_study, tag_name}
use Rattle.study_marks.specs.BenchState.{marked_study}
use Rattle.study_marks.specs.Edits.{with_tag, tag_refusal}
use Rattle.study_reply.specs.Words.{reply_line}
use Rattle.study_script.specs.State.{quiet}
use Rattle.study_script.specs.Replies.{with_study}
use Rattle.study_script.proofs.SilentEdits.{edit_accepted, edit_refused, tag_same}
use Rattle.study_script.proofs.HeldBehindReplies.{bench_edited, bench_same}
use Rattle.std.proofs.Common.{ap}
use Rattle.study_script.specs.SessionHolds.{bench_seen}
use Rattle.study_script.proofs.SilentEdits.{accepted_same}
use Rattle.study_script.proofs.DocumentsLeft.{ruled_after}
use Rattle.study_script.proofs.changes.set_study_tag.Goals as goal

pub returns-in-Ok-clause-done : goal.returns-in-Ok-clause-done
returns-in-Ok-clause-done g c = λ s h.
    let old = plain_study (marked_study c.args.bench.now) in
    let new = with_tag old c.args.name c.args.text.now in
    let text = reply_line (codes "tag ") (tag_name c.args.name) in
    let why = tag_refusal {A = g.row.A.Denot} c.args.text.now in
    let reason = tag_refusal {A = Unit {0}} c.args.text.now in
    let alike = tag_same g.row.A.Denot (Unit {0}) c.args.text.now in (
      quiet,
      with_study s new,
      edit_accepted s why reason new text alike c.set_tag.result _ c.set_tag.ensures.refusal c.in-Ok.is,
      bench_edited c.set_tag.new.self s new c.in-Ok.ensures.edited (c.in-Ok.ensures.right h.marks),
    )

pub returns-in-Err-clause-done : goal.returns-in-Err-clause-done
returns-in-Err-clause-done g c = λ s h.
    let old = plain_study (marked_study c.args.bench.now) in
    let new = with_tag old c.args.name c.args.text.now in
    let text = reply_line (codes "tag ") (tag_name c.args.name) in
    let why = tag_refusal {A = g.row.A.Denot} c.args.text.now in
    let reason = tag_refusal {A = Unit {0}} c.args.text.now in
    let alike = tag_same g.row.A.Denot (Unit {0}) c.args.text.now in (
      quiet,
      s,
      edit_refused s why reason new text alike c.set_tag.result c.in-Err.refusal c.set_tag.ensures.refusal c.in-Err.is,
      bench_same c.set_tag.new.self c.args.bench.now s c.in-Err.ensures.same h,
    )

pub returns-in-Ok-clause-document : goal.returns-in-Ok-clause-document
returns-in-Ok-clause-document g c =
    let old = plain_study (marked_study c.args.bench.now) in
    let why = tag_refusal {A = g.row.A.Denot} c.args.text.now in
    let reason = tag_refusal {A = Unit {0}} c.args.text.now in
    let alike = tag_same g.row.A.Denot (Unit {0}) c.args.text.now in
    ruled_after reason (with_tag old c.args.name c.args.text.now) (plain_study (marked_study c.set_tag.new.self))
    (accepted_same why reason alike c.set_tag.result _ c.set_tag.ensures.refusal c.in-Ok.is) c.in-Ok.ensures.edited

pub returns-in-Err-clause-document : goal.returns-in-Err-clause-document
returns-in-Err-clause-document g c = ap bench_seen c.in-Err.ensures.same

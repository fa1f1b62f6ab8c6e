use Rattle.std.proofs.Common.{◌≡◌, ◌+◌, refl, ap, subst, inl, inr}
use Rattle.std.specs.Prelude.{IfOk, IfErr, codes}
use Rattle.study_reply.specs.Names.{words_of}
use Rattle.study_reply.specs.Words.{reply_line}
use Rattle.study_reply.specs.declared.refusal.Refusal.TheVariants.{OutOfMemory}
use Rattle.study_script.specs.SessionHolds.{Holds}
use Rattle.study_script.specs.Replies.{refused_reply}
use Rattle.study_report.specs.Reported.{IsStudyReported, entry_at}
use Rattle.study_report.specs.Written.{StopsIn}
use Rattle.study_report.proofs.LineAdds.{RefusalWritten, refusal-adds, refusal-stops, section-adds, section-stops, left-out, refusal-listed, at-next}
use Rattle.study_report.proofs.PartsWritten.{on-err, study-in, left-out-part}
use Rattle.study_script.specs.SessionHolds.{document_seen}
use Rattle.study_report.proofs.report_line.report_study.Goals as goal

pub returns-in-Ok-clause-ok : goal.returns-in-Ok-clause-ok
returns-in-Ok-clause-ok g c = λ p s plain held b at. section-adds g.T.Report.tells g.T.Report.refusal g.T.Report.remark
    (λ t. (t ≡ s) × Holds g.P.PageSource.honest g.P.PageSource.gives c.args.document.now c.add_section.new.tables t)
    p s c.args.line.now
    (entry_at c.args.at) plain (g.W.Write.contents c.args.out.now) (g.W.Write.contents c.add_section.new.out) b (at-next p c.args.at at)
    (refl, c.add_section.ensures.holds s held) (c.in-Ok.ensures.reported s held)

pub returns-in-Err-Device-clause-err : goal.returns-in-Err-Device-clause-err
returns-in-Err-Device-clause-err g c = λ p s plain held b at. section-stops g.T.Report.tells g.T.Report.refusal g.T.Report.remark p s c.args.line.now
    (entry_at c.args.at) plain (g.W.Write.contents c.args.out.now) (g.W.Write.contents c.add_section.new.out) b (at-next p c.args.at at)
    (c.in-Err-Device.ensures.device s held cc)

pub returns-in-Err-OutOfMemory-clause-ok : goal.returns-in-Err-OutOfMemory-clause-ok
returns-in-Err-OutOfMemory-clause-ok g c = λ p s plain held b at.
    let bytes = reply_line (codes "error ") (words_of OutOfMemory) in
    refusal-adds g.T.Report.tells g.T.Report.refusal g.T.Report.remark (IsStudyReported g.T.Report.tells g.T.Report.refusal g.T.Report.remark p s
    c.args.line.now)
    (λ t. (t ≡ s) × Holds g.P.PageSource.honest g.P.PageSource.gives c.args.document.now c.add_section.new.tables t)
    p c.args.line.now (refused_reply s OutOfMemory) c.args.at.line bytes c.refuse_line.result
    (g.W.Write.contents c.args.out.now) (g.W.Write.contents c.refuse_line.new.out) at.0 refl
    (left-out g.T.Report.tells g.T.Report.refusal g.T.Report.remark p s c.args.line.now plain OutOfMemory b (inl refl)) (
      refl,
      c.add_section.ensures.holds s held,
    )
    (subst (λ w. IfOk c.refuse_line.result (RefusalWritten (g.T.Report.refusal c.args.at.line c.args.line.now bytes) (g.W.Write.contents w)
    (g.W.Write.contents c.refuse_line.new.out))) (c.in-Err-OutOfMemory.ensures.memory cc) c.refuse_line.ensures.ok)

pub returns-in-Err-OutOfMemory-clause-err : goal.returns-in-Err-OutOfMemory-clause-err
returns-in-Err-OutOfMemory-clause-err g c = λ p s plain held b at.
    let bytes = reply_line (codes "error ") (words_of OutOfMemory) in
    refusal-stops g.T.Report.tells g.T.Report.refusal g.T.Report.remark (IsStudyReported g.T.Report.tells g.T.Report.refusal g.T.Report.remark p s
    c.args.line.now)
    p c.args.line.now (refused_reply s OutOfMemory) c.args.at.line bytes c.refuse_line.result
    (g.W.Write.contents c.args.out.now) (g.W.Write.contents c.refuse_line.new.out) at.0 refl
    (left-out g.T.Report.tells g.T.Report.refusal g.T.Report.remark p s c.args.line.now plain OutOfMemory b (inl refl))
    (subst (λ w. IfErr c.refuse_line.result (StopsIn (g.T.Report.refusal c.args.at.line c.args.line.now bytes) (g.W.Write.contents w)
    (g.W.Write.contents c.refuse_line.new.out))) (c.in-Err-OutOfMemory.ensures.memory cc) c.refuse_line.ensures.err)

pub returns-in-Err-Values-clause-ok : goal.returns-in-Err-Values-clause-ok
returns-in-Err-Values-clause-ok g c = λ p s plain held b at.
    let why = c.of_probe.result in
    let bytes = reply_line (codes "error ") (words_of why) in
    refusal-adds g.T.Report.tells g.T.Report.refusal g.T.Report.remark (IsStudyReported g.T.Report.tells g.T.Report.refusal g.T.Report.remark p s
    c.args.line.now)
    (λ t. (t ≡ s) × Holds g.P.PageSource.honest g.P.PageSource.gives c.args.document.now c.add_section.new.tables t)
    p c.args.line.now (refused_reply s why) c.args.at.line bytes c.refuse_line-in-Err-Values.result
    (g.W.Write.contents c.args.out.now) (g.W.Write.contents c.refuse_line-in-Err-Values.new.out) at.0 refl
    (left-out g.T.Report.tells g.T.Report.refusal g.T.Report.remark p s c.args.line.now plain why b
    (inr (c.in-Err-Values.fault, c.in-Err-Values.ensures.why s plain c.in-Err-Values.fault held b cc, (cc))))
    (refl, c.add_section.ensures.holds s held)
    (subst (λ w. IfOk c.refuse_line-in-Err-Values.result (RefusalWritten (g.T.Report.refusal c.args.at.line c.args.line.now bytes) (g.W.Write.contents w)
    (g.W.Write.contents c.refuse_line-in-Err-Values.new.out))) (c.in-Err-Values.ensures.no_value c.in-Err-Values.fault cc)
    c.refuse_line-in-Err-Values.ensures.ok)

pub returns-in-Err-Values-clause-err : goal.returns-in-Err-Values-clause-err
returns-in-Err-Values-clause-err g c = λ p s plain held b at.
    let why = c.of_probe.result in
    let bytes = reply_line (codes "error ") (words_of why) in
    refusal-stops g.T.Report.tells g.T.Report.refusal g.T.Report.remark (IsStudyReported g.T.Report.tells g.T.Report.refusal g.T.Report.remark p s
    c.args.line.now)
    p c.args.line.now (refused_reply s why) c.args.at.line bytes c.refuse_line-in-Err-Values.result
    (g.W.Write.contents c.args.out.now) (g.W.Write.contents c.refuse_line-in-Err-Values.new.out) at.0 refl
    (left-out g.T.Report.tells g.T.Report.refusal g.T.Report.remark p s c.args.line.now plain why b
    (inr (c.in-Err-Values.fault, c.in-Err-Values.ensures.why s plain c.in-Err-Values.fault held b cc, (cc))))
    (subst (λ w. IfErr c.refuse_line-in-Err-Values.result (StopsIn (g.T.Report.refusal c.args.at.line c.args.line.now bytes) (g.W.Write.contents w)
    (g.W.Write.contents c.refuse_line-in-Err-Values.new.out))) (c.in-Err-Values.ensures.no_value c.in-Err-Values.fault cc)
    c.refuse_line-in-Err-Values.ensures.err)

pub returns-in-Err-OutOfMemory-clause-listed : goal.returns-in-Err-OutOfMemory-clause-listed
returns-in-Err-OutOfMemory-clause-listed g c s reported held kept =
    refusal-listed (g.T.Report.lists c.refuse_line.new.report) c.refuse_line.result reported c.args.line.now s.document
    (entry_at c.args.at) _
    (g.W.Write.contents _) (g.W.Write.contents c.refuse_line.new.out) c.refuse_line.ensures.ok
    (c.refuse_line.ensures.listed reported (c.in-Err-OutOfMemory.ensures.unlisted reported kept))

pub returns-in-Err-Values-clause-listed : goal.returns-in-Err-Values-clause-listed
returns-in-Err-Values-clause-listed g c s reported held kept =
    refusal-listed (g.T.Report.lists c.refuse_line-in-Err-Values.new.report) c.refuse_line-in-Err-Values.result reported c.args.line.now s.document
    (entry_at c.args.at) _
    (g.W.Write.contents _) (g.W.Write.contents c.refuse_line-in-Err-Values.new.out) c.refuse_line-in-Err-Values.ensures.ok
    (c.refuse_line-in-Err-Values.ensures.listed reported (c.in-Err-Values.ensures.unlisted reported kept))

pub returns-in-Ok-clause-written : goal.returns-in-Ok-clause-written
returns-in-Ok-clause-written g c =
    study-in g.T.Report.form g.T.Report.refusal g.T.Report.remark (document_seen c.args.document.now)
    c.args.line.now c.args.at.line (entry_at c.args.at)
    (g.W.Write.contents c.args.out.now) (g.W.Write.contents c.add_section.new.out)
    (c.in-Ok.ensures.formed c.requires.here)

pub returns-in-Err-OutOfMemory-clause-written : goal.returns-in-Err-OutOfMemory-clause-written
returns-in-Err-OutOfMemory-clause-written g c =
    left-out-part g.T.Report.form g.T.Report.refusal g.T.Report.remark (document_seen c.args.document.now)
    c.args.line.now c.args.at.line (entry_at c.args.at) OutOfMemory
    c.refuse_line.result
    (g.W.Write.contents c.args.out.now) (g.W.Write.contents c.add_section.new.out) (g.W.Write.contents c.refuse_line.new.out)
    (ap (λ w. g.W.Write.contents w) (c.in-Err-OutOfMemory.ensures.memory cc)) c.refuse_line.ensures.ok

pub returns-in-Err-Values-clause-written : goal.returns-in-Err-Values-clause-written
returns-in-Err-Values-clause-written g c =
    left-out-part g.T.Report.form g.T.Report.refusal g.T.Report.remark (document_seen c.args.document.now)
    c.args.line.now c.args.at.line (entry_at c.args.at) c.of_probe.result
    c.refuse_line-in-Err-Values.result
    (g.W.Write.contents c.args.out.now) (g.W.Write.contents c.add_section.new.out) (g.W.Write.contents c.refuse_line-in-Err-Values.new.out)
    (ap (λ w. g.W.Write.contents w) (c.in-Err-Values.ensures.no_value c.in-Err-Values.fault cc)) c.refuse_line-in-Err-Values.ensures.ok

pub returns-in-Err-OutOfMemory-clause-unlisted : goal.returns-in-Err-OutOfMemory-clause-unlisted
returns-in-Err-OutOfMemory-clause-unlisted g c = λ reported kept.
    on-err c.refuse_line.result _
    (c.refuse_line.ensures.listed reported (c.in-Err-OutOfMemory.ensures.unlisted reported kept))

pub returns-in-Err-Values-clause-unlisted : goal.returns-in-Err-Values-clause-unlisted
returns-in-Err-Values-clause-unlisted g c = λ reported kept.
    on-err c.refuse_line-in-Err-Values.result _
    (c.refuse_line-in-Err-Values.ensures.listed reported (c.in-Err-Values.ensures.unlisted reported kept))

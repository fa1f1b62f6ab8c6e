use Rattle.std.proofs.Common.{◌≡◌, refl, subst}
use Rattle.study_marks.specs.Study.{plain_study}
use Rattle.study_marks.specs.BenchState.{marked_study}
use Rattle.study_script.specs.declared.document.Document.TheVariants as held
use Rattle.study_reply.specs.declared.refusal.Refusal.TheVariants.{NoStudy}
use Rattle.study_command.specs.Documents.{Document, study}
use Rattle.study_script.specs.State.{Environment, quiet}
use Rattle.study_script.specs.SessionHolds.{HoldsFrom, HoldsBenchFrom}
use Rattle.study_script.specs.Replies.{Reply, refused_reply, tag_reply}
use Rattle.study_script.proofs.Executions.{executed_weaker}
use Rattle.study_script.proofs.HeldBehindReplies.{document_kept, document_of, bench_of, empty_seen, start_seen, study_seen}
use Rattle.std.proofs.Common.{ap, sym}
use Rattle.study_command.specs.Parser.{tag}
use Rattle.study_script.specs.SessionHolds.{bench_seen, document_seen}
use Rattle.study_script.specs.Executed.{Leaves}
use Rattle.study_script.proofs.changes.set_tag.Goals as goal

pub returns-in-Study-clause-done : goal.returns-in-Study-clause-done
returns-in-Study-clause-done g c = λ s h. executed_weaker
    {I = λ (o : Environment) (r : Reply). r ≡ tag_reply s (study (plain_study (marked_study c.in-Study.bench))) c.args.name c.args.text.now}
    {J = λ (o : Environment) (r : Reply). r ≡ tag_reply s s.document c.args.name c.args.text.now} {H = HoldsBenchFrom s c.set_study_tag.new.bench}
    {K = HoldsFrom {A = g.row.A.Denot} s (held.Study c.set_study_tag.new.bench)} c.set_study_tag.result
    (λ o r i. subst (λ (x : Document). r ≡ tag_reply s x c.args.name c.args.text.now)
    (study_seen c.args.document.now c.in-Study.bench s c.in-Study.is h) i)
    (λ t m. document_of {A = g.row.A.Denot} (held.Study c.set_study_tag.new.bench) c.set_study_tag.new.bench s t refl m)
    (c.set_study_tag.ensures.done s (bench_of c.args.document.now c.in-Study.bench s c.in-Study.is h))

pub returns-in-Empty-clause-done : goal.returns-in-Empty-clause-done
returns-in-Empty-clause-done g c = λ s h. (
  quiet,
  s,
  subst (λ (x : Document). refused_reply s NoStudy ≡ tag_reply s x c.args.name c.args.text.now) (empty_seen c.args.document.now s c.in-Empty.is h) refl,
  document_kept c.args.document.now s h,
)

pub returns-in-Start-clause-done : goal.returns-in-Start-clause-done
returns-in-Start-clause-done g c = λ s h. (
  quiet,
  s,
  subst (λ (x : Document). refused_reply s NoStudy ≡ tag_reply s x c.args.name c.args.text.now)
      (start_seen c.args.document.now c.in-Start.field-0 s c.in-Start.is h) refl,
  document_kept c.args.document.now s h,
)

pub returns-in-Study-clause-document : goal.returns-in-Study-clause-document
returns-in-Study-clause-document g c =
    subst (λ (d : Document). Leaves c.set_study_tag.result (tag c.args.name c.args.text.now) d (bench_seen c.set_study_tag.new.bench))
    (ap document_seen (sym c.in-Study.is)) c.set_study_tag.ensures.document

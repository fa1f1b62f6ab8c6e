use Rattle.std.proofs.Common.{◌≡◌, false, Err, refl, sym, ap, subst, ◌∙◌}
use Rattle.study_values.specs.declared.values.ProbeFault.{ProbeFault}
use Rattle.study_tree.specs.Tree.{has_spot}
use Rattle.study_marks.specs.Study.{plain_study}
use Rattle.study_command.specs.Documents.{study}
use Rattle.study_web.specs.Views.{StudyStopped}
use Rattle.study_reply.specs.declared.refusal.Refusal.{Refusal}
use Rattle.study_web.specs.declared.request_fault.RequestFault.TheVariants as denial
use Rattle.study_web.specs.Answers.{IsViewDenial}
use Rattle.study_command.specs.Paths.{steps_of}
use Rattle.study_marks.specs.BenchState.{marked_study}
use Rattle.study_web.proofs.Denials.{node_denial, probe_denial, view_stopped}
use Rattle.study_web.proofs.Nodes.{lacks_plainly}
use Rattle.study_web.proofs.ViewText.{view-taken}
use Rattle.study_web.proofs.answers.script.bench_view.Goals as goal

pub returns-in-Ok-write_view-clause-text : goal.returns-in-Ok-write_view-clause-text
returns-in-Ok-write_view-clause-text g c honest right =
    view-taken (plain_study (marked_study c.args.bench.now)) (steps_of c.args.path.now) _ _ _ c.in-Ok.ensures.path c.new-text.ensures.items
    (c.in-Ok-write_view.ensures.plain honest right)

pub returns-in-Err-NoSuchNode-clause-none : goal.returns-in-Err-NoSuchNode-clause-none
returns-in-Err-NoSuchNode-clause-none g c =
    let gone = c.in-Err-NoSuchNode.ensures.no_node.0 cc in
    node_denial _ _ (lacks_plainly (marked_study c.args.bench.now) (steps_of c.args.path.now) (rw c.in-Ok.ensures.path at gone))

pub returns-in-Err-Values-clause-none : goal.returns-in-Err-Values-clause-none
returns-in-Err-Values-clause-none g c =
    let old = c.args.values.now in
    let new = c.write_view.new.values in
    let NoValue : ProbeFault → Type 0 =
    λ fault. StudyStopped g.V.Values.source
    (study (plain_study (marked_study c.args.bench.now))) old fault new in
    subst (λ (r : Refusal). IsViewDenial NoValue (has_spot (plain_study (marked_study c.args.bench.now)).tree (steps_of c.args.path.now) ≡ false)
    (denial.Refused r))
    (sym c.of_probe.ensures)
    (probe_denial NoValue _ c.in-Err-Values.fault (
      plain_study (marked_study c.args.bench.now),
      refl,
      c.start-first.ensures.study.valid,
      view_stopped g.V.Values.source (marked_study c.args.bench.now).start.position _ old new c.in-Err-Values.fault c.write_view.result
          (c.in-Err-Values.is ∙ ap Err c.in-Err-Values.field-0-is) c.write_view.ensures.asked,
    ))

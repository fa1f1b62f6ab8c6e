use Rattle.study_command.specs.Paths.{steps_of}
use Rattle.study_script.specs.SessionHolds.{document_seen, tables_source, Holds}
use Rattle.study_script.specs.State.{State}
use Rattle.study_web.specs.Answers.{IsNever}
use Rattle.study_web.specs.Views.{LacksNode, IsViewFault, StudyStopped}
use Rattle.study_web.proofs.Denials.{passed_on, no_value_left}
use Rattle.study_web.proofs.answers.script.view_of_end.Goals as goal

pub returns-in_err-text-clause-none : goal.returns-in_err-text-clause-none
returns-in_err-text-clause-none g c =
    let honest = g.P.PageSource.honest in
    let gives = g.P.PageSource.gives in
    let old = c.args.left.tables in
    let new = c.document_view.new.values in
    let lacks = LacksNode (document_seen c.args.left.document) (steps_of c.args.path.now) in
    passed_on
    (λ fault. StudyStopped (tables_source honest gives)
    (document_seen c.args.left.document) old fault new)
    (λ fault. (s : State) → Holds honest gives c.args.left.document old s → IsViewFault s fault) lacks lacks
    (λ fault is. no_value_left honest gives c.args.left.document old new fault is) (λ h. h) c.from_residual.result IsNever c.in_err-text.field-0.0
    c.from_residual.ensures.1 c.in_err-text.ensures.none

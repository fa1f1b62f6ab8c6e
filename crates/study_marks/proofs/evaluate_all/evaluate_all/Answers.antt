use Rattle.std.proofs.Common.{◌++◌, List, length, false, ap, ◌∙◌, subst}
use Rattle.study_board.specs.Position.{Position}
use Rattle.study_tree.specs.Tree.{plain_tree}
use Rattle.study_marks.specs.declared.node_label.Evaluation.{Evaluation}
use Rattle.study_marks.specs.Queries.{asked_at, asked_below, AreTablesHeld, counted_up_by}
use Rattle.study_marks.specs.Evaluated.{IsProbeFaultOf, ProbeCount}
use Rattle.study_marks.proofs.InsertedMoves.{outside-answer, asked-answer}
use Rattle.study_marks.proofs.PositionsListed.{asked-tree, evaluated-everywhere}
use Rattle.study_marks.specs.Answers.{IsFirstFault}
use Rattle.study_marks.proofs.FaultsReported.{first-answer, undamaged-answer}
use Rattle.study_marks.proofs.evaluate_all.evaluate_all.Goals as goal

pub returns-in_err-evaluate_positions-clause-refusal : goal.returns-in_err-evaluate_positions-clause-refusal
returns-in_err-evaluate_positions-clause-refusal g c =
    let same = asked-tree c.args.position.now (plain_tree c.args.tree.now).below c.as_slice.result.now (c.as_slice.ensures.value ∙ c.in-Ok.ensures) in
    let asked = asked_at c.args.position.now ++ asked_below c.args.position.now (plain_tree c.args.tree.now).below in
    outside-answer (g.V.Values.source.held c.args.values.now) asked c.in_err-evaluate_positions.field-0.0 c.from_residual.result c.from_residual.ensures.1
    (subst (λ (ps : List Position). IsProbeFaultOf (g.V.Values.source.held c.args.values.now) ps c.in_err-evaluate_positions.field-0.0) same
    c.in_err-evaluate_positions.ensures.no_value)

pub returns-in_err-evaluate_positions-clause-asked : goal.returns-in_err-evaluate_positions-clause-asked
returns-in_err-evaluate_positions-clause-asked g c =
    let same = asked-tree c.args.position.now (plain_tree c.args.tree.now).below c.as_slice.result.now (c.as_slice.ensures.value ∙ c.in-Ok.ensures) in
    let asked = asked_at c.args.position.now ++ asked_below c.args.position.now (plain_tree c.args.tree.now).below in
    asked-answer (length asked) (g.V.Values.source.asked_of c.args.values.now) (g.V.Values.source.asked_of c.evaluate_positions.new.values)
    c.in_err-evaluate_positions.field-0.0 c.from_residual.result c.from_residual.ensures.1
    (subst (λ (ps : List Position). ProbeCount (length ps) false (g.V.Values.source.asked_of c.args.values.now)
    (g.V.Values.source.asked_of c.evaluate_positions.new.values)) same c.in_err-evaluate_positions.ensures.asked)

pub returns-clause-game : goal.returns-clause-game
returns-clause-game g c =
    λ h. evaluated-everywhere c.args.position.now (plain_tree c.args.tree.now) c.as_slice.result.now
    c.evaluate_positions.new.all.items (c.as_slice.ensures.value ∙ c.in-Ok.ensures)
    (let x = c.in_ok-evaluate_positions.ensures.game h in (x.0, x.1, x.2 ∙ ap (λ (ts : List Evaluation). ts ++ x.0) c.in-Ok-with_capacity.ensures.items))

pub returns-clause-found : goal.returns-clause-found
returns-clause-found g c =
    let same = asked-tree c.args.position.now (plain_tree c.args.tree.now).below c.as_slice.result.now (c.as_slice.ensures.value ∙ c.in-Ok.ensures) in
    let asked = asked_at c.args.position.now ++ asked_below c.args.position.now (plain_tree c.args.tree.now).below in
    subst (λ (ps : List Position). AreTablesHeld (g.V.Values.source.held c.args.values.now) ps) same c.in_ok-evaluate_positions.ensures.held

pub returns-clause-asked : goal.returns-clause-asked
returns-clause-asked g c =
    let same = asked-tree c.args.position.now (plain_tree c.args.tree.now).below c.as_slice.result.now (c.as_slice.ensures.value ∙ c.in-Ok.ensures) in
    let asked = asked_at c.args.position.now ++ asked_below c.args.position.now (plain_tree c.args.tree.now).below in
    c.in_ok-evaluate_positions.ensures.asked ∙ ap (λ (ps : List Position). counted_up_by (length ps) (g.V.Values.source.asked_of c.args.values.now)) same

pub returns-in_err-evaluate_positions-clause-first : goal.returns-in_err-evaluate_positions-clause-first
returns-in_err-evaluate_positions-clause-first g c =
    let same = asked-tree c.args.position.now (plain_tree c.args.tree.now).below c.as_slice.result.now (c.as_slice.ensures.value ∙ c.in-Ok.ensures) in
    let asked = asked_at c.args.position.now ++ asked_below c.args.position.now (plain_tree c.args.tree.now).below in
    first-answer g.V.Values.source c.args.values.now asked c.evaluate_positions.new.values c.in_err-evaluate_positions.field-0.0
    c.from_residual.result c.from_residual.ensures.1
    (subst (λ (ps : List Position). IsFirstFault g.V.Values.source c.args.values.now ps
    c.in_err-evaluate_positions.field-0.0 c.evaluate_positions.new.values) same c.in_err-evaluate_positions.ensures.first)

pub returns-in_err-evaluate_positions-clause-no_damage : goal.returns-in_err-evaluate_positions-clause-no_damage
returns-in_err-evaluate_positions-clause-no_damage g c = λ h.
    undamaged-answer c.in_err-evaluate_positions.field-0.0 c.from_residual.result c.from_residual.ensures.1 (c.in_err-evaluate_positions.ensures.no_damage h)

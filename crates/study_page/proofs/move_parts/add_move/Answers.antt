use Rattle.std.proofs.Common.{Some, None, arith, refl, sym, ap, subst, ◌∙◌}
use Rattle.std.proofs.lemmas.Result.{on_ok_weaker}
use Rattle.study_notation.specs.declared.start.Start.{Start}
use Rattle.study_marks.specs.declared.mark.MoveMark.TheVariants as variant
use Rattle.study_marks.specs.BenchState.{marked_study}
use Rattle.study_facts.specs.Made.{Grew}
use Rattle.study_facts.specs.Nodes.{EmptyUnless, parent_path}
use Rattle.study_page.specs.Rows.{IsFaultOf, IsCardOf}
use Rattle.study_facts.proofs.Within.{leads-at, asks-wider}
use Rattle.study_page.proofs.MadeRows.{before-shallow, fault-listed, mistake-listed, fault-plain, card-made, nothing-grew}
use Rattle.study_page.proofs.move_parts.add_move.Goals as goal

pub returns-in-Some-Dual-clause-faults : goal.returns-in-Some-Dual-clause-faults
returns-in-Some-Dual-clause-faults g c h =
    let step = c.args.step.now in
    let before = step.before in
    let mark = Some (variant.Dual c.in-Some-Dual.others) in
    on_ok_weaker c.add_dual.result
    (λ grew. fault-listed (marked_study c.args.bench.now) step c.requires mark c.args.parts.now.faults c.add_dual.new.parts.faults
    (sym (c.in-Some-Dual.is ∙ ap Some c.in-Some-Dual.field-0-is) ∙ c.on_move.ensures)
    (subst (λ (st : Start). Grew (EmptyUnless step.solution (IsFaultOf st before.aim.now before.depth step.line.now before.position.now step.played
    step.mark.value mark)) c.args.parts.now.faults c.add_dual.new.parts.faults) c.start-first.ensures.value grew))
    (c.add_dual.ensures.faults h)

pub returns-in-Some-Dual-clause-duals : goal.returns-in-Some-Dual-clause-duals
returns-in-Some-Dual-clause-duals g c h =
    let step = c.args.step.now in
    let before = step.before in
    let mark = Some (variant.Dual c.in-Some-Dual.others) in
    on_ok_weaker c.add_dual.result
    (λ grew. card-made (marked_study c.args.bench.now) step c.requires mark c.args.parts.now.duals c.add_dual.new.parts.duals
    (sym (c.in-Some-Dual.is ∙ ap Some c.in-Some-Dual.field-0-is) ∙ c.on_move.ensures)
    (subst (λ (st : Start). Grew (IsCardOf st before.aim.now before.depth step.line.now before.position.now step.played step.mark.value mark)
    c.args.parts.now.duals c.add_dual.new.parts.duals) c.start-first.ensures.value grew))
    (c.add_dual.ensures.duals h)

pub returns-in-Some-Dual-clause-asked : goal.returns-in-Some-Dual-clause-asked
returns-in-Some-Dual-clause-asked g c =
    let s = marked_study c.args.bench.now in
    let step = c.args.step.now in
    asks-wider g.V.Values.source s.start.position step.before.position.now
    (leads-at s (parent_path step.steps.now) step.before.position.now c.start-first.ensures.study.playable c.requires.step.before.position)
    c.args.values.now c.add_dual.new.values c.add_dual.result c.add_dual.ensures.asked

pub put_listed_mistake-requires-clause-shallow : goal.put_listed_mistake-requires-clause-shallow
put_listed_mistake-requires-clause-shallow g c =
    let less = before-shallow c.args.step.now.steps.now in
    let few = c.requires.shallow in
    let deep = c.requires.step.before.depth in
    omega (arith, less, few, deep)

pub returns-in_ok-put_listed_mistake-in-Some-Mistake-clause-faults : goal.returns-in_ok-put_listed_mistake-in-Some-Mistake-clause-faults
returns-in_ok-put_listed_mistake-in-Some-Mistake-clause-faults g c h =
    mistake-listed (marked_study c.args.bench.now) c.args.step.now c.requires c.start-first.result.now c.args.parts.now.faults c.put_listed_mistake.new.html
    (sym (c.in-Some-Mistake.is ∙ ap Some c.in-Some-Mistake.field-0-is) ∙ c.on_move.ensures) c.start-first.ensures.value
    c.in_ok-put_listed_mistake-in-Some-Mistake.ensures

pub returns-in_ok-put_listed_mistake-in-Some-Mistake-clause-duals : goal.returns-in_ok-put_listed_mistake-in-Some-Mistake-clause-duals
returns-in_ok-put_listed_mistake-in-Some-Mistake-clause-duals g c h =
    card-made (marked_study c.args.bench.now) c.args.step.now c.requires (Some variant.Mistake) c.args.parts.now.duals c.args.parts.now.duals
    (sym (c.in-Some-Mistake.is ∙ ap Some c.in-Some-Mistake.field-0-is) ∙ c.on_move.ensures) (nothing-grew _ c.args.parts.now.duals refl)

pub returns-in-Some-Only-clause-faults : goal.returns-in-Some-Only-clause-faults
returns-in-Some-Only-clause-faults g c h =
    fault-plain (marked_study c.args.bench.now) c.args.step.now c.requires (Some variant.Only) c.args.parts.now.faults
    (sym (c.in-Some-Only.is ∙ ap Some c.in-Some-Only.field-0-is) ∙ c.on_move.ensures) tt

pub returns-in-Some-Only-clause-duals : goal.returns-in-Some-Only-clause-duals
returns-in-Some-Only-clause-duals g c h =
    card-made (marked_study c.args.bench.now) c.args.step.now c.requires (Some variant.Only) c.args.parts.now.duals c.args.parts.now.duals
    (sym (c.in-Some-Only.is ∙ ap Some c.in-Some-Only.field-0-is) ∙ c.on_move.ensures) (nothing-grew _ c.args.parts.now.duals refl)

pub returns-in-Some-Idle-clause-faults : goal.returns-in-Some-Idle-clause-faults
returns-in-Some-Idle-clause-faults g c h =
    fault-plain (marked_study c.args.bench.now) c.args.step.now c.requires (Some variant.Idle) c.args.parts.now.faults
    (sym (c.in-Some-Idle.is ∙ ap Some c.in-Some-Idle.field-0-is) ∙ c.on_move.ensures) tt

pub returns-in-Some-Idle-clause-duals : goal.returns-in-Some-Idle-clause-duals
returns-in-Some-Idle-clause-duals g c h =
    card-made (marked_study c.args.bench.now) c.args.step.now c.requires (Some variant.Idle) c.args.parts.now.duals c.args.parts.now.duals
    (sym (c.in-Some-Idle.is ∙ ap Some c.in-Some-Idle.field-0-is) ∙ c.on_move.ensures) (nothing-grew _ c.args.parts.now.duals refl)

pub returns-in-Some-Reply-clause-faults : goal.returns-in-Some-Reply-clause-faults
returns-in-Some-Reply-clause-faults g c h =
    fault-plain (marked_study c.args.bench.now) c.args.step.now c.requires (Some variant.Reply) c.args.parts.now.faults
    (sym (c.in-Some-Reply.is ∙ ap Some c.in-Some-Reply.field-0-is) ∙ c.on_move.ensures) tt

pub returns-in-Some-Reply-clause-duals : goal.returns-in-Some-Reply-clause-duals
returns-in-Some-Reply-clause-duals g c h =
    card-made (marked_study c.args.bench.now) c.args.step.now c.requires (Some variant.Reply) c.args.parts.now.duals c.args.parts.now.duals
    (sym (c.in-Some-Reply.is ∙ ap Some c.in-Some-Reply.field-0-is) ∙ c.on_move.ensures) (nothing-grew _ c.args.parts.now.duals refl)

pub returns-in-None-clause-faults : goal.returns-in-None-clause-faults
returns-in-None-clause-faults g c h =
    fault-plain (marked_study c.args.bench.now) c.args.step.now c.requires None c.args.parts.now.faults
    (sym c.in-None.is ∙ c.on_move.ensures) tt

pub returns-in-None-clause-duals : goal.returns-in-None-clause-duals
returns-in-None-clause-duals g c h =
    card-made (marked_study c.args.bench.now) c.args.step.now c.requires None c.args.parts.now.duals c.args.parts.now.duals
    (sym c.in-None.is ∙ c.on_move.ensures) (nothing-grew _ c.args.parts.now.duals refl)

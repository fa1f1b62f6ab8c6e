use Rattle.std.proofs.Common.{List, sym, subst}
use Rattle.study_facts.specs.declared.time_loss.Alternative.{Alternative}
use Rattle.study_facts.specs.Time.{AreTimedAlternatives}
use Rattle.study_page.proofs.MadeRows.{dual-listed, dual-carded}
use Rattle.study_page.proofs.move_parts.add_dual.Goals as goal

pub returns-in_ok-put_dual_parts-in-Ok-clause-faults : goal.returns-in_ok-put_dual_parts-in-Ok-clause-faults
returns-in_ok-put_dual_parts-in-Ok-clause-faults g c h =
    let step = c.args.step.now in
    let before = step.before in
    let m = step.played in
    dual-listed before.aim.now before.depth step.line.now before.position.now m c.as_slice.result.now
    (subst (λ (l : List Alternative). AreTimedAlternatives before.aim.now before.depth step.line.now before.position.now m l) (sym c.as_slice.ensures.value)
    (c.in-Ok.ensures.game h))
    c.args.start.now step.mark.value c.args.others step.solution c.args.parts.now.faults c.put_dual_parts.new.parts.faults
    c.in_ok-put_dual_parts-in-Ok.ensures.faults

pub returns-in_ok-put_dual_parts-in-Ok-clause-duals : goal.returns-in_ok-put_dual_parts-in-Ok-clause-duals
returns-in_ok-put_dual_parts-in-Ok-clause-duals g c h =
    let step = c.args.step.now in
    let before = step.before in
    let m = step.played in
    dual-carded before.aim.now before.depth step.line.now before.position.now m c.as_slice.result.now
    (subst (λ (l : List Alternative). AreTimedAlternatives before.aim.now before.depth step.line.now before.position.now m l) (sym c.as_slice.ensures.value)
    (c.in-Ok.ensures.game h))
    c.args.start.now step.mark.value c.args.others c.args.parts.now.duals c.put_dual_parts.new.parts.duals
    c.in_ok-put_dual_parts-in-Ok.ensures.duals

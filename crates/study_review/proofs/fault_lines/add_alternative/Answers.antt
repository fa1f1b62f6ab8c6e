use Rattle.std.proofs.Common.{rules, sym, ap, subst, refl, ◌∙◌}
use Rattle.std.specs.Prelude.{if◌then◌else◌}
use Rattle.study_board.specs.Position.{Position}
use Rattle.study_facts.specs.Time.{IsTimeGiven}
use Rattle.study_facts.proofs.Within.{leads-to, asks-wider, all-wider, stops-wider}
use Rattle.study_review.proofs.MovesReported.{one-besides}
use Rattle.study_review.proofs.fault_lines.add_alternative.Goals as goal

pub returns-then-is_some-clause-text : goal.returns-then-is_some-clause-text
returns-then-is_some-clause-text g c h =
    let time = subst (λ (q : Position). IsTimeGiven c.args.step.now.before.aim.now.goal c.args.step.now.line.now q c.in-Ok.time) c.played-next.ensures.value
    (c.in-Ok.ensures.game h) in
    one-besides c.args.step.now.steps.now c.args.step.now.before.aim.now c.args.step.now.before.depth c.args.step.now.line.now
    c.args.step.now.before.position.now c.args.step.now.played c.args.x.now
    (record { played = c.args.x.now.played; value = c.args.x.now.value; time = c.in-Ok.time }) 1 c.args.text.now c.add_also_line.new.text
    (sym c.contains_move.ensures ∙ c.if-contains_move.false) (sym c.holds.ensures ∙ c.if-not-holds.false) refl refl time
    (ap (λ b. if b then 1 else 0) (sym c.is_some.ensures ∙ c.if-is_some.true)) c.in_ok-add_also_line-in-Ok.ensures

pub returns-else-is_some-clause-text : goal.returns-else-is_some-clause-text
returns-else-is_some-clause-text g c h =
    let time = subst (λ (q : Position). IsTimeGiven c.args.step.now.before.aim.now.goal c.args.step.now.line.now q c.in-Ok.time) c.played-next.ensures.value
    (c.in-Ok.ensures.game h) in
    one-besides c.args.step.now.steps.now c.args.step.now.before.aim.now c.args.step.now.before.depth c.args.step.now.line.now
    c.args.step.now.before.position.now c.args.step.now.played c.args.x.now
    (record { played = c.args.x.now.played; value = c.args.x.now.value; time = c.in-Ok.time }) 0 c.args.text.now c.add_also_line.new.text
    (sym c.contains_move.ensures ∙ c.if-contains_move.false) (sym c.holds.ensures ∙ c.if-not-holds.false) refl refl time
    (ap (λ b. if b then 1 else 0) (sym c.is_some.ensures ∙ c.if-is_some.false)) c.in_ok-add_also_line-in-Ok.ensures

pub returns-in_err-add_also_line-in-Ok-clause-asked : goal.returns-in_err-add_also_line-in-Ok-clause-asked
returns-in_err-add_also_line-in-Ok-clause-asked g c =
    asks-wider g.V.Values.source
    c.args.step.now.before.position.now c.played-next.result (leads-to c.args.step.now.before.position.now c.played-next.result c.args.x.now.played
    c.requires.legal c.played-next.ensures.value)
    c.args.values.now c.waste_of_time_for_goal.new.values _ (search rules)

pub returns-in-Err-clause-asked : goal.returns-in-Err-clause-asked
returns-in-Err-clause-asked g c =
    stops-wider g.V.Values.source
    c.args.step.now.before.position.now c.played-next.result (leads-to c.args.step.now.before.position.now c.played-next.result c.args.x.now.played
    c.requires.legal c.played-next.ensures.value)
    c.args.values.now c.waste_of_time_for_goal.new.values c.in-Err.fault (search rules)

pub returns-then-is_some-clause-asked : goal.returns-then-is_some-clause-asked
returns-then-is_some-clause-asked g c =
    all-wider g.V.Values.source
    c.args.step.now.before.position.now c.played-next.result (leads-to c.args.step.now.before.position.now c.played-next.result c.args.x.now.played
    c.requires.legal c.played-next.ensures.value)
    c.args.values.now c.waste_of_time_for_goal.new.values (search rules)

pub returns-else-is_some-clause-asked : goal.returns-else-is_some-clause-asked
returns-else-is_some-clause-asked g c =
    all-wider g.V.Values.source
    c.args.step.now.before.position.now c.played-next.result (leads-to c.args.step.now.before.position.now c.played-next.result c.args.x.now.played
    c.requires.legal c.played-next.ensures.value)
    c.args.values.now c.waste_of_time_for_goal.new.values (search rules)

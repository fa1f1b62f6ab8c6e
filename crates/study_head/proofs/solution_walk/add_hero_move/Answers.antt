use Rattle.std.proofs.Common.{ℕ, List, Some, None, refl, sym, ap, subst, ◌∙◌}
use Rattle.std.proofs.lemmas.Result.{on_ok_weaker}
use Rattle.study_marks.specs.declared.mark.MoveMark.TheVariants as variant
use Rattle.study_marks.specs.BenchState.{marked_study}
use Rattle.study_facts.specs.Nodes.{parent_path}
use Rattle.study_facts.proofs.Within.{leads-at, asks-wider}
use Rattle.study_head.specs.Solution.{AddsMistake}
use Rattle.study_head.proofs.FactsMade.{by-mark}
use Rattle.study_head.proofs.solution_walk.add_hero_move.Goals as goal

pub returns-in-Some-Dual-clause-added : goal.returns-in-Some-Dual-clause-added
returns-in-Some-Dual-clause-added g c h =
    let s = marked_study c.args.bench.now in
    let step = c.args.step.now in
    on_ok_weaker c.add_dual.result
    (by-mark s step.steps.now step.played (Some (variant.Dual _)) c.args.facts.now c.add_dual.new.facts
    (sym (c.in-Some-Dual.is ∙ ap Some c.in-Some-Dual.field-0-is) ∙ c.on_move.ensures ∙ c.requires.step.mark))
    (c.add_dual.ensures.added h)

pub returns-in-Some-Dual-clause-asked : goal.returns-in-Some-Dual-clause-asked
returns-in-Some-Dual-clause-asked g c =
    let s = marked_study c.args.bench.now in
    let step = c.args.step.now in
    asks-wider g.V.Values.source s.start.position step.before.position.now
    (leads-at s (parent_path step.steps.now) step.before.position.now c.start-first.ensures.study.playable c.requires.step.step.before.position)
    c.args.values.now c.add_dual.new.values c.add_dual.result c.add_dual.ensures.asked

pub returns-in-Some-Mistake-clause-added : goal.returns-in-Some-Mistake-clause-added
returns-in-Some-Mistake-clause-added g c h =
    let s = marked_study c.args.bench.now in
    let step = c.args.step.now in
    on_ok_weaker c.add_mistake.result
    (λ added. by-mark s step.steps.now step.played (Some variant.Mistake) c.args.facts.now c.add_mistake.new.facts
    (sym (c.in-Some-Mistake.is ∙ ap Some c.in-Some-Mistake.field-0-is) ∙ c.on_move.ensures ∙ c.requires.step.mark)
    (subst (λ (u : List ℕ). AddsMistake s u c.args.facts.now c.add_mistake.new.facts) c.requires.path added))
    (c.add_mistake.ensures.added h)

pub returns-in-Some-Mistake-clause-asked : goal.returns-in-Some-Mistake-clause-asked
returns-in-Some-Mistake-clause-asked g c =
    let s = marked_study c.args.bench.now in
    let node = c.args.node.now in
    asks-wider g.V.Values.source s.start.position node.node.position.now
    (leads-at s node.steps.now node.node.position.now c.start-first.ensures.study.playable c.requires.node.node.position)
    c.args.values.now c.add_mistake.new.values c.add_mistake.result c.add_mistake.ensures.asked

pub returns-in-Some-Only-clause-added : goal.returns-in-Some-Only-clause-added
returns-in-Some-Only-clause-added g c h =
    by-mark (marked_study c.args.bench.now) c.args.step.now.steps.now c.args.step.now.played (Some variant.Only) c.args.facts.now c.args.facts.now
    (sym (c.in-Some-Only.is ∙ ap Some c.in-Some-Only.field-0-is) ∙ c.on_move.ensures ∙ c.requires.step.mark) refl

pub returns-in-Some-Idle-clause-added : goal.returns-in-Some-Idle-clause-added
returns-in-Some-Idle-clause-added g c h =
    by-mark (marked_study c.args.bench.now) c.args.step.now.steps.now c.args.step.now.played (Some variant.Idle) c.args.facts.now c.args.facts.now
    (sym (c.in-Some-Idle.is ∙ ap Some c.in-Some-Idle.field-0-is) ∙ c.on_move.ensures ∙ c.requires.step.mark) refl

pub returns-in-Some-Reply-clause-added : goal.returns-in-Some-Reply-clause-added
returns-in-Some-Reply-clause-added g c h =
    by-mark (marked_study c.args.bench.now) c.args.step.now.steps.now c.args.step.now.played (Some variant.Reply) c.args.facts.now c.args.facts.now
    (sym (c.in-Some-Reply.is ∙ ap Some c.in-Some-Reply.field-0-is) ∙ c.on_move.ensures ∙ c.requires.step.mark) refl

pub returns-in-None-clause-added : goal.returns-in-None-clause-added
returns-in-None-clause-added g c h =
    by-mark (marked_study c.args.bench.now) c.args.step.now.steps.now c.args.step.now.played None c.args.facts.now c.args.facts.now
    (sym c.in-None.is ∙ c.on_move.ensures ∙ c.requires.step.mark) refl

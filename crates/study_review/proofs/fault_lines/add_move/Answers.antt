use Rattle.std.proofs.Common.{Some, None, refl, sym, ap, ◌∙◌}
use Rattle.study_marks.specs.BenchState.{marked_study}
use Rattle.study_marks.specs.declared.mark.MoveMark.TheVariants as variant
use Rattle.study_review.proofs.NodesReported.{no-fault}
use Rattle.study_facts.proofs.TimeCounted.{time-none}
use Rattle.study_review.proofs.fault_lines.add_move.Goals as goal

pub returns-in-Some-Only-clause-fault : goal.returns-in-Some-Only-clause-fault
returns-in-Some-Only-clause-fault g c h =
    no-fault (marked_study c.args.bench.now) c.args.step.now.steps.now c.args.step.now.before.aim.now c.args.step.now.before.depth c.args.step.now.line.now
    c.args.step.now.before.position.now c.args.step.now.played c.requires.made.step (Some variant.Only) c.args.draft.now.faults
    (sym (c.in-Some-Only.is ∙ ap Some c.in-Some-Only.field-0-is) ∙ c.on_move.ensures ∙ c.requires.made.mark) tt

pub returns-in-Some-Idle-clause-fault : goal.returns-in-Some-Idle-clause-fault
returns-in-Some-Idle-clause-fault g c h =
    no-fault (marked_study c.args.bench.now) c.args.step.now.steps.now c.args.step.now.before.aim.now c.args.step.now.before.depth c.args.step.now.line.now
    c.args.step.now.before.position.now c.args.step.now.played c.requires.made.step (Some variant.Idle) c.args.draft.now.faults
    (sym (c.in-Some-Idle.is ∙ ap Some c.in-Some-Idle.field-0-is) ∙ c.on_move.ensures ∙ c.requires.made.mark) tt

pub returns-in-Some-Reply-clause-fault : goal.returns-in-Some-Reply-clause-fault
returns-in-Some-Reply-clause-fault g c h =
    no-fault (marked_study c.args.bench.now) c.args.step.now.steps.now c.args.step.now.before.aim.now c.args.step.now.before.depth c.args.step.now.line.now
    c.args.step.now.before.position.now c.args.step.now.played c.requires.made.step (Some variant.Reply) c.args.draft.now.faults
    (sym (c.in-Some-Reply.is ∙ ap Some c.in-Some-Reply.field-0-is) ∙ c.on_move.ensures ∙ c.requires.made.mark) tt

pub returns-in-None-clause-fault : goal.returns-in-None-clause-fault
returns-in-None-clause-fault g c h =
    no-fault (marked_study c.args.bench.now) c.args.step.now.steps.now c.args.step.now.before.aim.now c.args.step.now.before.depth c.args.step.now.line.now
    c.args.step.now.before.position.now c.args.step.now.played c.requires.made.step None c.args.draft.now.faults (sym c.in-None.is ∙ c.on_move.ensures
    ∙ c.requires.made.mark) tt

pub returns-in_ok-add_listed_mistake-in-Some-Mistake-clause-time : goal.returns-in_ok-add_listed_mistake-in-Some-Mistake-clause-time
returns-in_ok-add_listed_mistake-in-Some-Mistake-clause-time g c h =
    time-none (marked_study c.args.bench.now) c.args.step.now.steps.now c.args.draft.now.time_faults (Some variant.Mistake)
    (sym (c.in-Some-Mistake.is ∙ ap Some c.in-Some-Mistake.field-0-is) ∙ c.on_move.ensures ∙ c.requires.made.mark) refl

pub returns-in-Some-Only-clause-time : goal.returns-in-Some-Only-clause-time
returns-in-Some-Only-clause-time g c h =
    time-none (marked_study c.args.bench.now) c.args.step.now.steps.now c.args.draft.now.time_faults (Some variant.Only)
    (sym (c.in-Some-Only.is ∙ ap Some c.in-Some-Only.field-0-is) ∙ c.on_move.ensures ∙ c.requires.made.mark) refl

pub returns-in-Some-Idle-clause-time : goal.returns-in-Some-Idle-clause-time
returns-in-Some-Idle-clause-time g c h =
    time-none (marked_study c.args.bench.now) c.args.step.now.steps.now c.args.draft.now.time_faults (Some variant.Idle)
    (sym (c.in-Some-Idle.is ∙ ap Some c.in-Some-Idle.field-0-is) ∙ c.on_move.ensures ∙ c.requires.made.mark) refl

pub returns-in-Some-Reply-clause-time : goal.returns-in-Some-Reply-clause-time
returns-in-Some-Reply-clause-time g c h =
    time-none (marked_study c.args.bench.now) c.args.step.now.steps.now c.args.draft.now.time_faults (Some variant.Reply)
    (sym (c.in-Some-Reply.is ∙ ap Some c.in-Some-Reply.field-0-is) ∙ c.on_move.ensures ∙ c.requires.made.mark) refl

pub returns-in-None-clause-time : goal.returns-in-None-clause-time
returns-in-None-clause-time g c h =
    time-none (marked_study c.args.bench.now) c.args.step.now.steps.now c.args.draft.now.time_faults None (sym c.in-None.is ∙ c.on_move.ensures
    ∙ c.requires.made.mark) refl

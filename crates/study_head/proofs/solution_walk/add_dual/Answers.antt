use Rattle.std.proofs.Common.{List, sym, ap, subst, ◌∙◌}
use Rattle.study_marks.specs.BenchState.{marked_study}
use Rattle.study_facts.specs.declared.time_loss.Alternative.{Alternative}
use Rattle.study_facts.specs.Time.{AreTimedAlternatives}
use Rattle.study_head.specs.Solution.{with_dual}
use Rattle.study_head.proofs.FactsMade.{dual-added}
use Rattle.study_head.proofs.solution_walk.add_dual.Goals as goal

pub returns-in-Ok-clause-added : goal.returns-in-Ok-clause-added
returns-in-Ok-clause-added g c h =
    let s = marked_study c.args.bench.now in
    let step = c.args.step.now in
    let before = step.before in
    dual-added s step c.requires c.as_slice.result.now c.args.facts.now c.note_dual.new.self
    (subst (λ (l : List Alternative). AreTimedAlternatives before.aim.now before.depth step.line.now before.position.now step.played l)
    (sym c.as_slice.ensures.value) (c.in-Ok.ensures.game h))
    (c.note_dual.ensures ∙ ap (with_dual c.args.facts.now) c.dual_at.ensures)

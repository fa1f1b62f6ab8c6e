use Rattle.std.proofs.Common.{◌==◌, ◌&&◌, ◌||◌, not, length, refl, ap, ◌∙◌}
use Rattle.study_marks.specs.BenchState.{marked_study}
use Rattle.study_marks.specs.declared.mark_rules.Aim.{Aim}
use Rattle.study_marks.specs.Goals.{hero_moves}
use Rattle.study_facts.proofs.Stands.{arrival-legal, stand-after}
use Rattle.study_facts.proofs.walk_state.walk_state_after.Goals as goal

pub played-requires : goal.played-requires
played-requires g c =
    arrival-legal (marked_study c.args.bench.now) c.args.steps.now c.args.by.now c.requires.by c.in-Some.front.now _ c.in-Some.ensures.cases.0
    c.start-first.ensures.study.playable c.args.before.now c.requires.before

pub returns : goal.returns
returns g c =
    stand-after (marked_study c.args.bench.now) c.args.steps.now c.args.by.now c.requires.by c.in-Some.front.now _ c.in-Some.ensures.cases.0
    c.start-first.ensures.study.playable c.args.before.now _ c.requires.before c.played.ensures.value refl
    (c.is_solution.ensures ∙ ap (λ (x : Aim). c.args.before.now.solution && (not (hero_moves x (length c.in-Some.front.now)) || (c.in-Some.place.now == 0)))
    c.requires.aim)
    c.is_quiet.ensures

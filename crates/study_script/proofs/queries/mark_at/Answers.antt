use Rattle.std.proofs.Common.{refl, sym, ◌∙◌}
use Rattle.study_tree.specs.Tree.{spot_at}
use Rattle.study_marks.specs.BenchState.{marked_study}
use Rattle.study_script.specs.State.{quiet}
use Rattle.study_script.proofs.HeldBehindReplies.{bench_kept, mark_reported, mark_missing}
use Rattle.study_script.proofs.queries.mark_at.Goals as goal

pub returns-in-Some : goal.returns-in-Some
returns-in-Some g c = λ s h.
    let m = marked_study c.args.bench.now in
    let steps = c.args.path in (
      quiet,
      s,
      (m, h.marks.marks, refl, mark_reported s steps (spot_at m.tree steps) c.in-Some.mark (sym c.in-Some.is ∙ c.mark.ensures)),
      bench_kept c.args.bench.now s h,
    )

pub returns : goal.returns
returns g c = λ s h.
    let m = marked_study c.args.bench.now in
    let steps = c.args.path in (
      quiet,
      s,
      (m, h.marks.marks, refl, mark_missing s steps (spot_at m.tree steps) (sym c.in-None.is ∙ c.mark.ensures)),
      bench_kept c.args.bench.now s h,
    )

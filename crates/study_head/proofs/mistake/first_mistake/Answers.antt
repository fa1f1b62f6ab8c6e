use Rattle.std.proofs.Common.{◌∙◌}
use Rattle.study_marks.specs.BenchState.{marked_study}
use Rattle.study_head.proofs.FirstMistake.{found-first}
use Rattle.study_head.proofs.mistake.first_mistake.Goals as goal

pub returns-clause-first : goal.returns-clause-first
returns-clause-first g c =
    c.mistake_below.ensures.first
    ∙ found-first (marked_study c.args.bench.now) c.aim_in-aim.result c.start-start.result.now c.root-root.result c.aim_in-aim.ensures
    c.start-start.ensures.value c.root-root.ensures

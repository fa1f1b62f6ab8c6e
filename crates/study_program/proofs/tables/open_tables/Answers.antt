use Rattle.std.proofs.Common.{List, ◌<◌, length, sym, subst}
use Rattle.study_material.specs.declared.class.Class.{Class}
use Rattle.study_material.specs.declared.class.Class.TheVariants.{KK}
use Rattle.study_program.proofs.ErrorsWritten.{next_class}
use Rattle.study_program.proofs.tables.open_tables.Goals as goal

pub loop-class-preserved : goal.loop-class-preserved
loop-class-preserved g c =
    let all = c.loop-class.invariant.0 in (
      all,
      next_class c.args.program.now c.all-class-items.result.now c.loop-class.class-index KK (g.E.Write.contents c.args.errors.now)
          (g.E.Write.contents c.loop-class.errors) (g.E.Write.contents c.open_or_report.new.errors)
          (subst (λ (l : List Class). c.loop-class.class-index < length l) (sym all) c.loop-class-test.true)
          c.loop-class.invariant.1 c.open_or_report.ensures,
    )

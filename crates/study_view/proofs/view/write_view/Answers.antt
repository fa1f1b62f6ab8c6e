use Rattle.std.proofs.Common.{List, ℕ, refl, subst, ap, Err}
use Rattle.std.specs.Io.KnownBytes.{Appends}
use Rattle.study_marks.specs.BenchState.{marked_study}
use Rattle.study_text.specs.Taken.{TakesPrefix}
use Rattle.study_view.specs.declared.fault.ViewFault.TheVariants.{Device}
use Rattle.study_view.proofs.AllAsked.{refused-so}
use Rattle.study_view.proofs.view.write_view.Goals as goal

pub returns-in_err-text-clause-device : goal.returns-in_err-text-clause-device
returns-in_err-text-clause-device g c h e =
    absurd (c.in_err-text.ensures.device (ap Err (refused-so c.from_residual.result c.in_err-text.field-0.0 Device c.from_residual.ensures.1 e)))

pub returns-clause-device : goal.returns-clause-device
returns-clause-device g c h e = (
  c.in_ok-text.text,
  c.in_ok-text.ensures.text h,
  subst (λ (t : List ℕ). TakesPrefix (g.W.Write.contents c.args.out.now) (g.W.Write.contents c.write_text.new.out) t) c.as_slice.ensures c.in-Err.ensures.err,
)

pub returns-in-Ok-clause-ok : goal.returns-in-Ok-clause-ok
returns-in-Ok-clause-ok g c h = (
  c.in_ok-text.text,
  c.in_ok-text.ensures.text h,
  subst (λ (t : List ℕ). Appends (g.W.Write.contents c.args.out.now) (g.W.Write.contents c.write_text.new.out) t) c.as_slice.ensures c.in-Ok.ensures.ok,
)

pub returns-in-Ok-clause-plain : goal.returns-in-Ok-clause-plain
returns-in-Ok-clause-plain g c h right = (
  c.in_ok-text.text,
  (marked_study c.args.bench.now, refl, right.marks, c.in_ok-text.ensures.text h),
  subst (λ (t : List ℕ). Appends (g.W.Write.contents c.args.out.now) (g.W.Write.contents c.write_text.new.out) t) c.as_slice.ensures c.in-Ok.ensures.ok,
)

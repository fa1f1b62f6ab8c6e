use Rattle.std.proofs.Common.{List, ℕ, refl, subst}
use Rattle.study_text.specs.Taken.{TakesPrefix}
use Rattle.study_marks.specs.BenchState.{marked_study}
use Rattle.study_page.proofs.csv.write_record.Goals as goal

pub returns-in_err-write_text-clause-device : goal.returns-in_err-write_text-clause-device
returns-in_err-write_text-clause-device g c h right e = (
  c.in_ok-text.text,
  (marked_study c.args.bench.now, refl, right.marks, c.in_ok-text.ensures.text h),
  subst (λ (t : List ℕ). TakesPrefix (g.W.Write.contents c.args.out.now) (g.W.Write.contents c.write_text.new.out) t) c.as_slice.ensures
      c.in_err-write_text.ensures.err,
)

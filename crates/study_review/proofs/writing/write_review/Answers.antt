use Rattle.std.proofs.Common.{List, ℕ, subst}
use Rattle.study_text.specs.Taken.{TakesPrefix}
use Rattle.study_review.proofs.writing.write_review.Goals as goal

pub returns-in_err-write_text-clause-device : goal.returns-in_err-write_text-clause-device
returns-in_err-write_text-clause-device g c h e = (
  c.in_ok-text.text,
  c.in_ok-text.ensures.text h,
  subst (λ (t : List ℕ). TakesPrefix (g.W.Write.contents c.args.out.now) (g.W.Write.contents c.write_text.new.out) t) c.as_slice.ensures
      c.in_err-write_text.ensures.err,
)

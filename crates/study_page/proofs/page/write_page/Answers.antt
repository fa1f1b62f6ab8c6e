use Rattle.std.proofs.Common.{List, ℕ, subst}
use Rattle.study_text.specs.Taken.{TakesPrefix}
use Rattle.study_page.proofs.page.write_page.Goals as goal

pub returns-in_err-write_text-clause-device : goal.returns-in_err-write_text-clause-device
returns-in_err-write_text-clause-device g c h e = (
  c.in_ok-entry.entry.page,
  c.in_ok-entry.ensures.text h,
  subst (λ (t : List ℕ). TakesPrefix (g.W.Write.contents c.args.out.now) (g.W.Write.contents c.write_text.new.out) t) c.as_slice.ensures.text
      c.in_err-write_text.ensures.err,
)

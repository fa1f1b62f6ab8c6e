use Rattle.std.proofs.Common.{refl}
use Rattle.study_marks.proofs.laws.edits_in_rows.Goals as goal

pub returns : goal.returns
returns c = (
  (λ s start. refl),
  (λ s start. refl),
  (λ s steps m. c.edits_in_rows.ensures.0 s.tree steps m tt),
  (λ s k ks. c.edits_in_rows.ensures.1 s.tree k ks),
  λ s steps h. c.edits_in_rows.ensures.2 s.tree steps h,
)

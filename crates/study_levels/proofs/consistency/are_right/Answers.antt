use Rattle.std.proofs.Common.{◌≡◌, inr, refl, true, false}
use Rattle.study_table.proofs.ClassLemmas.{other-wrong, cells-settled}
use Rattle.study_levels.proofs.consistency.are_right.Goals as goal

pub returns-in-None : goal.returns-in-None
returns-in-None g c = λ outer.
    (λ e n b. cells-settled c.requires.laws c.args.cells.now outer (λ k l. inr (c.in-None.ensures.given k l)) n b, λ right. refl)

pub returns-in-Some : goal.returns-in-Some
returns-in-Some g c = λ outer. (
  λ e. absurd (let no : false ≡ true = e in cc),
  λ right. absurd (other-wrong c.requires.laws c.args.cells.now outer right c.in-Some.field-0 c.in-Some.ensures.other.0 c.in-Some.ensures.other.1),
)

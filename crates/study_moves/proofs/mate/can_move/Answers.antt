use Rattle.std.proofs.Common.{ℕ, sym, ◌∙◌, ap}
use Rattle.std.proofs.lemmas.Bool.{not-false}
use Rattle.study_board.specs.Sets.{has}
use Rattle.study_board.proofs.EqualMen.{side_same}
use Rattle.study_board.proofs.SetBits.{has-zero}
use Rattle.study_moves.proofs.mate.can_move.Goals as goal

pub returns-then-is_empty-clause-no : goal.returns-then-is_empty-clause-no
returns-then-is_empty-clause-no c = λ f his x on.
    sym (c.safe_targets-targets.ensures x on) ∙ ap (λ (s : ℕ). has s x) (c.is_empty.ensures.0 c.if-is_empty.true) ∙ has-zero x

pub returns-clause-yes : goal.returns-clause-yes
returns-clause-yes c = λ t. (
  sym (side_same _ _) ∙ not-false _ (sym c.ne.ensures ∙ c.if-ne.false),
  (
    c.first-target.result,
    c.first-target.ensures.inside,
    sym (c.safe_targets-targets.ensures c.first-target.result c.first-target.ensures.inside) ∙ c.first-target.ensures.there,
  ),
)

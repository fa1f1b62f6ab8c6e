use Rattle.std.proofs.Common.{true, ◌≡◌, subst}
use Rattle.study_board.specs.Equal.{same_position}
use Rattle.study_board.specs.EqualLaws.{same_position-self, same_position-equal}
use Rattle.study_board.proofs.position.equal_positions_are_one.Goals as goal

pub returns : goal.returns
returns c = λ p q. (same_position-equal p q, λ same. subst (λ x. same_position p x ≡ true) same (same_position-self p))

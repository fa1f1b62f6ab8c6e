-- The derived `==` of moves, and the comparison that the contracts name.
use Rattle.std.proofs.Common.{◌≡◌, Bool, true, false, ◌&&◌, ◌==◌, refl, ap, ◌∙◌}
use Rattle.std.specs.Option.{option_eq}
use Rattle.study_board.specs.contracts.men.KindPartialEq.TheImpl.{eq-value as kind_eq}
use Rattle.study_moves.specs.declared.moves.Move.{Move}
use Rattle.study_moves.specs.contracts.moves.MovePartialEq.TheImpl.{eq-value as move_eq}
use Rattle.study_notation.proofs.EqualPromotions.{promotion_same}
use Rattle.study_marks.specs.Study.{same_move}

regrouped : (a b c : Bool) → (a && (b && c)) ≡ ((a && b) && c)
regrouped true b c = refl
regrouped false b c = refl

pub move_same : (m n : Move) → move_eq.it m n ≡ same_move m n
move_same m n =
    regrouped (m.origin == n.origin) (m.target == n.target) (option_eq kind_eq.it m.promoted n.promoted)
    ∙ ap (λ b. (m.origin == n.origin) && (m.target == n.target) && b) (promotion_same m.promoted n.promoted)

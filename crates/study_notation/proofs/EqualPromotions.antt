-- The derived `==` of two promotions, and the comparison that the contracts name.
use Rattle.std.proofs.Common.{◌≡◌, Option, Some, None, refl}
use Rattle.std.specs.Option.{option_eq}
use Rattle.study_board.specs.declared.men.Kind.{Kind}
use Rattle.study_board.specs.contracts.men.KindPartialEq.TheImpl.{eq-value as kind_eq}
use Rattle.study_board.proofs.EqualMen.{kind_same}
use Rattle.study_notation.specs.Matching.{same_promotion}

pub promotion_same : (q r : Option Kind) → option_eq kind_eq.it q r ≡ same_promotion q r
promotion_same None None = refl
promotion_same None (Some y) = refl
promotion_same (Some x) None = refl
promotion_same (Some x) (Some y) = kind_same x y

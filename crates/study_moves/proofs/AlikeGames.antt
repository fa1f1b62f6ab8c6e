-- Positions that are alike have the same game.
use Rattle.std.proofs.Common.{sym, subst}
use Rattle.study_board.specs.Position.{Position}
use Rattle.study_board.proofs.ImagesOfImages.{IsTurnable-from_valid}
use Rattle.study_moves.specs.EnPassant.{without_idle_passed_square}
use Rattle.study_moves.specs.Alike.{AreAlike}
use Rattle.study_moves.specs.Laws.{HasSameGame, AgreesAlike}
use Rattle.study_moves.proofs.ImageMates.{HasSameGame-image}
use Rattle.study_moves.proofs.BarePassing.{AgreesWithBare-from_valid}
use Rattle.study_moves.proofs.AfterMove.{IsValid-after}
use Rattle.study_moves.proofs.AlikePositions.{AreAlike-back, AreAlike-move}
use Rattle.study_moves.proofs.OneValue.{HasSameGame-back, HasSameGame-joined, HasSameValue-from_game}

pub HasSameGame-alike : (p q : Position) → AreAlike p q → HasSameGame p q
HasSameGame-alike p q h =
    let b = AgreesWithBare-from_valid p h.left in
    let c = AgreesWithBare-from_valid q h.right in
    let t = IsTurnable-from_valid h.images.by (without_idle_passed_square p) b.valid h.images.admitted in
    let turned : HasSameGame (without_idle_passed_square p) (without_idle_passed_square q) =
    subst (λ (x : Position). HasSameGame (without_idle_passed_square p) x) (sym h.images.is)
    (HasSameGame-image h.images.by (without_idle_passed_square p) t) in
    HasSameGame-joined p (without_idle_passed_square p) q b.game (HasSameGame-joined (without_idle_passed_square p) (without_idle_passed_square q) q turned
    (HasSameGame-back q (without_idle_passed_square q) c.game))

pub AgreesAlike-from : (p q : Position) → AreAlike p q → AgreesAlike p q
AgreesAlike-from p q h =
    let g = HasSameGame-alike p q h in
    record {
      back = AreAlike-back p q h;
      move = λ p' l. AreAlike-move IsValid-after p q p' h l;
      game = g;
      value = HasSameValue-from_game p q g;
    }

use Rattle.study_board.proofs.ImagesOfImages.{IsTurnable-from_valid}
use Rattle.study_board.specs.Symmetry.{image}
use Rattle.study_moves.proofs.RulesOfImages.{is_legal-turned, after-turned}
use Rattle.study_moves.proofs.ImageMates.{HasSameGame-image}
use Rattle.study_moves.proofs.OneValue.{HasSameValue-from_game}
use Rattle.study_moves.proofs.laws.images_agree.Goals as goal

pub returns : goal.returns
returns c = λ s p v a.
    let t = IsTurnable-from_valid s p v a in
    let g = HasSameGame-image s p t in
    record { legal = is_legal-turned s p t; after = after-turned s p t; game = g; value = HasSameValue-from_game p (image s p) g }

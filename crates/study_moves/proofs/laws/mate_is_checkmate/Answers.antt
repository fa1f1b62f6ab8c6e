use Rattle.study_moves.proofs.LegalLists.{is_mate_is}
use Rattle.study_moves.proofs.laws.mate_is_checkmate.Goals as goal

pub returns : goal.returns
returns c = is_mate_is

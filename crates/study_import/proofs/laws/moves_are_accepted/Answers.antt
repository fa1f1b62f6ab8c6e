use Rattle.std.proofs.Common.{length, true}
use Rattle.study_import.specs.Blocks.{no_moves, game_read}
use Rattle.study_import.specs.FewMen.{read_moves}
use Rattle.study_reading.proofs.NoneBehind.{end_is}
use Rattle.study_import.proofs.Made.{moves_lead}
use Rattle.study_import.proofs.TextAgain.{read_again}
use Rattle.study_import.proofs.laws.moves_are_accepted.Goals as goal

pub returns : goal.returns
unfolding game_read
returns c = λ text start x is.
    let l = moves_lead (Unit {0}) (length text) true text (no_moves start) x (end_is (read_moves (length text) true text (no_moves start)) x is) in
    (l, λ valid. read_again (Unit {0}) (no_moves start).reading.study l.insertions valid tt l.accepted)

use Rattle.study_notation.proofs.MeansLegal.{picked_legal}
use Rattle.study_notation.proofs.san_reader.read_san.Goals as goal

pub returns-in-Some-clause-legal : goal.returns-in-Some-clause-legal
returns-in-Some-clause-legal c =
    picked_legal c.args.p.now c.in-Some.san c.as_slice.result.now c.legal_moves-moves.result.items
    c.find_move.result c.as_slice.ensures.value c.legal_moves-moves.ensures.listed c.find_move.ensures

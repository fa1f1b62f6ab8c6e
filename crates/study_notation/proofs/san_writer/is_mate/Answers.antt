use Rattle.study_moves.proofs.LegalLists.{mate_tested}
use Rattle.study_notation.proofs.san_writer.is_mate.Goals as goal

pub returns : goal.returns
returns c = mate_tested c.args.p.now c.is_mate.result c.men-valid.ensures.valid c.is_mate.ensures

use Rattle.std.proofs.Common.{◌∙◌}
use Rattle.study_notation.proofs.PlacementFaults.{position_decoded}
use Rattle.study_notation.proofs.fen_reader.position_of.Goals as goal

pub returns : goal.returns
returns c =
    let said = c.new.ensures in
    let asked = c.requires in
    c.ok.ensures.value ∙ position_decoded c.args.men.now c.args.to_move c.args.passed c.new.result asked.ordered
    asked.placed asked.safe said.fault said.men said.to_move said.passed said.valid

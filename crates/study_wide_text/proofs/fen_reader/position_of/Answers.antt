use Rattle.std.proofs.Common.{◌∙◌}
use Rattle.study_wide_text.proofs.WideFen.{position_decoded}
use Rattle.study_wide_text.proofs.fen_reader.position_of.Goals as goal

pub returns : goal.returns
returns c =
    let said = c.new.ensures in
    let asked = c.requires in
    c.ok.ensures.value ∙ position_decoded c.args.men.now c.args.to_move c.args.passed c.args.rights c.new.result asked.ordered
    asked.placed asked.safe asked.fit said.known said.value

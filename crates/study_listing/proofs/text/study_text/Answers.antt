use Rattle.std.proofs.Common.{List, ap, ◌∙◌}
use Rattle.study_moves.specs.declared.moves.Move.{Move}
use Rattle.study_listing.specs.Lines.{study_of}
use Rattle.study_listing.specs.MainLines.{few_moves}
use Rattle.study_listing.proofs.MainLines.{study-shown}
use Rattle.study_listing.proofs.text.study_text.Goals as goal

pub returns-in-Ok-main_line_of-clause-game : goal.returns-in-Ok-main_line_of-clause-game
returns-in-Ok-main_line_of-clause-game g c h =
    let is = c.in-Ok.ensures.game h in
    study-shown c.args.p.now c.in-Ok.value c.in-Ok-main_line_of.row.items c.study_with.result.bytes is
    (c.in-Ok-main_line_of.ensures.game (c.value_of.ensures.honest h) is)
    (c.study_with.ensures ∙ ap (λ (r : List Move). study_of c.args.p.now c.in-Ok.value (few_moves r)) c.as_slice.ensures.value)

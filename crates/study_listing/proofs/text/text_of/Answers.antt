use Rattle.std.proofs.Common.{IfOk, sym, subst}
use Rattle.study_listing.specs.declared.text.Form.{Form}
use Rattle.study_listing.specs.Facts.{IsTextOf}
use Rattle.study_listing.proofs.text.text_of.Goals as goal

pub returns-in-Script-clause-game : goal.returns-in-Script-clause-game
returns-in-Script-clause-game g c h =
    subst (λ (f : Form). IfOk c.study_text.result (λ text. IsTextOf f c.args.theme c.args.p.now text.bytes)) (sym c.in-Script.is)
    (c.study_text.ensures.game h)

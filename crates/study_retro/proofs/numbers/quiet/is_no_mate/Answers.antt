use Rattle.std.proofs.Common.{sym, ◌∙◌}
use Rattle.std.proofs.lemmas.Bool.{false≢true}
use Rattle.study_retro.proofs.numbers.quiet.is_no_mate.Goals as goal

pub returns-then-not-is_checked : goal.returns-then-not-is_checked
returns-then-not-is_checked c = λ t q at mate. false≢true (sym c.if-not-is_checked.true ∙ sym (c.is_checked.ensures q at) ∙ mate.0)

pub returns : goal.returns
returns c = λ t q at mate. let m = c.has_move.ensures.yes t q at in mate.1 m.0 m.1

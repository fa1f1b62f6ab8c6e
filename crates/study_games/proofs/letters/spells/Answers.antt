use Rattle.std.proofs.Common.{◌∙◌}
use Rattle.study_games.proofs.Figurines.{letter_met}
use Rattle.study_games.proofs.letters.spells.Goals as goal

pub loop-letter-preserved : goal.loop-letter-preserved
loop-letter-preserved c =
    letter_met c.in-Some.letter c.in-Some.behind.now c.loop-letter.rest.now c.loop-letter.left.now c.in-Some.ensures c.in-len1-up.len_at_least
    c.if-first-letter.true
    ∙ c.loop-letter.invariant

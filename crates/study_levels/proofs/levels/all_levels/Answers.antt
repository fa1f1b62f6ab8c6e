use Rattle.std.proofs.Common.{false, arith}
use Rattle.study_levels.proofs.StillLemmas.{still-last, still-right}
use Rattle.study_levels.proofs.levels.all_levels.Goals as goal

pub returns-then-not-has_longer_mate-clause-held : goal.returns-then-not-has_longer_mate-clause-held
returns-then-not-has_longer_mate-clause-held g c = λ outer far h.
    still-last c.requires.laws outer far c.loop-level.cells c.loop-level.level (omega arith)
    (λ j b. c.has_longer_mate.ensures.none c.if-not-has_longer_mate.true j) (c.loop-level.invariant.held outer far h)

pub returns-then-not-has_longer_mate-clause-right : goal.returns-then-not-has_longer_mate-clause-right
returns-then-not-has_longer_mate-clause-right g c = λ outer h s.
    still-right c.requires.laws outer c.loop-level.cells c.loop-level.level
    (λ j b. c.has_longer_mate.ensures.none c.if-not-has_longer_mate.true j) (c.loop-level.invariant.held outer false h)

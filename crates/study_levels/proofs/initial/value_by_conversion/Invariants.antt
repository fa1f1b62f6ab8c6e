use Rattle.std.proofs.Common.{◌≡◌, false, take}
use Rattle.study_levels.proofs.DueTally.{IsTallyOf}
use Rattle.study_levels.proofs.initial.value_by_conversion.Given as goal

abbrev pub invariant-loop-by : goal.invariant-loop-by
invariant-loop-by g l =
    IsTallyOf (λ m. (g.G.Game.numbered l.game).home ((g.G.Game.numbered l.game).after l.at m) ≡ false)
    (λ m. (g.G.Game.numbered l.game).outside ((g.G.Game.numbered l.game).after l.at m))
    (take l.by-index l.by-items) l.replies.lost l.replies.won l.replies.drawn

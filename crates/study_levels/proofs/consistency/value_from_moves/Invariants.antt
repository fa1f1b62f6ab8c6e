use Rattle.std.proofs.Common.{take}
use Rattle.study_levels.specs.Numbered.{label_by}
use Rattle.study_levels.proofs.TallyLemmas.{IsTally}
use Rattle.study_levels.proofs.consistency.value_from_moves.Given as goal

abbrev pub invariant-loop-by : goal.invariant-loop-by
invariant-loop-by g l =
    IsTally (λ m. label_by (g.G.Game.numbered l.game) l.cells ((g.G.Game.numbered l.game).after l.at m))
    (take l.by-index l.by-items) l.replies.lost l.replies.won l.replies.drawn

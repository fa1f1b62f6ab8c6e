use Rattle.std.proofs.Common.{◌≡◌, true, ◌↔◌, sym, subst}
use Rattle.study_search.specs.OnlyMoves.{Holds}
use Rattle.study_search.proofs.OnlyMoves.{holds-by}
use Rattle.study_search.proofs.only_moves.holds.Goals as goal

pub returns-in-Ok-clause-game : goal.returns-in-Ok-clause-game
returns-in-Ok-clause-game g c h =
    subst (λ b. (b ≡ true) ↔ Holds c.args.outcome c.args.q.now) (sym c.keeps_outcome.ensures)
    (holds-by c.values_are_unique.ensures c.args.outcome c.args.q.now c.in-Ok.value (c.in-Ok.ensures.game h))

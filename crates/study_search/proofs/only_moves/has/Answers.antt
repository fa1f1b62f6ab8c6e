use Rattle.std.proofs.Common.{◌≡◌, true, ◌↔◌, sym, subst}
use Rattle.study_search.specs.OnlyMoves.{Has}
use Rattle.study_search.proofs.OnlyMoves.{has-by}
use Rattle.study_search.proofs.only_moves.has.Goals as goal

pub returns-in-Ok-clause-game : goal.returns-in-Ok-clause-game
returns-in-Ok-clause-game g c h =
    subst (λ b. (b ≡ true) ↔ Has c.args.outcome c.args.p.now) (sym c.has_outcome.ensures)
    (has-by c.values_are_unique.ensures c.args.outcome c.args.p.now c.in-Ok.value (c.in-Ok.ensures.game h))

use Rattle.std.proofs.Common.{◌≡◌, ℕ, Option, Some, ◌↔◌, sym, subst}
use Rattle.study_moves.specs.Game.{IsWon}
use Rattle.study_search.proofs.LongestFound.{mate-by}
use Rattle.study_search.proofs.longest.mate_of.Goals as goal

pub returns-in-Ok-clause-game : goal.returns-in-Ok-clause-game
returns-in-Ok-clause-game g c h =
    subst (λ (mate : Option ℕ). (k : ℕ) → (mate ≡ Some k) ↔ IsWon c.args.p.now k) (sym c.mate_by.ensures)
    (mate-by c.values_are_unique.ensures c.args.p.now c.in-Ok.value (c.in-Ok.ensures.game h))

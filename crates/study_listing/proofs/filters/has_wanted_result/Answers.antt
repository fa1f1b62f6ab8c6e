use Rattle.std.proofs.Common.{◌≡◌, ◌↔◌, true, Option, IfOk, sym, subst}
use Rattle.study_search.specs.declared.only_moves.Outcome.{Outcome}
use Rattle.study_listing.specs.Filters.{HasWantedResult}
use Rattle.study_listing.proofs.filters.has_wanted_result.Goals as goal

pub returns-in-Some-clause-game : goal.returns-in-Some-clause-game
returns-in-Some-clause-game g c h =
    subst (λ (o : Option Outcome). IfOk c.has_only_moves.result (λ b. (b ≡ true) ↔ HasWantedResult o c.args.p.now)) (sym c.in-Some.is)
    (c.has_only_moves.ensures.game h)

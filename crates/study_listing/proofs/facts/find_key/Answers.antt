use Rattle.std.proofs.Common.{subst}
use Rattle.study_values.specs.declared.value.Value.{Value}
use Rattle.study_values.specs.Game.{IsValueOf}
use Rattle.study_listing.proofs.Said.{no-key-of-loss}
use Rattle.study_listing.proofs.facts.find_key.Goals as goal

pub returns-in-Loss-clause-game : goal.returns-in-Loss-clause-game
returns-in-Loss-clause-game g c h is =
    no-key-of-loss c.values_are_unique.ensures c.args.p.now c.in-Loss.field-0 (subst (λ (v : Value). IsValueOf c.args.p.now v) c.in-Loss.is is)

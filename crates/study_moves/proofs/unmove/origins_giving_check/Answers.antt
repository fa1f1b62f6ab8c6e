use Rattle.std.proofs.Common.{◌∙◌, refl}
use Rattle.study_moves.specs.Unmoves.{set_back}
use Rattle.study_moves.proofs.BearsBothWays.{bears_past-both}
use Rattle.study_moves.proofs.unmove.origins_giving_check.Goals as goal

pub returns : goal.returns
returns c a la =
    c.attacks_without.ensures a la
    ∙ bears_past-both c.args.men.now c.args.man.now.at (set_back c.args.man.now a)
    (record { side = c.other.result; kind = c.args.man.now.kind; at = c.args.k }) c.other.ensures refl

use Rattle.std.proofs.Common.{◌≡◌, true, ◌↔◌, IfOk, subst}
use Rattle.study_board.specs.Position.{Position}
use Rattle.study_material.specs.Needs.{NeedsClass}
use Rattle.study_search.specs.OnlyMoves.{Holds}
use Rattle.study_search.proofs.Faults.{needs-across, if-wider}
use Rattle.study_search.proofs.zugzwang.holds_on.Goals as goal

pub returns-in-None-clause-game : goal.returns-in-None-clause-game
returns-in-None-clause-game g c h valid = absurd (c.in-None.ensures.none valid)

pub returns-in-Some-clause-game : goal.returns-in-Some-clause-game
returns-in-Some-clause-game g c h valid =
    subst (λ (q : Position). IfOk c.holds.result (λ b. (b ≡ true) ↔ Holds c.args.outcome q)) c.in-Some.ensures.some.0 (c.holds.ensures.game h)

pub returns-in-Some-clause-faults : goal.returns-in-Some-clause-faults
returns-in-Some-clause-faults g c =
    if-wider g.V.Values.source (NeedsClass c.in-Some.q) (NeedsClass c.args.p.now)
    (needs-across c.args.p.now c.in-Some.q c.in-Some.ensures.some.0) c.args.values.now c.holds.result c.holds.ensures.faults

use Rattle.study_material.specs.Needs.{NeedsClass}
use Rattle.study_search.proofs.Faults.{needs-across, if-wider}
use Rattle.std.proofs.Common.{sym, ◌∙◌}
use Rattle.study_search.proofs.HalfPoints.{none-passing, none-other, other-by}
use Rattle.study_search.proofs.zugzwang.other_scores_less.Goals as goal

pub returns-then-passing-clause-game : goal.returns-then-passing-clause-game
returns-then-passing-clause-game g c h =
    none-passing c.args.p.now c.args.limit (sym c.has_legal_en_passant-passing.ensures ∙ c.if-passing.true)

pub returns-in-None-clause-game : goal.returns-in-None-clause-game
returns-in-None-clause-game g c h = none-other c.args.p.now c.args.limit c.in-None.ensures.none

pub returns-in-Some-clause-game : goal.returns-in-Some-clause-game
returns-in-Some-clause-game g c h =
    other-by c.args.p.now c.in-Some.q c.args.limit c.scores_less_than.result (sym c.has_legal_en_passant-passing.ensures ∙ c.if-passing.false)
    c.in-Some.ensures.some.0 c.in-Some.ensures.some.2 (c.scores_less_than.ensures.game h)

pub returns-in-Some-clause-faults : goal.returns-in-Some-clause-faults
returns-in-Some-clause-faults g c =
    if-wider g.V.Values.source (NeedsClass c.in-Some.q) (NeedsClass c.args.p.now)
    (needs-across c.args.p.now c.in-Some.q c.in-Some.ensures.some.0) c.args.values.now c.scores_less_than.result c.scores_less_than.ensures.faults

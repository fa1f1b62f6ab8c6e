use Rattle.study_material.specs.Needs.{IsNeeded, NeedsClass}
use Rattle.study_search.proofs.Faults.{needs-decoded, if-wider}
use Rattle.std.proofs.Common.{Some, sym, ap, ◌∙◌}
use Rattle.study_search.specs.Finding.{is_for}
use Rattle.study_search.proofs.SideDecoded.{no-mate}
use Rattle.study_search.proofs.LongestFound.{for-number, no-number}
use Rattle.study_search.proofs.longest.mate_at.Goals as goal

pub returns-in-None-clause-game : goal.returns-in-None-clause-game
returns-in-None-clause-game g c h = no-number c.args.class c.args.side c.args.number c.in-None.ensures.value

pub returns-in-Some-clause-game : goal.returns-in-Some-clause-game
returns-in-Some-clause-game g c h =
    for-number c.args.class c.args.side c.args.number c.in-Some.p c.mate_for.result c.in-Some.ensures.value (c.mate_for.ensures.game h)

pub returns-then-not-wanted-clause-game : goal.returns-then-not-wanted-clause-game
returns-then-not-wanted-clause-game g c h =
    no-mate c.args.class c.args.side c.args.number
    (sym (c.is_for-wanted.ensures ∙ ap (λ x. is_for (Some c.args.side) x) c.side_at.ensures) ∙ c.if-not-wanted.true)

pub returns-in-Some-clause-faults : goal.returns-in-Some-clause-faults
returns-in-Some-clause-faults g c =
    if-wider g.V.Values.source (NeedsClass c.in-Some.p) (IsNeeded c.args.class)
    (needs-decoded c.args.class c.args.number c.in-Some.p c.in-Some.ensures.some) c.args.values.now c.mate_for.result c.mate_for.ensures.faults

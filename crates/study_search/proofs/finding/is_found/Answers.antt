use Rattle.study_material.specs.Needs.{IsNeeded, NeedsClass}
use Rattle.study_search.proofs.Faults.{needs-decoded, if-wider}
use Rattle.std.proofs.Common.{sym, ap, ◌∙◌}
use Rattle.study_search.specs.Finding.{is_for}
use Rattle.study_search.proofs.SideDecoded.{not-found}
use Rattle.study_search.proofs.finding.is_found.Goals as goal

pub returns-then-not-wanted-clause-game : goal.returns-then-not-wanted-clause-game
returns-then-not-wanted-clause-game g c h =
    not-found c.args.search.now c.args.number
    (sym (c.is_for-wanted.ensures ∙ ap (λ x. is_for c.args.search.now.side x) c.side_at.ensures) ∙ c.if-not-wanted.true)

pub returns-in-Some-clause-faults : goal.returns-in-Some-clause-faults
returns-in-Some-clause-faults g c =
    if-wider g.V.Values.source (NeedsClass c.in-Some.p) (IsNeeded c.args.search.now.class)
    (needs-decoded c.args.search.now.class c.args.number c.in-Some.p c.in-Some.ensures.some) c.args.values.now c.is_looked_for.result
    c.is_looked_for.ensures.faults

use Rattle.study_material.specs.Needs.{NeedsClass}
use Rattle.study_search.proofs.Faults.{needs-across, reported-wider}
use Rattle.study_listing.proofs.facts.other_value.Goals as goal

pub returns-in-Err-clause-faults : goal.returns-in-Err-clause-faults
returns-in-Err-clause-faults g c =
    reported-wider g.V.Values.source (NeedsClass c.in-Some.q) (NeedsClass c.args.p.now)
    (needs-across c.args.p.now c.in-Some.q c.in-Some.ensures.some.0) c.args.values.now c.in-Err.fault c.in-Err.ensures.faults

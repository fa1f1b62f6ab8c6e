use Rattle.study_search.proofs.Faults.{probed}
use Rattle.study_search.proofs.value.value_of.Goals as goal

pub returns-clause-faults : goal.returns-clause-faults
returns-clause-faults g c =
    probed g.V.Values.source c.args.p.now c.men-men.ensures.valid c.args.values.now c.value.result
    c.value.ensures.no_table c.value.ensures.failed_so c.value.ensures.no_damage

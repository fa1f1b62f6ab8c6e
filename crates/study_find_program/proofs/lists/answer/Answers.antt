use Rattle.study_material.specs.Needs.{IsNeeded}
use Rattle.study_listing.specs.Requests.{class_of_request}
use Rattle.study_listing.proofs.Stops.{if_stopped}
use Rattle.study_find_program.proofs.lists.answer.Goals as goal

pub returns-in-Ok-clause-faults : goal.returns-in-Ok-clause-faults
returns-in-Ok-clause-faults g c =
    let class = class_of_request c.args.request.now in
    if_stopped g.V.Values.source (IsNeeded class) c.args.values.now c.selection_of.new.values c.write.result
    (c.write.ensures.faults class c.in-Ok.ensures.class) c.selection_of.ensures.tables c.selection_of.ensures.honest

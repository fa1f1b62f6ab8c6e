use Rattle.study_facts.specs.Asked.{within}
use Rattle.study_view.proofs.AllAsked.{some-then}
use Rattle.study_view.proofs.survey_squares.result_of.Goals as goal

pub returns-in-Ok-clause-asked : goal.returns-in-Ok-clause-asked
returns-in-Ok-clause-asked g c =
    some-then (within c.args.q.now g.V.Values.source)
    c.args.values.now c.ask_value.new.values c.result_by_value.new.values c.result_by_value.result c.in-Ok.ensures.asked c.result_by_value.ensures.asked

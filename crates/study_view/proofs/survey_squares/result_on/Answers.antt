use Rattle.study_view.proofs.AllAsked.{some-wider}
use Rattle.study_view.proofs.Standings.{leads-stood}
use Rattle.study_view.proofs.survey_squares.result_on.Goals as goal

pub returns-in-Some-clause-asked : goal.returns-in-Some-clause-asked
returns-in-Some-clause-asked g c =
    some-wider g.V.Values.source
    c.args.question.now.position.now c.in-Some.q
    (leads-stood c.args.question.now.position.now c.args.question.now.square c.args.x c.in-Some.q c.in-Some.ensures.valid c.in-Some.ensures.some.1)
    c.args.values.now c.result_of.new.values c.result_of.result c.result_of.ensures.asked

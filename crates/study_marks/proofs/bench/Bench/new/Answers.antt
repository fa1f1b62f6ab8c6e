use Rattle.study_marks.specs.Queries.{asked_at}
use Rattle.study_marks.proofs.InsertedMoves.{tables-answer}
use Rattle.study_marks.proofs.FaultsReported.{first-answer, undamaged-answer}
use Rattle.study_marks.proofs.bench.Bench.new.Goals as goal

pub returns-in_err-evaluated-clause-takes_no_memory : goal.returns-in_err-evaluated-clause-takes_no_memory
returns-in_err-evaluated-clause-takes_no_memory g c = tables-answer c.in_err-evaluated.field-0.0 c.from_residual.result c.from_residual.ensures.1

pub returns-in_err-evaluated-clause-first : goal.returns-in_err-evaluated-clause-first
returns-in_err-evaluated-clause-first g c =
    first-answer g.V.Values.source c.args.values.now (asked_at c.args.start.position) c.evaluate.new.values
    c.in_err-evaluated.field-0.0 c.from_residual.result c.from_residual.ensures.1 c.in_err-evaluated.ensures.first

pub returns-in_err-evaluated-clause-no_damage : goal.returns-in_err-evaluated-clause-no_damage
returns-in_err-evaluated-clause-no_damage g c = λ h.
    undamaged-answer c.in_err-evaluated.field-0.0 c.from_residual.result c.from_residual.ensures.1 (c.in_err-evaluated.ensures.no_damage h)

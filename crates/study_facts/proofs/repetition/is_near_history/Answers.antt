use Rattle.std.proofs.Common.{List, sym, subst, ◌∙◌}
use Rattle.study_moves.specs.declared.moves.Move.{Move}
use Rattle.study_facts.proofs.BackSteps.{AreLegal, near-by}
use Rattle.study_facts.proofs.repetition.is_near_history.Goals as goal

pub returns : goal.returns
returns c =
    near-by c.args.line.now c.args.q.now c.as_slice.result.now c.leads_into.result (sym c.is_in_history.ensures ∙ c.if-is_in_history.false)
    (subst (λ (l : List Move). AreLegal c.args.q.now l) (sym c.as_slice.ensures.value) c.legal_moves-moves.ensures.legal)
    c.leads_into.ensures

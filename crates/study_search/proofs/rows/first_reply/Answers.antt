use Rattle.std.proofs.Common.{List, sym, subst, ◌∙◌}
use Rattle.study_moves.specs.declared.moves.Move.{Move}
use Rattle.study_search.specs.OnlyMoves.{HasOnlyMoves}
use Rattle.study_search.proofs.OnlyMoves.{AreLegal}
use Rattle.study_search.proofs.OneRow.{none-legal}
use Rattle.study_search.proofs.rows.first_reply.Goals as goal

pub returns-clause-game : goal.returns-clause-game
returns-clause-game g c h =
    none-legal (HasOnlyMoves c.args.outcome c.args.n) c.args.q.now c.as_slice.result.now c.first_leading.result
    (c.as_slice.ensures.value ∙ c.legal_moves-replies.ensures.listed)
    (subst (λ (l : List Move). AreLegal c.args.q.now l) (sym c.as_slice.ensures.value) c.legal_moves-replies.ensures.legal)
    (c.first_leading.ensures.game h)

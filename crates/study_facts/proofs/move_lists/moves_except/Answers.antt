use Rattle.std.proofs.Common.{◌∙◌}
use Rattle.study_facts.proofs.LegalMoves.{legal-kept}
use Rattle.study_facts.proofs.move_lists.moves_except.Goals as goal

pub returns-clause-legal : goal.returns-clause-legal
returns-clause-legal c =
    legal-kept c.args.p.now _ c.loop-m.m-index c.as_slice-m-items.result.now c.loop-m.list.items
    (c.as_slice-m-items.ensures.value ∙ c.legal_moves-moves.ensures.listed) c.loop-m.invariant.kept

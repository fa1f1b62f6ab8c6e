use Rattle.std.proofs.Common.{List, sym, subst}
use Rattle.study_moves.specs.declared.moves.Move.{Move}
use Rattle.study_search.proofs.OnlyMoves.{AreLegal}
use Rattle.study_listing.proofs.RowFeatures.{taken}
use Rattle.study_listing.proofs.features.can_be_taken.Goals as goal

pub returns : goal.returns
returns c =
    taken c.args.p.now c.played-next.result c.args.m c.to_move-side.result c.as_slice.result.now c.some_takes.result c.played-next.ensures.value
    c.to_move-side.ensures (subst (λ (l : List Move). AreLegal c.played-next.result l) (sym c.as_slice.ensures.value) c.legal_moves-replies.ensures.legal)
    c.some_takes.ensures

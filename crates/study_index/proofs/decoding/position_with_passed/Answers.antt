use Rattle.std.proofs.Common.{sym, ap, ◌∙◌}
use Rattle.study_index.specs.Decoded.{square_behind_pawn}
use Rattle.study_index.proofs.ReadCells.{far_behind}
use Rattle.study_index.proofs.decoding.position_with_passed.Goals as goal

pub returns-in-None-new-clause-none : goal.returns-in-None-new-clause-none
returns-in-None-new-clause-none c =
    far_behind c.args.men.now c.args.to_move c.in-Some.number _ _
    (ap (λ s. square_behind_pawn s c.args.men.now) (sym c.other.ensures) ∙ sym c.square_behind_pawn.ensures ∙ c.in-Some.is) c.in-None-new.is
    c.new.ensures.known

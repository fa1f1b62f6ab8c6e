use Rattle.std.proofs.Common.{arith, subst}
use Rattle.study_board.specs.declared.men.Side.{Side}
use Rattle.study_retro.proofs.LeavingLemmas.{IsNext, near_next}
use Rattle.study_retro.proofs.captures.promotion_range.Goals as goal

pub returns-in-White-clause-all : goal.returns-in-White-clause-all
returns-in-White-clause-all c men x lt goes =
    let pawn = c.args.pawn.now in
    let r = subst (λ (s : Side). IsNext s pawn.at x) c.in-White.is (near_next men pawn x goes c.requires) in
    (omega (arith, c.number-a.ensures.value, r.0), omega (arith, c.number-a.ensures.value, c.min.ensures, r.1))

pub returns-in-Black-clause-all : goal.returns-in-Black-clause-all
returns-in-Black-clause-all c men x lt goes =
    let pawn = c.args.pawn.now in
    let r = subst (λ (s : Side). IsNext s pawn.at x) c.in-Black.is (near_next men pawn x goes c.requires) in
    (omega (arith, c.number-a.ensures.value, c.saturating_sub.ensures, r.1), omega (arith, c.number-a.ensures.value, r.0))

use Rattle.std.proofs.Common.{arith, ◌≡◌, ◌+◌, suc, subst}
use Rattle.study_search.specs.OnlyMoves.{HasOnlyMoves}
use Rattle.study_search.proofs.OnlyMoves.{line-fewer}
use Rattle.study_search.proofs.laws.fewer_only_moves.Goals as goal

pub returns : goal.returns
returns c outcome n p h =
    let more : n + 1 ≡ suc n = omega arith in
    line-fewer outcome n p (subst (λ k. HasOnlyMoves outcome k p) more h)

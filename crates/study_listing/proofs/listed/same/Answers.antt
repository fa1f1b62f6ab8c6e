use Rattle.std.proofs.Common.{subst}
use Rattle.study_board.specs.Position.{Position}
use Rattle.study_material.specs.Needs.{NeedsClass}
use Rattle.study_listing.proofs.listed.same.Goals as goal

pub returns-clause-needs : goal.returns-clause-needs
returns-clause-needs c k n = subst (λ (x : Position). NeedsClass x k) c.copied.ensures n

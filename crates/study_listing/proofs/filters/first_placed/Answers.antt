use Rattle.std.proofs.Common.{rules}
use Rattle.study_listing.specs.Filters.{turns}
use Rattle.study_listing.proofs.Shown.{placed-needs}
use Rattle.study_listing.proofs.filters.first_placed.Goals as goal

pub returns-clause-needs : goal.returns-clause-needs
returns-clause-needs c = placed-needs c.args.wanted.now c.args.p.now c.first_of.result turns (search rules)

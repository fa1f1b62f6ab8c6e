use Rattle.std.proofs.Common.{rules}
use Rattle.study_command.proofs.PathRead.{place_is}
use Rattle.study_command.proofs.path.push_place.Goals as goal

pub unreachable-requires : goal.unreachable-requires
unreachable-requires g c = let e = place_is c.args.part.now c.requires in search rules

pub returns : goal.returns
returns g c = let e = place_is c.args.part.now c.requires in search rules

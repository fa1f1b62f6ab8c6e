use Rattle.std.proofs.Common.{◌+◌, sym}
use Rattle.study_notation.proofs.PlacementParts.{added_run}
use Rattle.study_notation.proofs.placement.read_square.Goals as goal

pub returns-then-is_run-clause-added : goal.returns-then-is_run-clause-added
returns-then-is_run-clause-added c = added_run (c.args.first + c.args.file) c.args.b c.args.men.now.items (sym c.if-is_run.ensures)

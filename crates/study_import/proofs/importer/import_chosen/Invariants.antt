use Rattle.std.proofs.Common.{◌≡◌, ◌++◌, length}
use Rattle.study_import.specs.Imported.{nothing_held, still_written}
use Rattle.study_import.proofs.importer.import_chosen.Given as goal

abbrev pub invariant-loop-rest : goal.invariant-loop-rest
invariant-loop-rest g l = l.out ++ still_written l.importer l.rest ≡ still_written (nothing_held l.fn.choice) l.text

abbrev pub decreases-loop-rest : goal.decreases-loop-rest
decreases-loop-rest g l = length l.rest

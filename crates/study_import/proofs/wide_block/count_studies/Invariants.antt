use Rattle.std.proofs.Common.{◌≡◌, ◌≤◌, ◌+◌, length}
use Rattle.study_import.specs.Blocks.{studies_among}
use Rattle.study_import.proofs.wide_block.count_studies.Given as goal

abbrev pub invariant-loop-rest : goal.invariant-loop-rest
invariant-loop-rest g l = (l.n + length l.rest ≤ length l.paths) × (l.n + studies_among l.study l.rest ≡ studies_among l.study l.paths)

abbrev pub decreases-loop-rest : goal.decreases-loop-rest
decreases-loop-rest g l = length l.rest

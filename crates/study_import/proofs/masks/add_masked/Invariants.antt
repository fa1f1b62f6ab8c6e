use Rattle.std.proofs.Common.{◌≡◌, ◌++◌, length}
use Rattle.std.specs.Prelude.{map}
use Rattle.study_import.specs.Masks.{masked_byte}
use Rattle.study_import.proofs.masks.add_masked.Given as goal

abbrev pub invariant-loop-rest : goal.invariant-loop-rest
invariant-loop-rest g l = l.out ++ map (masked_byte l.mask) l.rest ≡ l.fn.out ++ map (masked_byte l.mask) l.bytes

abbrev pub decreases-loop-rest : goal.decreases-loop-rest
decreases-loop-rest g l = length l.rest

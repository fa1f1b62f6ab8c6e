use Rattle.std.proofs.Common.{◌≡◌, length}
use Rattle.std.specs.Prelude.{vec_len}
use Rattle.study_program.proofs.folder.FolderStore.new.Given as goal

abbrev pub invariant-loop-class : goal.invariant-loop-class
invariant-loop-class g l = (vec_len l.paths ≡ l.class-index) × (length l.class-items ≡ 36)

use Rattle.std.proofs.Common.{◌≡◌, Bool, true, false, cond, refl}
use Rattle.study_program.proofs.folder.FolderStoreTableStore.writer.Goals as goal

either : (b : Bool) → true ≡ cond b true true
either true = refl
either false = refl

pub returns-in-Ok-clause-faults : goal.returns-in-Ok-clause-faults
returns-in-Ok-clause-faults g c = λ d f. either _

pub returns-in-Err-clause-faults : goal.returns-in-Err-clause-faults
returns-in-Err-clause-faults g c = λ d f. either _

use Rattle.std.proofs.Common.{◌≡◌, true, is_some, Ok, sym, ap, subst}
use Rattle.study_script.specs.declared.memory_store.MemoryFile.{MemoryFile}
use Rattle.study_script.specs.State.{IsGiven}
use Rattle.study_script.specs.Memory.{header_known, memory_faults}
use Rattle.study_script.proofs.MemoryFiles.{source_fails}
use Rattle.study_script.proofs.memory_store.MemoryStoreTableStore.pages.Goals as goal

pub returns-clause-given : goal.returns-clause-given
returns-clause-given g c = λ bytes may. subst (λ (f : MemoryFile). IsGiven (header_known f) (Ok bytes)) (sym c.in_ok-text.ensures.ok) (ap Ok may.1)

pub returns-clause-fails : goal.returns-clause-fails
returns-clause-fails g c = λ q f ask given.
    subst (λ (x : MemoryFile). memory_faults (is_some c.args.self.now.fails_at) x c.args.class f ≡ true) (sym c.in_ok-text.ensures.ok)
    (source_fails c.in_ok-text.text.now c.args.self.now.fails_at c.args.class q f ask given)

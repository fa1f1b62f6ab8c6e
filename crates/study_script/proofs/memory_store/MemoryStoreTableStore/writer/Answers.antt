use Rattle.std.proofs.Common.{ℕ, List, Option, is_some, refl, sym, ap, subst, ◌∙◌}
use Rattle.study_script.specs.declared.memory_store.MemoryFile.{MemoryFile}
use Rattle.study_script.specs.Memory.{memory_file, file_known, header_known, memory_faults, IsHonestFile}
use Rattle.study_script.proofs.MemoryFiles.{known_anew, honest_anew, faults_anew}
use Rattle.study_script.proofs.memory_store.MemoryStoreTableStore.writer.Goals as goal

pub returns-in-None-clause-stays : goal.returns-in-None-clause-stays
returns-in-None-clause-stays g c =
    λ b d h. subst (λ (fs : List MemoryFile). IsHonestFile b (memory_file fs d)) (sym c.put.ensures.files)
    (honest_anew c.args.self.now.files c.args.class c.put.ensures.places b d h)

pub returns-in-None-clause-files : goal.returns-in-None-clause-files
returns-in-None-clause-files g c = λ d. ap (λ (fs : List MemoryFile). file_known (memory_file fs d)) c.put.ensures.files
    ∙ known_anew c.args.self.now.files c.args.class c.put.ensures.places file_known refl d

pub returns-in-None-clause-headers : goal.returns-in-None-clause-headers
returns-in-None-clause-headers g c =
    λ d. ap (λ (fs : List MemoryFile). header_known (memory_file fs d)) c.put.ensures.files
    ∙ known_anew c.args.self.now.files c.args.class c.put.ensures.places header_known refl d

pub returns-in-Some-clause-stays : goal.returns-in-Some-clause-stays
returns-in-Some-clause-stays g c =
    λ b d h. subst (λ (fs : List MemoryFile). IsHonestFile b (memory_file fs d)) (sym c.put.ensures.files)
    (honest_anew c.args.self.now.files c.args.class c.put.ensures.places b d h)

pub returns-in-Some-clause-files : goal.returns-in-Some-clause-files
returns-in-Some-clause-files g c = λ d. ap (λ (fs : List MemoryFile). file_known (memory_file fs d)) c.put.ensures.files
    ∙ known_anew c.args.self.now.files c.args.class c.put.ensures.places file_known refl d

pub returns-in-Some-clause-headers : goal.returns-in-Some-clause-headers
returns-in-Some-clause-headers g c =
    λ d. ap (λ (fs : List MemoryFile). header_known (memory_file fs d)) c.put.ensures.files
    ∙ known_anew c.args.self.now.files c.args.class c.put.ensures.places header_known refl d

pub returns-in-None-clause-faults : goal.returns-in-None-clause-faults
returns-in-None-clause-faults g c = λ d f.
    ap (λ (x : Option ℕ). memory_faults (is_some x) (memory_file c.put.new.self.files d) d f) c.put.ensures.plan.1
    ∙ ap (λ (fs : List MemoryFile). memory_faults (is_some c.args.self.now.fails_at) (memory_file fs d) d f) c.put.ensures.files
    ∙ faults_anew c.args.self.now.files c.args.class c.put.ensures.places (is_some c.args.self.now.fails_at) d f

pub returns-in-Some-clause-faults : goal.returns-in-Some-clause-faults
returns-in-Some-clause-faults g c = λ d f.
    ap (λ (x : Option ℕ). memory_faults (is_some x) (memory_file c.put.new.self.files d) d f) c.put.ensures.plan.1
    ∙ ap (λ (fs : List MemoryFile). memory_faults (is_some c.args.self.now.fails_at) (memory_file fs d) d f) c.put.ensures.files
    ∙ faults_anew c.args.self.now.files c.args.class c.put.ensures.places (is_some c.args.self.now.fails_at) d f

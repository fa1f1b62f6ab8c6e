-- Files in memory.
use Rattle.std.proofs.Common.{◌≡◌, ◌≢◌, ℕ, ◌+◌, ◌*◌, Bool, true, false, cond, List, length, set, Option, None, is_some, Err, sym, ap, subst, ◌∙◌, inl}
use Rattle.std.proofs.Common.{inr, arith}
use Rattle.std.proofs.lemmas.Bool.{lt-ltb}
use Rattle.std.proofs.lemmas.List.{get_or-set_same, get_or-set_other}
use Rattle.study_material.specs.declared.class.Class.{Class}
use Rattle.study_material.specs.Class.{class_number}
use Rattle.study_values.specs.declared.fault.SourceFault.{SourceFault}
use Rattle.study_values.specs.declared.fault.SourceFault.TheVariants as source
use Rattle.study_values.specs.Size.{pages_of}
use Rattle.study_tablefile.specs.PageSource.{Question, of_header, of_page, IsAnswerOf}
use Rattle.study_prober.proofs.HeldSources.{same_class}
use Rattle.study_script.specs.declared.memory_store.MemoryFile.{MemoryFile}
use Rattle.study_script.specs.declared.memory_store.MemoryFile.TheVariants.{Written}
use Rattle.study_script.specs.State.{unknown_after_write, forgotten_faults, IsQuestionOf}
use Rattle.study_script.specs.Memory.{memory_file, memory_faults, text_faults, IsHonestFile}
use Rattle.study_script.proofs.HeldTables.{place_below, same_at, other_at}

module _ (files : List MemoryFile) (c : Class) (full : length files ≡ 36) where
  written_at : (d : Class) → c ≡ d → memory_file (set files (class_number c) Written) d ≡ Written
  written_at d e = subst (λ (k : Class). memory_file (set files (class_number c) Written) k ≡ Written) e
      (get_or-set_same files (class_number c) Written _ (let small = place_below c in omega (arith, full, small)))

  kept_at : (d : Class) → class_number c ≢ class_number d → memory_file (set files (class_number c) Written) d ≡ memory_file files d
  kept_at d f = get_or-set_other files (class_number c) (class_number d) Written _ (λ e. f (sym e))

  -- the knowledge of a file that is opened to be written is dropped
  pub known_anew : {T : Type 0} (known : MemoryFile → Option T) → known Written ≡ None → (d : Class)
      → known (memory_file (set files (class_number c) Written) d) ≡ unknown_after_write c (λ k. known (memory_file files k)) d
  known_anew known none d = elim (same_class c d) [
    | inl e ↦ ap known (written_at d e) ∙ none ∙ sym (ap (λ b. cond b None (known (memory_file files d))) (same_at d c (sym e)))
    | inr f ↦ ap known (kept_at d f) ∙ sym (ap (λ b. cond b None (known (memory_file files d))) (other_at d c (λ e. f (ap class_number (sym e)))))
  ]

  pub honest_anew : (b : Bool) (d : Class) → IsHonestFile b (memory_file files d)
      → IsHonestFile b (memory_file (set files (class_number c) Written) d)
  honest_anew b d h = elim (same_class c d) [
    | inl e ↦ rw (written_at d e) (written b)
    | inr f ↦ rw (kept_at d f) h
  ]
    where
      written : (b : Bool) → IsHonestFile b Written
      written true = tt
      written false = tt

  -- and so is that of the faults of its source
  pub faults_anew : (fails : Bool) (d : Class) (f : SourceFault)
      → memory_faults fails (memory_file (set files (class_number c) Written) d) d f
      ≡ forgotten_faults c (λ k g. memory_faults fails (memory_file files k) k g) d f
  faults_anew fails d f = elim (same_class c d) [
    | inl e ↦ ap (λ x. memory_faults fails x d f) (written_at d e) ∙ sym (ap (λ b. cond b true (memory_faults fails (memory_file files d) d f))
        (same_at d c (sym e)))
    | inr k ↦ ap (λ x. memory_faults fails x d f) (kept_at d k)
        ∙ sym (ap (λ b. cond b true (memory_faults fails (memory_file files d) d f)) (other_at d c (λ e. k (ap class_number (sym e)))))
  ]

-- a source in memory fails as its plan and its text say
pub source_fails : (text : List ℕ) (fails : Option ℕ) (c : Class) (q : Question) (f : SourceFault) → IsQuestionOf c q
    → IsAnswerOf text fails q (Err f) → text_faults (is_some fails) text c f ≡ true
source_fails text fails c q source.Device ask given = given
source_fails text fails c of_header source.Short ask given = lt-ltb (length text) (64 + 4128 * pages_of c) (omega (arith, given))
source_fails text fails c (of_page n) source.Short ask given = lt-ltb (length text) (64 + 4128 * pages_of c) (omega (arith, given, ask))

-- What is written to standard error, one after the other.
use Rattle.std.proofs.Common.{◌≡◌, arith, ℕ, suc, ◌+◌, ◌<◌, List, [], ◌∷◌, ◌++◌, length, take, Option, Result, Ok, Err, refl, inl, inr, sym, ap, ◌∙◌, subst}
use Rattle.std.specs.Prelude.{OnOk, OnErr, get_or}
use Rattle.std.specs.Io.KnownBytes.{Appends}
use Rattle.std.proofs.Math.Seq.{take-suc}
use Rattle.study_text.specs.Taken.{TakesPrefix}
use Rattle.study_material.specs.declared.class.Class.{Class}
use Rattle.study_reply.specs.declared.refusal.Refusal.{Refusal}
use Rattle.study_reply.specs.Names.{words_of}
use Rattle.study_program.specs.Errors.{IsWrittenOrCut, file_fault_text, IsFaultOrNone, AreFaultsOf}

pub written_or_cut : {A E : Type 0} (r : Result A E) (old new : Option (List ℕ)) (text : List ℕ) → OnOk r (Appends old new text)
    → OnErr r (TakesPrefix old new text) → IsWrittenOrCut old new text
written_or_cut (Ok x) old new text h k = inl h
written_or_cut (Err e) old new text h k = inr k

pub fault_written : (program : List ℕ) (c : Class) (why : Refusal) (old new : Option (List ℕ)) (text shown : List ℕ)
    → text ≡ file_fault_text program c (words_of why) → shown ≡ text → IsWrittenOrCut old new shown → IsFaultOrNone program c old new
fault_written program c why old new text shown e f h = inr (why, subst (IsWrittenOrCut old new) (f ∙ e) h)

pub no_faults : (program : List ℕ) (classes : List Class) (old : Option (List ℕ)) → AreFaultsOf program classes old old
no_faults program [] old = refl
no_faults program (c ∷ more) old = (old, inl refl, no_faults program more old)

one_more : (program : List ℕ) (classes : List Class) (c : Class) (old mid new : Option (List ℕ)) → AreFaultsOf program classes old mid
    → IsFaultOrNone program c mid new → AreFaultsOf program (classes ++ c ∷ []) old new
one_more program [] c old mid new same fault = (new, subst (λ (t : Option (List ℕ)). IsFaultOrNone program c t new) same fault, refl)
one_more program (d ∷ more) c old mid new (at, first, rest) fault = (at, first, one_more program more c at mid new rest fault)

-- the same for the first classes of a list and the next one
pub next_class : (program : List ℕ) (classes : List Class) (n : ℕ) (d : Class) (old mid new : Option (List ℕ)) → n < length classes
    → AreFaultsOf program (take n classes) old mid → IsFaultOrNone program (get_or classes n d) mid new
    → AreFaultsOf program (take (n + 1) classes) old new
next_class program classes n d old mid new low faults fault =
    let next : suc n ≡ n + 1 = omega arith in
    subst (λ (l : List Class). AreFaultsOf program l old new) (sym (take-suc classes n d low) ∙ ap (λ (k : ℕ). take k classes) next)
    (one_more program (take n classes) (get_or classes n d) old mid new faults fault)

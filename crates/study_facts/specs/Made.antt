-- Not part of any public contract: the invariants of writing a review.
use Rattle.std.specs.Prelude.{◌≡◌, ℕ, ◌+◌, ◌<◌, ◌^◌, List, ◌++◌, Result, Ok, Err}
use Rattle.study_values.specs.Values.{ValueSource}
use Rattle.study_facts.specs.declared.fault.ReviewFault.{ReviewFault}
use Rattle.study_facts.specs.declared.fault.ReviewFault.TheVariants as fault
use Rattle.study_facts.specs.declared.fault.TextFault.{TextFault}
use Rattle.study_facts.specs.declared.fault.TextFault.TheVariants.{OutOfMemory, NoValue}
use Rattle.study_facts.specs.Asked.{AllEvaluated, Stopped}

-- the fault of the review for the fault with which its text was not made
abbrev pub fault_of : TextFault → ReviewFault
fault_of OutOfMemory = fault.OutOfMemory
fault_of (NoValue f) = fault.Values f

-- the text grew by lines with the property
abbrev pub Grew : (List ℕ → Type 0) → List ℕ → List ℕ → Type 0
Grew Lines old new = (text : List ℕ) × Lines text × (new ≡ old ++ text)

-- the count rose by a number with the property, if the sum fits into 32 bits
abbrev pub Rose : (ℕ → Type 0) → ℕ → ℕ → Type 0
Rose Count old new = (n : ℕ) × Count n × (old + n < 2 ^ 32 → new ≡ old + n)

module _ {V : Type 0} (source : ValueSource V) where
  abbrev pub HasAsked : {T : Type 0} → V → Result T TextFault → V → Type 0
  HasAsked old (Ok x) new = AllEvaluated source old new
  HasAsked old (Err OutOfMemory) new = AllEvaluated source old new
  HasAsked old (Err (NoValue f)) new = Stopped source old f new

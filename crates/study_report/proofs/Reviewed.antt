-- The values after a review.
use Rattle.std.proofs.Common.{◌≡◌, Bool, true, List, [], ◌∷◌, Result, Ok, Err, refl, sym, subst, ◌∙◌, inl, inr}
use Rattle.study_board.specs.Position.{Position, IsValid}
use Rattle.study_material.specs.declared.class.Class.{Class}
use Rattle.study_values.specs.declared.fault.SourceFault.{SourceFault}
use Rattle.study_values.specs.Values.{ValueSource}
use Rattle.study_values.specs.declared.values.ProbeFault.{ProbeFault}
use Rattle.study_values.specs.declared.values.ProbeFault.TheVariants.{NoTable, TableRead, PageDamaged}
use Rattle.study_marks.specs.Answers.{WereEvaluated, IsFirstFault}
use Rattle.study_marks.specs.Evaluated.{failures_of}
use Rattle.study_facts.specs.declared.fault.ReviewFault.{ReviewFault}
use Rattle.study_facts.specs.declared.fault.ReviewFault.TheVariants.{OutOfMemory, Device, Values}
use Rattle.study_facts.specs.Asked.{Stopped, within}
use Rattle.study_facts.specs.Order.{HasReviewed}
use Rattle.study_facts.proofs.Within.{missed-needed, unread-needed}
use Rattle.study_report.specs.Reported.{IsValueFaultBy}

module _ {V : Type 0} (source : ValueSource V) where
  reported-fails : (old new : V) (asked : List Position) → WereEvaluated source old asked new
      → (c : Class) (f : SourceFault) → source.may_fail new c f → source.may_fail old c f
  reported-fails old new [] e c f m = subst (λ (v : V). source.may_fail v c f) e m
  reported-fails old new (p ∷ ps) (v, mid, a, rest) c f m = a.fails_as_before c f (reported-fails mid new ps rest c f m)

  fault-fails : (old new : V) (asked : List Position) (g : ProbeFault) → IsFirstFault source old asked g new
      → (c : Class) (f : SourceFault) → source.may_fail new c f → source.may_fail old c f
  fault-fails old new [] g h c f m = absurd h
  fault-fails old new (p ∷ ps) g (inl a) c f m = a.fails_as_before c f m
  fault-fails old new (p ∷ ps) g (inr (v, mid, a, rest)) c f m = a.fails_as_before c f (fault-fails mid new ps g rest c f m)

  abbrev pub Reviews : {T : Type 0} → V → Result T ReviewFault → V → Type 0
  Reviews {T = T} old r new = HasReviewed source {T = T} old r new

  pub reviewed-fails : {T : Type 0} (old new : V) (r : Result T ReviewFault) → Reviews old r new
      → (c : Class) (f : SourceFault) → source.may_fail new c f → source.may_fail old c f
  reviewed-fails old new (Ok x) h c f m = reported-fails old new h.evaluated.0 h.evaluated.1 c f m
  reviewed-fails old new (Err OutOfMemory) h c f m = reported-fails old new h.evaluated.0 h.evaluated.1 c f m
  reviewed-fails old new (Err Device) h c f m = reported-fails old new h.evaluated.0 h.evaluated.1 c f m
  reviewed-fails old new (Err (Values g)) h c f m = fault-fails old new h.evaluated.0 g h.evaluated.1 c f m

  pub reviewed-honest : {T : Type 0} (old new : V) (r : Result T ReviewFault) → Reviews old r new → source.is_honest old → source.is_honest new
  reviewed-honest old new (Ok x) h = h.honest
  reviewed-honest old new (Err OutOfMemory) h = h.honest
  reviewed-honest old new (Err Device) h = h.honest
  reviewed-honest old new (Err (Values g)) h = h.honest

  pub reviewed-tables : {T : Type 0} (old new : V) (r : Result T ReviewFault) → Reviews old r new → (c : Class) → source.held new c ≡ source.held old c
  reviewed-tables old new (Ok x) h = h.tables
  reviewed-tables old new (Err OutOfMemory) h = h.tables
  reviewed-tables old new (Err Device) h = h.tables
  reviewed-tables old new (Err (Values g)) h = h.tables

module _ {V : Type 0} (source : ValueSource V) (p : Position) (valid : IsValid p) where
  no_value-by : (paged : Bool) (old new : V) (fault : ProbeFault) → source.is_honest old
      → ((f : SourceFault) → source.failed_of new ≡ failures_of {T = Unit {0}} (Err (TableRead f)) (source.failed_of old) → paged ≡ true)
      → Stopped (within p source) old fault new
      → IsValueFaultBy (source.held old) paged (source.may_fail old) p fault
  no_value-by paged old new (NoTable c) honest by_pages h =
      (h.no_value c refl, missed-needed source p valid old new (NoTable c) c h.evaluated refl)
  no_value-by paged old new (TableRead f) honest by_pages h =
      let read = unread-needed source p valid old new (TableRead f) f h.evaluated refl in
      (by_pages f h.failures, read.0, read.1, read.2)
  no_value-by paged old new (PageDamaged c n) honest by_pages h = absurd (h.no_damage honest)

  -- why a study is refused
  pub reviewed-why : {T : Type 0} (paged : Bool) (old new : V) (r : Result T ReviewFault) (fault : ProbeFault) → source.is_honest old
      → ((f : SourceFault) → source.failed_of new ≡ failures_of {T = Unit {0}} (Err (TableRead f)) (source.failed_of old) → paged ≡ true)
      → HasReviewed (within p source) {T = T} old r new → r ≡ Err (Values fault)
      → IsValueFaultBy (source.held old) paged (source.may_fail old) p fault
  reviewed-why {T = T} paged old new r fault honest by_pages h e =
      no_value-by paged old new fault honest by_pages
      (subst (λ (x : Result T ReviewFault). HasReviewed (within p source) {T = T} old x new) e h)

-- the same classes are loaded, and tables may fail in no further way
pub no_value-same : (h k : Class → Bool) (paged by : Bool) (may m : Class → SourceFault → Type 0) (fault : ProbeFault) → ((c : Class) → h c ≡ k c)
    → paged ≡ by → ((c : Class) (f : SourceFault) → may c f → m c f) → (p : Position) → IsValueFaultBy h paged may p fault → IsValueFaultBy k by m p fault
no_value-same h k paged by may m (NoTable c) e b w p u = (sym (e c) ∙ u.0, u.1)
no_value-same h k paged by may m (TableRead f) e b w p (paged-is, c, needs, fails) = (sym b ∙ paged-is, c, needs, w c f fails)
no_value-same h k paged by may m (PageDamaged c n) e b w p u = absurd u

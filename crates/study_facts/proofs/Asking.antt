-- Calls that probe values, one after the other.
use Rattle.std.proofs.Common.{◌≡◌, ℕ, false, List, Result, Ok, Err, IsErrAnd, IsErrOf, IfErr, refl, sym, ap, subst, ◌∙◌}
use Rattle.study_board.specs.Position.{Position, IsValid}
use Rattle.study_material.specs.declared.class.Class.{Class}
use Rattle.study_values.specs.declared.fault.SourceFault.{SourceFault}
use Rattle.study_text.specs.Counts.{next_count}
use Rattle.study_material.specs.Class.{IsOf}
use Rattle.study_values.specs.declared.value.Value.{Value}
use Rattle.study_values.specs.Values.{ProbeAnswer, IsNotDamage, faults_after, ValueSource}
use Rattle.study_values.specs.declared.values.ProbeFault.{ProbeFault}
use Rattle.study_values.specs.declared.values.ProbeFault.TheVariants as probe
use Rattle.study_marks.specs.Answers.{WereEvaluated, IsFirstFault}
use Rattle.study_marks.specs.Evaluated.{failures_of}
use Rattle.study_facts.specs.Asked.{AllEvaluated, Stopped}
use Rattle.study_facts.specs.Made.{HasAsked, fault_of}
use Rattle.study_facts.specs.Order.{HasReviewed}
use Rattle.study_facts.specs.declared.fault.ReviewFault.{ReviewFault}
use Rattle.study_facts.specs.declared.fault.ReviewFault.TheVariants as fault
use Rattle.study_facts.specs.declared.fault.TextFault.{TextFault}
use Rattle.study_facts.specs.declared.fault.TextFault.TheVariants.{OutOfMemory, NoValue}
use Rattle.study_facts.proofs.AskedSteps.{asked-one, evaluated-none, evaluated-then, fault-then}

same-failures : (T U : Type 0) (f : ProbeFault) (n : ℕ) → failures_of {T = T} (Err f) n ≡ failures_of {T = U} (Err f) n
same-failures T U (probe.NoTable c) n = refl
same-failures T U (probe.TableRead f) n = refl
same-failures T U (probe.PageDamaged c k) n = refl

same-faults : (n : ℕ) (f : ProbeFault) → faults_after n (Err f) ≡ failures_of {T = Value} (Err f) n
same-faults n (probe.NoTable c) = refl
same-faults n (probe.TableRead f) = refl
same-faults n (probe.PageDamaged c k) = refl

module _ {V : Type 0} (source : ValueSource V) where
  abbrev pub Reported : V → V → Type 0
  Reported old new = AllEvaluated source old new

  abbrev pub Stops : V → ProbeFault → V → Type 0
  Stops old f new = Stopped source old f new

  abbrev pub Asks : {T : Type 0} → V → Result T TextFault → V → Type 0
  Asks {T = T} old r new = HasAsked source {T = T} old r new

  pub none-asked : (v : V) → Reported v v
  none-asked v = record { evaluated = evaluated-none source v; failures = refl; honest = λ h. h; tables = λ c. refl }

  pub all-then : (old mid new : V) → Reported old mid → Reported mid new → Reported old new
  all-then old mid new h k = record {
    evaluated = evaluated-then source old mid new h.evaluated k.evaluated;
    failures = k.failures ∙ h.failures;
    honest = λ x. k.honest (h.honest x);
    tables = λ c. k.tables c ∙ h.tables c;
  }

  pub stops-then : (old mid new : V) (f : ProbeFault) → Reported old mid → Stops mid f new → Stops old f new
  stops-then old mid new f h k = record {
    evaluated = fault-then source old mid new f h.evaluated k.evaluated;
    no_value = λ c e. sym (h.tables c) ∙ k.no_value c e;
    no_damage = λ x. k.no_damage (h.honest x);
    failures = subst (λ n. source.failed_of new ≡ failures_of {T = Unit {0}} (Err f) n) h.failures k.failures;
    honest = λ x. k.honest (h.honest x);
    tables = λ c. k.tables c ∙ h.tables c;
  }

  pub asks-then : {T : Type 0} (old mid new : V) (r : Result T TextFault) → Reported old mid → Asks mid r new → Asks old r new
  asks-then old mid new (Ok x) h k = all-then old mid new h k
  asks-then old mid new (Err OutOfMemory) h k = all-then old mid new h k
  asks-then old mid new (Err (NoValue f)) h k = stops-then old mid new f h k

  -- an error that is passed on
  pub same-asks : {T : Type 0} (old new : V) (r : Result T TextFault) (e : TextFault) → IsErrAnd r (λ x. x ≡ e)
      → Asks {T = T} old (Err e) new → Asks old r new
  same-asks old new (Ok x) e is h = absurd is
  same-asks {T = T} old new (Err x) e is h = subst (λ (y : TextFault). Asks {T = T} old (Err y) new) (sym is) h

  -- want of memory after all values were read
  pub no-memory : {T : Type 0} (old new : V) (r : Result T TextFault) → IsErrAnd r (λ x. x ≡ OutOfMemory) → Reported old new → Asks old r new
  no-memory {T = T} old new r is h = same-asks {T = T} old new r OutOfMemory is h

  -- the consequences of the answers of a call
  pub of-evaluated : (old new : V) → ((asked : List Position) × WereEvaluated source old asked new)
      → source.failed_of new ≡ source.failed_of old → (source.is_honest old → source.is_honest new) → ((c : Class) → source.held new c ≡ source.held old c)
      → Reported old new
  of-evaluated old new h n i t = record { evaluated = h; failures = n; honest = i; tables = t }

  pub of-fault : (T : Type 0) (old new : V) (f : ProbeFault) → ((asked : List Position) × IsFirstFault source old asked f new)
      → ((c : Class) → f ≡ probe.NoTable c → source.held old c ≡ false) → (source.is_honest old → IsNotDamage f)
      → source.failed_of new ≡ failures_of {T = T} (Err f) (source.failed_of old) → (source.is_honest old → source.is_honest new)
      → ((c : Class) → source.held new c ≡ source.held old c) → Stops old f new
  of-fault T old new f h u d n i t = record {
    evaluated = h;
    no_value = u;
    no_damage = d;
    failures = n ∙ same-failures T (Unit {0}) f (source.failed_of old);
    honest = i;
    tables = t;
  }

  -- an error without a value
  pub re-asks : (T U : Type 0) (old new : V) (e : TextFault) → Asks {T = T} old (Err e) new → Asks {T = U} old (Err e) new
  re-asks T U old new OutOfMemory h = h
  re-asks T U old new (NoValue f) h = h

  abbrev pub Reviews : {T : Type 0} → V → Result T ReviewFault → V → Type 0
  Reviews {T = T} old r new = HasReviewed source {T = T} old r new

  same-reviews : {T : Type 0} (old new : V) (r : Result T ReviewFault) (x : ReviewFault) → IsErrAnd r (λ y. y ≡ x)
      → Reviews {T = T} old (Err x) new → Reviews old r new
  same-reviews old new (Ok y) x is h = absurd is
  same-reviews {T = T} old new (Err y) x is h = subst (λ (z : ReviewFault). Reviews {T = T} old (Err z) new) (sym is) h

  pub review-stops : (U : Type 0) {T : Type 0} (old new : V) (r : Result T ReviewFault) (e : TextFault) → IsErrAnd r (λ x. x ≡ fault_of e)
      → Asks {T = U} old (Err e) new → Reviews old r new
  review-stops U old new r OutOfMemory is h = same-reviews old new r fault.OutOfMemory is h
  review-stops U old new r (NoValue f) is h = same-reviews old new r (fault.Values f) is h

  pub review-fails : {T : Type 0} (old new : V) (r : Result T ReviewFault) → IsErrAnd r (λ x. x ≡ fault.Device) → Reported old new → Reviews old r new
  review-fails old new r is h = same-reviews old new r fault.Device is h

  -- the answer to one probe
  abbrev pub Answered : V → ProbeAnswer → V → Type 0
  Answered old (Ok v) new = Reported old new
  Answered old (Err f) new = Stops old f new

  pub value-answered : (old new : V) (p : Position) (r : ProbeAnswer) → IsValid p → source.gives old p r → source.asked_of new
      ≡ next_count (source.asked_of old)
      → ((c : Class) (f : SourceFault) → IsOf c p → IsErrOf r (probe.TableRead f) → source.may_fail old c f)
      → ((c : Class) (f : SourceFault) → source.may_fail new c f → source.may_fail old c f)
      → ((c : Class) → IsErrOf r (probe.NoTable c) → source.held old c ≡ false) → (source.is_honest old → IfErr r IsNotDamage)
      → source.failed_of new ≡ faults_after (source.failed_of old) r → (source.is_honest old → source.is_honest new)
      → ((c : Class) → source.held new c ≡ source.held old c)
      → Answered old r new
  value-answered old new p (Ok v) valid g n so before u d f i s = of-evaluated old new (asked-one source old new p (Ok v) valid g n so before) f i s
  value-answered old new p (Err e) valid g n so before u d f i s =
      of-fault Value old new e (asked-one source old new p (Err e) valid g n so before) (λ c q. u c (ap Err q)) d
      (f ∙ same-faults (source.failed_of old) e) i s

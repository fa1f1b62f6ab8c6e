-- The values after all legal moves, probed in order.
use Rattle.std.proofs.Common.{◌≡◌, ℕ, false, not, List, [], ◌∷◌, ◌++◌, inl, inr, append-nil, append_assoc, Result, Ok, Err, OnOk, IfErr, IsErrAnd}
use Rattle.std.proofs.Common.{IsErrOf, refl, sym, ap, subst, ◌∙◌}
use Rattle.std.specs.List.{filter}
use Rattle.study_board.specs.Position.{Position, IsValid}
use Rattle.study_material.specs.declared.class.Class.{Class}
use Rattle.study_values.specs.declared.fault.SourceFault.{SourceFault}
use Rattle.study_moves.specs.declared.moves.Move.{Move}
use Rattle.study_moves.specs.LegalList.{legal_list}
use Rattle.study_values.specs.declared.value.Value.{Value}
use Rattle.study_values.specs.Values.{ProbeAnswer, IsNotDamage, faults_after, ValueSource}
use Rattle.study_values.specs.declared.values.ProbeFault.{ProbeFault}
use Rattle.study_values.specs.declared.values.ProbeFault.TheVariants as probe
use Rattle.study_marks.specs.Answers.{Answers, WereEvaluated, IsFirstFault}
use Rattle.study_marks.proofs.FaultsReported.{evaluated-append}
use Rattle.study_marks.specs.Evaluated.{IsProbeFaultOf, failures_of}
use Rattle.study_facts.specs.Continuations.{moves_except}
use Rattle.study_text.specs.Counts.{next_count}
use Rattle.study_material.specs.Class.{IsOf}
use Rattle.study_facts.proofs.Asking.{of-evaluated, of-fault, all-then, stops-then}
use Rattle.study_facts.proofs.AskedSteps.{asked-one}
use Rattle.study_facts.proofs.NotHeld.{no_value-of}
use Rattle.study_view.specs.Asked.{EachEvaluated, StoppedAt, HasEvaluatedEach, HasEvaluatedSome, HasWalked, HasViewed}
use Rattle.study_facts.specs.Asked.{AllEvaluated, Stopped, within}
use Rattle.study_facts.proofs.Within.{LeadsTo, EachReached, all-wider, stops-wider, some-evaluated as evaluated-within, some-fault as fault-within}
use Rattle.study_view.specs.declared.fault.ViewFault.{ViewFault}
use Rattle.study_view.specs.declared.fault.ViewFault.TheVariants.{NoSuchNode, OutOfMemory, Device, Values}

all-kept : (ms : List Move) → filter (λ m. not false) ms ≡ ms
all-kept [] = refl
all-kept (m ∷ ms) = ap (λ (l : List Move). m ∷ l) (all-kept ms)

-- without any removed, all legal moves are left
pub others-of-none : (p : Position) → moves_except [] p ≡ legal_list p
others-of-none p = all-kept (legal_list p)

same-faults : (n : ℕ) (r : ProbeAnswer) → faults_after n r ≡ failures_of r n
same-faults n (Ok v) = refl
same-faults n (Err (probe.NoTable c)) = refl
same-faults n (Err (probe.TableRead f)) = refl
same-faults n (Err (probe.PageDamaged c k)) = refl

-- the reason of a refusal that is passed on
pub refused-so : {T E : Type 0} (r : Result T E) (x y : E) → IsErrAnd r (λ z. z ≡ x) → r ≡ Err y → x ≡ y
refused-so (Ok t) x y is e = absurd is
refused-so (Err z) x y is e = let same : z ≡ y = cc in sym is ∙ same

module _ {V : Type 0} (source : ValueSource V) where
  pub evaluated-each : {T : Type 0} (p : Position) (asked : List Position) → EachReached p asked → (old new : V) (r : Result T ProbeFault)
      → OnOk r (WereEvaluated source old asked new)
      → IfErr r (λ f. IsFirstFault source old asked f new)
      → IfErr r (IsProbeFaultOf (source.held old) asked) → (source.is_honest old → IfErr r IsNotDamage)
      → source.failed_of new ≡ failures_of r (source.failed_of old) → (source.is_honest old → source.is_honest new)
      → ((c : Class) → source.held new c ≡ source.held old c) → HasEvaluatedEach source {T = T} p asked old r new
  evaluated-each p asked reached old new (Ok x) t f u d n i s = record {
    each = ([], subst (λ (qs : List Position). WereEvaluated source old qs new) (sym (append-nil asked)) t);
    all = of-evaluated (within p source) old new (evaluated-within source p old new asked reached t) n i s;
  }
  evaluated-each {T = T} p asked reached old new (Err e) t f u d n i s = record {
    first = ([], subst (λ (qs : List Position). IsFirstFault source old qs e new) (sym (append-nil asked)) f);
    stopped = of-fault (within p source) T old new e
        (fault-within source p (source.held old) old new asked e reached u f)
        (λ c q. no_value-of (source.held old) asked e c u q) d n i s;
  }

  -- the same for a position that leads to it
  pub each-wider : (p q : Position) → LeadsTo p q → (asked : List Position) (old new : V)
      → EachEvaluated source q asked old new → EachEvaluated source p asked old new
  each-wider p q lead asked old new h =
      record { each = h.each; all = all-wider source p q lead old new h.all }

  pub stopped-wider : (p q : Position) → LeadsTo p q → (asked : List Position) (old : V) (f : ProbeFault) (new : V)
      → StoppedAt source q asked old f new → StoppedAt source p asked old f new
  stopped-wider p q lead asked old f new h =
      record { first = h.first; stopped = stops-wider source p q lead old new f h.stopped }

  pub some-wider : {T : Type 0} (p q : Position) → LeadsTo p q → (old new : V) (r : Result T ProbeFault)
      → HasEvaluatedSome (within q source) {T = T} old r new
      → HasEvaluatedSome (within p source) {T = T} old r new
  some-wider p q lead old new (Ok x) h = all-wider source p q lead old new h
  some-wider p q lead old new (Err f) h = stops-wider source p q lead old new f h

  -- an answer that is possible for positions reached from here is possible here
  plain-answer : (p : Position) (old : V) (q : Position) (a : ProbeAnswer) (new : V)
      → Answers (within p source) old q a new → Answers source old q a new
  plain-answer p old q a new h = record {
    valid = h.valid;
    given = h.given.0;
    asked = h.asked;
    failed_so = h.failed_so;
    fails_as_before = h.fails_as_before;
  }

  plain-evaluated : (p : Position) (old new : V) (qs : List Position) → WereEvaluated (within p source) old qs new
      → WereEvaluated source old qs new
  plain-evaluated p old new [] h = h
  plain-evaluated p old new (q ∷ qs) (v, mid, a, h) = (v, mid, plain-answer p old q (Ok v) mid a, plain-evaluated p mid new qs h)

  plain-fault : (p : Position) (old new : V) (qs : List Position) (e : ProbeFault) → IsFirstFault (within p source) old qs e new
      → IsFirstFault source old qs e new
  plain-fault p old new [] e h = h
  plain-fault p old new (q ∷ qs) e (inl a) = inl (plain-answer p old q (Err e) new a)
  plain-fault p old new (q ∷ qs) e (inr (v, mid, a, h)) = inr (v, mid, plain-answer p old q (Ok v) mid a, plain-fault p mid new qs e h)

  fault-behind : (old mid new : V) (xs ys : List Position) (f : ProbeFault) → WereEvaluated source old xs mid
      → IsFirstFault source mid ys f new → IsFirstFault source old (xs ++ ys) f new
  fault-behind old mid new [] ys f h k = subst (λ (s : V). IsFirstFault source s ys f new) h k
  fault-behind old mid new (x ∷ xs) ys f h k = inr (h.0, h.1, h.2, fault-behind h.1 mid new xs ys f h.3 k)

  -- more probes after these
  pub each-more : (p : Position) (asked : List Position) (old mid new : V)
      → EachEvaluated source p asked old mid
      → AllEvaluated (within p source) mid new
      → EachEvaluated source p asked old new
  each-more p asked old mid new h k =
      let xs = h.each.0 in
      let ys = k.evaluated.0 in
      record {
        each = (
          xs ++ ys,
          subst (λ (qs : List Position). WereEvaluated source old qs new) (append_assoc asked xs ys)
              (evaluated-append source old mid new (asked ++ xs) ys h.each.1 (plain-evaluated p mid new ys k.evaluated.1)),
        );
        all = all-then (within p source) old mid new h.all k;
      }

  pub stopped-more : (p : Position) (asked : List Position) (old mid new : V) (f : ProbeFault)
      → EachEvaluated source p asked old mid
      → Stopped (within p source) mid f new
      → StoppedAt source p asked old f new
  stopped-more p asked old mid new f h k =
      let xs = h.each.0 in
      let ys = k.evaluated.0 in
      record {
        first = (
          xs ++ ys,
          subst (λ (qs : List Position). IsFirstFault source old qs f new) (append_assoc asked xs ys)
              (fault-behind old mid new (asked ++ xs) ys f h.each.1 (plain-fault p mid new ys f k.evaluated.1)),
        );
        stopped = stops-then (within p source) old mid new f h.all k;
      }

  pub walked-more : (T U : Type 0) (p : Position) (asked : List Position) (old mid new : V) (e : ViewFault)
      → EachEvaluated source p asked old mid
      → HasWalked (within p source) {T = T} mid (Err e) new
      → HasViewed source {T = U} p asked old (Err e) new
  walked-more T U p asked old mid new NoSuchNode h k = absurd k
  walked-more T U p asked old mid new OutOfMemory h k = each-more p asked old mid new h k
  walked-more T U p asked old mid new Device h k = absurd k
  walked-more T U p asked old mid new (Values f) h k = stopped-more p asked old mid new f h k

  -- ---- walks

  pub walks-then : {T : Type 0} (old mid new : V) (r : Result T ViewFault) → AllEvaluated source old mid
      → HasWalked source {T = T} mid r new
      → HasWalked source {T = T} old r new
  walks-then old mid new (Ok x) h k = all-then source old mid new h k
  walks-then old mid new (Err NoSuchNode) h k = absurd k
  walks-then old mid new (Err OutOfMemory) h k = all-then source old mid new h k
  walks-then old mid new (Err Device) h k = absurd k
  walks-then old mid new (Err (Values f)) h k = stops-then source old mid new f h k

  pub walks-so : (T : Type 0) {U : Type 0} (old new : V) (r : Result U ViewFault) (e : ViewFault) → IsErrAnd r (λ x. x ≡ e)
      → HasWalked source {T = T} old (Err e) new
      → HasWalked source {T = U} old r new
  walks-so T old new (Ok x) e is h = absurd is
  walks-so T {U = U} old new (Err x) e is h =
      subst (λ (y : ViewFault). HasWalked source {T = U} old (Err y) new) (sym is) (walks-as T U old new e h)
    where
      walks-as : (A B : Type 0) (old new : V) (e : ViewFault) → HasWalked source {T = A} old (Err e) new
          → HasWalked source {T = B} old (Err e) new
      walks-as A B old new NoSuchNode h = h
      walks-as A B old new OutOfMemory h = h
      walks-as A B old new Device h = h
      walks-as A B old new (Values f) h = h

  -- a view that is refused after each value was read
  pub refused-after : {T : Type 0} (p : Position) (asked : List Position) (old new : V) (r : Result T ViewFault) (e : ViewFault) → IsErrAnd r (λ x. x ≡ e)
      → HasViewed source {T = T} p asked old (Err e) new
      → HasViewed source {T = T} p asked old r new
  refused-after p asked old new (Ok x) e is h = absurd is
  refused-after {T = T} p asked old new (Err x) e is h =
      subst (λ (y : ViewFault). HasViewed source {T = T} p asked old (Err y) new) (sym is) h

  -- the same, even if the positions are not all evaluated
  pub some-evaluated : {T : Type 0} (p : Position) (asked : List Position) (old new : V) (r : Result T ProbeFault)
      → HasEvaluatedEach source {T = T} p asked old r new
      → HasEvaluatedSome (within p source) {T = T} old r new
  some-evaluated p asked old new (Ok x) h = h.all
  some-evaluated p asked old new (Err e) h = h.stopped

  -- probes after other probes
  pub some-then : {T : Type 0} (old mid new : V) (r : Result T ProbeFault) → AllEvaluated source old mid
      → HasEvaluatedSome source {T = T} mid r new
      → HasEvaluatedSome source {T = T} old r new
  some-then old mid new (Ok x) h j = all-then source old mid new h j
  some-then old mid new (Err f) h j = stops-then source old mid new f h j

  -- one position was probed
  pub value-evaluated : (old new : V) (p : Position) (r : ProbeAnswer) → IsValid p → source.gives old p r → source.asked_of new
      ≡ next_count (source.asked_of old)
      → ((c : Class) (f : SourceFault) → IsOf c p → IsErrOf r (probe.TableRead f) → source.may_fail old c f)
      → ((c : Class) (f : SourceFault) → source.may_fail new c f → source.may_fail old c f)
      → ((c : Class) → IsErrOf r (probe.NoTable c) → source.held old c ≡ false) → (source.is_honest old → IfErr r IsNotDamage)
      → source.failed_of new ≡ faults_after (source.failed_of old) r → (source.is_honest old → source.is_honest new)
      → ((c : Class) → source.held new c ≡ source.held old c)
      → HasEvaluatedSome source {T = Value} old r new
  value-evaluated old new p (Ok v) valid g n so before u d f i s =
      of-evaluated source old new (asked-one source old new p (Ok v) valid g n so before) f i s
  value-evaluated old new p (Err e) valid g n so before u d f i s =
      of-fault source Value old new e (asked-one source old new p (Err e) valid g n so before)
      (λ c q. u c (ap Err q)) d (f ∙ same-faults (source.failed_of old) (Err e)) i s

-- walks from a position that leads to this one
module _ {V : Type 0} (source : ValueSource V)
    (p q : Position) (lead : LeadsTo p q) where
  pub walks-wider : {T : Type 0} (old new : V) (r : Result T ViewFault)
      → HasWalked (within q source) {T = T} old r new
      → HasWalked (within p source) {T = T} old r new
  walks-wider old new (Ok x) h = all-wider source p q lead old new h
  walks-wider old new (Err NoSuchNode) h = h
  walks-wider old new (Err OutOfMemory) h = all-wider source p q lead old new h
  walks-wider old new (Err Device) h = h
  walks-wider old new (Err (Values f)) h = stops-wider source p q lead old new f h

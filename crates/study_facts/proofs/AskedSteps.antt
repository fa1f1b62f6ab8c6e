-- Probes, one after the other.
use Rattle.std.proofs.Common.{◌≡◌, List, [], ◌∷◌, ◌++◌, Result, Ok, Err, IsErrOf, inl, inr, refl, subst}
use Rattle.study_board.specs.Position.{Position, IsValid}
use Rattle.study_text.specs.Counts.{next_count}
use Rattle.study_material.specs.declared.class.Class.{Class}
use Rattle.study_material.specs.Class.{IsOf}
use Rattle.study_values.specs.declared.fault.SourceFault.{SourceFault}
use Rattle.study_values.specs.Values.{ProbeAnswer, ValueSource}
use Rattle.study_values.specs.declared.values.ProbeFault.{ProbeFault}
use Rattle.study_values.specs.declared.values.ProbeFault.TheVariants as probe
use Rattle.study_marks.specs.Answers.{WereEvaluated, IsFirstFault}
use Rattle.study_marks.proofs.FaultsReported.{evaluated-append}
use Rattle.study_facts.specs.Asked.{HasProbed}

module _ {V : Type 0} (source : ValueSource V) where
  -- some positions were probed, and each value was read; or each except the last
  abbrev pub SomeEvaluated : V → V → Type 0
  SomeEvaluated old new = (asked : List Position) × WereEvaluated source old asked new

  abbrev pub SomeFault : V → ProbeFault → V → Type 0
  SomeFault old f new = (asked : List Position) × IsFirstFault source old asked f new

  first-back : (old mid new : V) (xs ys : List Position) (f : ProbeFault) → WereEvaluated source old xs mid
      → IsFirstFault source mid ys f new → IsFirstFault source old (xs ++ ys) f new
  first-back old mid new [] ys f h k = subst (λ (s : V). IsFirstFault source s ys f new) h k
  first-back old mid new (x ∷ xs) ys f h k = inr (h.0, h.1, h.2, first-back h.1 mid new xs ys f h.3 k)

  pub evaluated-none : (old : V) → SomeEvaluated old old
  evaluated-none old = ([], refl)

  pub evaluated-then : (old mid new : V) → SomeEvaluated old mid → SomeEvaluated mid new → SomeEvaluated old new
  evaluated-then old mid new h k = (h.0 ++ k.0, evaluated-append source old mid new h.0 k.0 h.1 k.1)

  pub fault-then : (old mid new : V) (f : ProbeFault) → SomeEvaluated old mid → SomeFault mid f new → SomeFault old f new
  fault-then old mid new f h k = (h.0 ++ k.0, first-back old mid new h.0 k.0 f h.1 k.1)

  pub asked-then : {U : Type 0} (old mid new : V) (r : Result U ProbeFault) → SomeEvaluated old mid
      → HasProbed source mid r new → HasProbed source old r new
  asked-then old mid new (Ok y) h k = evaluated-then old mid new h k
  asked-then old mid new (Err f) h k = fault-then old mid new f h k

  -- one position was probed
  pub asked-one : (old new : V) (p : Position) (r : ProbeAnswer) → IsValid p → source.gives old p r → source.asked_of new ≡ next_count (source.asked_of old)
      → ((c : Class) (f : SourceFault) → IsOf c p → IsErrOf r (probe.TableRead f) → source.may_fail old c f)
      → ((c : Class) (f : SourceFault) → source.may_fail new c f → source.may_fail old c f)
      → HasProbed source old r new
  asked-one old new p (Ok v) valid g n so before = (
    p ∷ [],
    (
      v,
      new,
      record { valid = valid; given = g; asked = n; failed_so = so; fails_as_before = before },
      refl,
    ),
  )
  asked-one old new p (Err f) valid g n so before = (p ∷ [], inl (record { valid = valid; given = g; asked = n; failed_so = so; fails_as_before = before }))

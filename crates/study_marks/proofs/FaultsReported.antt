-- The fault of the first value that could not be read, as a refusal.
use Rattle.std.proofs.Common.{◌≡◌, ℕ, ◌+◌, ◌<◌, List, [], ◌∷◌, ◌++◌, length, take, drop, get_or, suc, inl, inr, Result, Ok, Err, IsErrAnd, IfErr, sym, ap}
use Rattle.std.proofs.Common.{◌∙◌, subst}
use Rattle.study_board.specs.Position.{Position}
use Rattle.study_values.specs.Values.{IsNotDamage, ValueSource}
use Rattle.study_values.specs.declared.values.ProbeFault.{ProbeFault}
use Rattle.study_values.specs.declared.values.ProbeFault.TheVariants as probe
use Rattle.study_marks.specs.declared.refusal.Refusal.{Refusal}
use Rattle.study_marks.specs.Refusals.{refused_by}
use Rattle.study_marks.specs.Queries.{asked_at}
use Rattle.study_marks.specs.Relabelled.{asked_each}
use Rattle.study_marks.specs.Answers.{WereEvaluated, IsFirstFault, TellsFirstFault, IsUndamaged}
use Rattle.study_marks.proofs.PositionsListed.{take-one, split-at, asked_each-append, append-none}

module _ {V : Type 0} (source : ValueSource V) where
  first-evaluated : (A : Type 0) (old : V) (asked : List Position) (new : V) (f : ProbeFault) → IsFirstFault source old asked f new
      → TellsFirstFault {A = A} source old asked new (refused_by f)
  first-evaluated A old asked new (probe.NoTable c) h = h
  first-evaluated A old asked new (probe.TableRead x) h = h
  first-evaluated A old asked new (probe.PageDamaged c n) h = h

  pub first-answer : {A T : Type 0} (old : V) (asked : List Position) (new : V) (f : ProbeFault) (r : Result T (Refusal A))
      → IsErrAnd r (λ x. x ≡ refused_by f) → IsFirstFault source old asked f new
      → IfErr r (TellsFirstFault source old asked new)
  first-answer old asked new f (Ok x) e h = absurd e
  first-answer {A = A} old asked new f (Err x) e h =
      subst (TellsFirstFault {A = A} source old asked new) (sym e) (first-evaluated A old asked new f h)

  -- lists of positions, one after the other
  pub evaluated-append : (old mid new : V) (xs ys : List Position) → WereEvaluated source old xs mid → WereEvaluated source mid ys new
      → WereEvaluated source old (xs ++ ys) new
  evaluated-append old mid new [] ys h k = subst (λ (s : V). WereEvaluated source s ys new) h k
  evaluated-append old mid new (x ∷ xs) ys h k = (h.0, h.1, h.2, evaluated-append h.1 mid new xs ys h.3 k)

  first-front : (old new : V) (xs ys : List Position) (f : ProbeFault) → IsFirstFault source old xs f new
      → IsFirstFault source old (xs ++ ys) f new
  first-front old new [] ys f h = absurd h
  first-front old new (x ∷ xs) ys f (inl h) = inl h
  first-front old new (x ∷ xs) ys f (inr h) = inr (h.0, h.1, h.2, first-front h.1 new xs ys f h.3)

  first-back : (old mid new : V) (xs ys : List Position) (f : ProbeFault) → WereEvaluated source old xs mid
      → IsFirstFault source mid ys f new → IsFirstFault source old (xs ++ ys) f new
  first-back old mid new [] ys f h k = subst (λ (s : V). IsFirstFault source s ys f new) h k
  first-back old mid new (x ∷ xs) ys f h k = inr (h.0, h.1, h.2, first-back h.1 mid new xs ys f h.3 k)

  pub evaluated-next : (old mid new : V) (ps : List Position) (i : ℕ) (p : Position) → i < length ps → p ≡ get_or ps i p
      → WereEvaluated source old (asked_each (take i ps)) mid → WereEvaluated source mid (asked_at p) new
      → WereEvaluated source old (asked_each (take (i + 1) ps)) new
  evaluated-next old mid new ps i p short is h k =
      subst (λ (qs : List Position). WereEvaluated source old qs new)
      (sym (ap asked_each (take-one ps i p short is) ∙ asked_each-append (take i ps) (p ∷ []) ∙ ap (λ x. asked_each (take i ps) ++ x)
      (append-none (asked_at p))))
      (evaluated-append old mid new (asked_each (take i ps)) (asked_at p) h k)

  pub first-at : (old mid new : V) (ps : List Position) (i : ℕ) (p : Position) (f : ProbeFault) → i < length ps → p ≡ get_or ps i p
      → WereEvaluated source old (asked_each (take i ps)) mid → IsFirstFault source mid (asked_at p) f new
      → IsFirstFault source old (asked_each ps) f new
  first-at old mid new ps i p f short is h k =
      subst (λ (qs : List Position). IsFirstFault source old qs f new)
      (sym (ap asked_each (split-at ps i p short is) ∙ asked_each-append (take i ps) (p ∷ drop (suc i) ps)))
      (first-back old mid new (asked_each (take i ps)) (asked_at p ++ asked_each (drop (suc i) ps)) f h
      (first-front mid new (asked_at p) (asked_each (drop (suc i) ps)) f k))

  -- a result that passes a refusal on
  pub same-first : {A T : Type 0} (old : V) (asked : List Position) (new : V) (r : Result T (Refusal A)) (f : Refusal A)
      → IsErrAnd r (λ x. x ≡ f) → TellsFirstFault source old asked new f → IfErr r (TellsFirstFault source old asked new)
  same-first old asked new (Ok x) f e h = absurd e
  same-first {A = A} old asked new (Err x) f e h = subst (TellsFirstFault {A = A} source old asked new) (sym e) h

-- ---- no damage

no-damage-evaluated : (A : Type 0) (f : ProbeFault) → IsNotDamage f → IsUndamaged {A = A} (refused_by f)
no-damage-evaluated A (probe.NoTable c) h = tt
no-damage-evaluated A (probe.TableRead x) h = h
no-damage-evaluated A (probe.PageDamaged c n) h = absurd h

pub undamaged-answer : {A T : Type 0} (f : ProbeFault) (r : Result T (Refusal A)) → IsErrAnd r (λ x. x ≡ refused_by f)
    → IsNotDamage f → IfErr r IsUndamaged
undamaged-answer f (Ok x) e h = absurd e
undamaged-answer {A = A} f (Err x) e h = subst (IsUndamaged {A = A}) (sym e) (no-damage-evaluated A f h)

pub same-undamaged : {A T : Type 0} (f : Refusal A) (r : Result T (Refusal A)) → IsErrAnd r (λ x. x ≡ f)
    → IsUndamaged f → IfErr r IsUndamaged
same-undamaged f (Ok x) e h = absurd e
same-undamaged {A = A} f (Err x) e h = subst (IsUndamaged {A = A}) (sym e) h

-- Probes stay within the classes that a position needs.
use Rattle.std.proofs.Common.{◌≡◌, ℕ, not, zero, suc, Bool, true, List, [], ◌∷◌, Result, Ok, Err, IsErrOf, inl, inr, refl, sym, ap, subst, map, ◌∙◌}
use Rattle.std.specs.List.{All}
use Rattle.std.proofs.lemmas.List.Elements.{All-filter}
use Rattle.study_board.specs.Position.{Position, IsValid}
use Rattle.study_moves.specs.declared.moves.Move.{Move}
use Rattle.study_moves.specs.Rules.{is_legal, after}
use Rattle.study_moves.specs.LegalList.{legal_list}
use Rattle.study_tree.specs.Forest.{Forest, none, more}
use Rattle.study_material.specs.declared.class.Class.{Class}
use Rattle.study_material.specs.Class.{IsOf}
use Rattle.study_material.specs.Needs.{Reaches, IsNeeded, NeedsClass}
use Rattle.study_material.proofs.Classes.{lists_of-injective}
use Rattle.study_material.proofs.EachHasClass.{class_exists}
use Rattle.study_material.proofs.MovesOn.{moves_lead_on}
use Rattle.study_values.specs.declared.fault.SourceFault.{SourceFault}
use Rattle.study_values.specs.declared.value.Value.{Value}
use Rattle.study_values.specs.Values.{ProbeAnswer, ValueSource}
use Rattle.study_values.specs.declared.values.ProbeFault.{ProbeFault}
use Rattle.study_values.specs.declared.values.ProbeFault.TheVariants as probe
use Rattle.study_marks.specs.Answers.{Answers, WereEvaluated, IsFirstFault}
use Rattle.study_marks.specs.Queries.{IsFirstMissing}
use Rattle.study_marks.specs.Evaluated.{IsProbeFaultOf}
use Rattle.study_marks.specs.Study.{Study, IsPlayable, moves_to, position_after, position_at}
use Rattle.study_facts.specs.Asked.{IsReached, IsWithinNeeds, within, HasProbed, AllEvaluated, Stopped}
use Rattle.study_facts.specs.Continuations.{contains_move, moves_except}
use Rattle.study_facts.specs.Made.{HasAsked}
use Rattle.study_facts.specs.declared.fault.TextFault.{TextFault}
use Rattle.study_facts.specs.declared.fault.TextFault.TheVariants.{OutOfMemory, NoValue}
use Rattle.study_facts.proofs.Chosen.{all-first, all-rest}
use Rattle.study_facts.proofs.LegalMoves.{legal-listed}

-- ---- classes

needed-on : (n : ℕ) (c d e : Class) → Reaches n c d → IsNeeded d e → IsNeeded c e
needed-on zero c d e h k = subst (λ (x : Class). IsNeeded x e) (sym h) k
needed-on (suc n) c d e (b, in_needs, h) k = let x = needed-on n b d e h k in (suc x.0, (b, in_needs, x.1))

pub needs-own : (p : Position) (c : Class) → IsOf c p → NeedsClass p c
needs-own p c of = (c, of, (0, refl))

needs-through : (p q : Position) (c : Class) → ((d : Class) → IsOf d q → NeedsClass p d) → NeedsClass q c → NeedsClass p c
needs-through p q c h (d, of, n) = let x = h d of in (x.0, x.1, needed-on x.2.0 x.0 d c x.2.1 n)

-- ---- positions to which one leads

pub record LeadsTo (p q : Position) : Type 0 where
  pub valid : IsValid p → IsValid q
  pub reached : IsReached p q

pub leads-nowhere : (p : Position) → LeadsTo p p
leads-nowhere p = record { valid = λ v. v; reached = λ v c of. needs-own p c of }

pub leads-on : (p q r : Position) → LeadsTo p q → LeadsTo q r → LeadsTo p r
leads-on p q r h k = record {
  valid = λ v. k.valid (h.valid v);
  reached = λ v c of. needs-through p q c (h.reached v) (k.reached (h.valid v) c of);
}

pub leads-by : (p : Position) (m : Move) → is_legal p m ≡ true → LeadsTo p (after p m)
leads-by p m legal = record {
  valid = λ v. let own = class_exists p v in (moves_lead_on own.0 p (after p m) v own.1 (m, legal, refl)).valid;
  reached = λ v c of.
      let own = class_exists p v in
      elim (moves_lead_on own.0 p (after p m) v own.1 (m, legal, refl)).of_class [
        | inl same ↦ (own.0, own.1, (0, lists_of-injective own.0 c (same ∙ sym of)))
        | inr y ↦ (own.0, own.1, (1, (y.0, y.1, lists_of-injective y.0 c (y.2 ∙ sym of))))
      ];
}

pub leads-to : (p q : Position) (m : Move) → is_legal p m ≡ true → q ≡ after p m → LeadsTo p q
leads-to p q m legal e = subst (λ (r : Position). LeadsTo p r) (sym e) (leads-by p m legal)

pub leads-first : (p q : Position) (m : Move) (ms rest : List Move) → ms ≡ m ∷ rest → All (λ n. is_legal p n ≡ true) ms → q ≡ after p m → LeadsTo p q
leads-first p q m ms rest e h is = leads-to p q m (all-first (λ n. is_legal p n ≡ true) m ms rest e h) is

-- to a node of a tree of legal moves
module _ {L : Type 0} where
  leads-along : (p : Position) (f : Forest L) (steps : List ℕ) → IsPlayable p f → LeadsTo p (position_after p (moves_to f steps))
  leads-along p f [] h = leads-nowhere p
  leads-along p none (k ∷ ks) h = leads-nowhere p
  leads-along p (more m l b r) (zero ∷ ks) h =
      leads-on p (after p m) (position_after (after p m) (moves_to b ks)) (leads-by p m h.0) (leads-along (after p m) b ks h.1)
  leads-along p (more m l b r) (suc k ∷ ks) h = leads-along p r (k ∷ ks) h.2

  pub leads-at : (s : Study L) (steps : List ℕ) (q : Position) → IsPlayable s.start.position s.tree.below → q ≡ position_at s steps
      → LeadsTo s.start.position q
  leads-at s steps q h e = subst (λ (r : Position). LeadsTo s.start.position r) (sym e) (leads-along s.start.position s.tree.below steps h)

-- ---- lists of positions

abbrev pub EachReached : Position → List Position → Type 0
EachReached p [] = Unit {0}
EachReached p (q ∷ qs) = IsReached p q × EachReached p qs

pub each-after : (p : Position) (ms : List Move) → All (λ m. is_legal p m ≡ true) ms → EachReached p (map (after p) ms)
each-after p [] h = tt
each-after p (m ∷ ms) h = (
  (leads-by p m (all-first (λ n. is_legal p n ≡ true) m (m ∷ ms) ms refl h)).reached,
  each-after p ms (all-rest (λ n. is_legal p n ≡ true) m (m ∷ ms) ms refl h),
)

pub each-legal : (p : Position) → EachReached p (map (after p) (legal_list p))
each-legal p = each-after p (legal_list p) (legal-listed p)

pub each-other : (p : Position) (there : List Move) → EachReached p (map (after p) (moves_except there p))
each-other p there =
    each-after p (moves_except there p) (All-filter (λ m. not (contains_move m there)) (λ m. is_legal p m ≡ true) (legal_list p) (legal-listed p))

missing-needed : (p : Position) (held : Class → Bool) (qs : List Position) (c : Class) → EachReached p qs → IsValid p → IsFirstMissing held qs c
    → NeedsClass p c
missing-needed p held [] c h v x = absurd x
missing-needed p held (q ∷ qs) c h v (inl x) = h.0 v c x.0
missing-needed p held (q ∷ qs) c h v (inr x) = missing-needed p held qs c h.1 v x.1

no_value-needed : (p : Position) (held : Class → Bool) (qs : List Position) (f : ProbeFault) → EachReached p qs → IsProbeFaultOf held qs f
    → IsWithinNeeds p (Err f)
no_value-needed p held qs f h no_value v c e =
    let same : f ≡ probe.NoTable c = cc in
    missing-needed p held qs c h v (subst (λ (x : ProbeFault). IsProbeFaultOf held qs x) same no_value)

-- ---- answers

value-within : (p : Position) (v : Value) → IsWithinNeeds p (Ok v)
value-within p v valid c e = let no : ⊥ = cc in absurd no

module _ {V : Type 0} (source : ValueSource V) where
  pub own-answer : (v : V) (q : Position) (r : ProbeAnswer) → source.gives v q r → ((c : Class) → IsErrOf r (probe.NoTable c) → IsOf c q)
      → (within q source).gives v q r
  own-answer v q r g of = (g, (λ valid c is. needs-own q c is), (λ valid c e. needs-own q c (of c e)))

  wider : (p q : Position) → LeadsTo p q → (v : V) (r : Position) (a : ProbeAnswer) → (within q source).gives v r a → (within p source).gives v r a
  wider p q lead v r a h = (
    h.0,
    (λ valid c of. needs-through p q c (lead.reached valid) (h.1 (lead.valid valid) c of)),
    (λ valid c e. needs-through p q c (lead.reached valid) (h.2 (lead.valid valid) c e)),
  )

  -- the same values with other possible answers
  abbrev giving : (V → Position → ProbeAnswer → Type 0) → ValueSource V
  giving G = record source { gives = G }

  -- the same, with more possible answers
  answers-more : (G H : V → Position → ProbeAnswer → Type 0) (old : V) (p : Position) (a : ProbeAnswer) (new : V) → (G old p a → H old p a)
      → Answers (giving G) old p a new → Answers (giving H) old p a new
  answers-more G H old p a new f h = record {
    valid = h.valid;
    given = f h.given;
    asked = h.asked;
    failed_so = h.failed_so;
    fails_as_before = h.fails_as_before;
  }

  evaluated-more : (G H : V → Position → ProbeAnswer → Type 0) → ((v : V) (p : Position) (a : ProbeAnswer) → G v p a → H v p a)
      → (old new : V) (qs : List Position) → WereEvaluated (giving G) old qs new → WereEvaluated (giving H) old qs new
  evaluated-more G H f old new [] h = h
  evaluated-more G H f old new (q ∷ qs) (v, mid, a, h) = (v, mid, answers-more G H old q (Ok v) mid (f old q (Ok v)) a, evaluated-more G H f mid new qs h)

  fault-more : (G H : V → Position → ProbeAnswer → Type 0) → ((v : V) (p : Position) (a : ProbeAnswer) → G v p a → H v p a)
      → (old new : V) (qs : List Position) (e : ProbeFault) → IsFirstFault (giving G) old qs e new → IsFirstFault (giving H) old qs e new
  fault-more G H f old new [] e h = h
  fault-more G H f old new (q ∷ qs) e (inl a) = inl (answers-more G H old q (Err e) new (f old q (Err e)) a)
  fault-more G H f old new (q ∷ qs) e (inr (v, mid, a, h)) =
      inr (v, mid, answers-more G H old q (Ok v) mid (f old q (Ok v)) a, fault-more G H f mid new qs e h)

  module _ (p : Position) where
    evaluated-each : (old new : V) (qs : List Position) → EachReached p qs → WereEvaluated source old qs new → WereEvaluated (within p source) old qs new
    evaluated-each old new [] r h = h
    evaluated-each old new (q ∷ qs) r (v, mid, a, h) = (
      v,
      mid,
      answers-more source.gives (within p source).gives old q (Ok v) mid (λ g. (g, r.0, value-within p v)) a,
      evaluated-each mid new qs r.1 h,
    )

    fault-each : (old new : V) (qs : List Position) (e : ProbeFault) → EachReached p qs → IsWithinNeeds p (Err e) → IsFirstFault source old qs e new
        → IsFirstFault (within p source) old qs e new
    fault-each old new [] e r n h = h
    fault-each old new (q ∷ qs) e r n (inl a) = inl (answers-more source.gives (within p source).gives old q (Err e) new (λ g. (g, r.0, n)) a)
    fault-each old new (q ∷ qs) e r n (inr (v, mid, a, h)) = inr (
      v,
      mid,
      answers-more source.gives (within p source).gives old q (Ok v) mid (λ g. (g, r.0, value-within p v)) a,
      fault-each mid new qs e r.1 n h,
    )

    -- these positions were probed, and the position leads to each
    pub some-evaluated : (old new : V) (qs : List Position) → EachReached p qs → WereEvaluated source old qs new
        → (asked : List Position) × WereEvaluated (within p source) old asked new
    some-evaluated old new qs r h = (qs, evaluated-each old new qs r h)

    pub some-fault : (held : Class → Bool) (old new : V) (qs : List Position) (e : ProbeFault) → EachReached p qs → IsProbeFaultOf held qs e
        → IsFirstFault source old qs e new → (asked : List Position) × IsFirstFault (within p source) old asked e new
    some-fault held old new qs e r n h = (qs, fault-each old new qs e r (no_value-needed p held qs e r n) h)

    -- the same for a position that leads to it
    module _ (q : Position) (lead : LeadsTo p q) where
      pub evaluated-wider : (old new : V) → ((asked : List Position) × WereEvaluated (within q source) old asked new)
          → (asked : List Position) × WereEvaluated (within p source) old asked new
      evaluated-wider old new h = (h.0, evaluated-more (within q source).gives (within p source).gives (wider p q lead) old new h.0 h.1)

      pub fault-wider : (old new : V) (e : ProbeFault) → ((asked : List Position) × IsFirstFault (within q source) old asked e new)
          → (asked : List Position) × IsFirstFault (within p source) old asked e new
      fault-wider old new e h = (h.0, fault-more (within q source).gives (within p source).gives (wider p q lead) old new h.0 e h.1)

      pub has-wider : {T : Type 0} (old new : V) (r : Result T ProbeFault) → HasProbed (within q source) old r new
          → HasProbed (within p source) old r new
      has-wider old new (Ok x) h = evaluated-wider old new h
      has-wider old new (Err e) h = fault-wider old new e h

      pub all-wider : (old new : V) → AllEvaluated (within q source) old new → AllEvaluated (within p source) old new
      all-wider old new h = record { evaluated = evaluated-wider old new h.evaluated; failures = h.failures; honest = h.honest; tables = h.tables }

      pub stops-wider : (old new : V) (f : ProbeFault) → Stopped (within q source) old f new → Stopped (within p source) old f new
      stops-wider old new f h = record {
        evaluated = fault-wider old new f h.evaluated;
        no_value = h.no_value;
        no_damage = h.no_damage;
        failures = h.failures;
        honest = h.honest;
        tables = h.tables;
      }

      pub asks-wider : {T : Type 0} (old new : V) (r : Result T TextFault) → HasAsked (within q source) {T = T} old r new
          → HasAsked (within p source) {T = T} old r new
      asks-wider old new (Ok x) h = all-wider old new h
      asks-wider old new (Err OutOfMemory) h = all-wider old new h
      asks-wider old new (Err (NoValue f)) h = stops-wider old new f h

-- ---- the meaning of the fault

module _ {V : Type 0} (source : ValueSource V) (p : Position) (valid : IsValid p) where
  missed-in : (old new : V) (qs : List Position) (f : ProbeFault) (c : Class) → IsFirstFault (within p source) old qs f new
      → f ≡ probe.NoTable c → NeedsClass p c
  missed-in old new [] f c h e = absurd h
  missed-in old new (q ∷ qs) f c (inl a) e = a.given.2 valid c (ap Err e)
  missed-in old new (q ∷ qs) f c (inr (v, mid, a, h)) e = missed-in mid new qs f c h e

  unread-in : (old new : V) (qs : List Position) (f : ProbeFault) (x : SourceFault) → IsFirstFault (within p source) old qs f new
      → f ≡ probe.TableRead x → (c : Class) × NeedsClass p c × source.may_fail old c x
  unread-in old new [] f x h e = absurd h
  unread-in old new (q ∷ qs) f x (inl a) e =
      let own = class_exists q a.valid in
      (own.0, a.given.1 valid own.0 own.1, a.failed_so own.0 x own.1 (ap Err e))
  unread-in old new (q ∷ qs) f x (inr (v, mid, a, h)) e =
      let y = unread-in mid new qs f x h e in (y.0, y.1, a.fails_as_before y.0 x y.2)

  -- the missing table is one that the position needs
  pub missed-needed : (old new : V) (f : ProbeFault) (c : Class) → ((asked : List Position) × IsFirstFault (within p source) old asked f new)
      → f ≡ probe.NoTable c → NeedsClass p c
  missed-needed old new f c h e = missed-in old new h.0 f c h.1 e

  -- and so is one that could not be read, which may fail so
  pub unread-needed : (old new : V) (f : ProbeFault) (x : SourceFault) → ((asked : List Position) × IsFirstFault (within p source) old asked f new)
      → f ≡ probe.TableRead x → (c : Class) × NeedsClass p c × source.may_fail old c x
  unread-needed old new f x h e = unread-in old new h.0 f x h.1 e

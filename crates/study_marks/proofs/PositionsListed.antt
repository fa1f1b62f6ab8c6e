-- Positions listed in written order, their probes, and their evaluations.
use Rattle.std.proofs.Common.{◌≡◌, ℕ, ◌+◌, ◌<◌, ◌≤◌, List, [], ◌∷◌, ◌++◌, length, get_or, take, drop}
use Rattle.std.proofs.Common.{Bool, true, false, Some, Result, Ok, Err, is_ok, refl, sym, ap, ◌∙◌}
use Rattle.std.proofs.Common.{arith, zero, suc, subst, inl, inr, append_assoc, length-append}
use Rattle.std.specs.Prelude.{IfErr, IsErrAnd}
use Rattle.study_board.specs.Position.{Position}
use Rattle.study_material.specs.declared.class.Class.{Class}
use Rattle.study_moves.specs.Rules.{is_legal, after}
use Rattle.study_values.specs.declared.values.ProbeFault.{ProbeFault}
use Rattle.study_values.specs.declared.values.ProbeFault.TheVariants as probe
use Rattle.study_tree.specs.Forest.{Forest, none, more, Twig, nodes_in}
use Rattle.study_tree.specs.Edits.{node_in, width}
use Rattle.study_tree.specs.Tree.{Plain}
use Rattle.study_marks.specs.declared.node_label.NodeLabel.{NodeLabel}
use Rattle.study_marks.specs.declared.node_label.Evaluation.{Evaluation}
use Rattle.study_marks.specs.Study.{mapped, IsPlayable}
use Rattle.study_marks.specs.Queries.{asked_at, asked_below, AreTablesHeld, IsFirstMissing, IsFirstUnread, counted_up_by}
use Rattle.study_marks.specs.Evaluated.{IsEvaluationOf, AreEvaluated, AllAreEvaluated, IsProbeFaultOf, ProbeCount}
use Rattle.study_marks.specs.BenchState.{evaluation_tree}
use Rattle.study_marks.specs.Relabelled.{evaluation_in, with_evaluations, reevaluated_tree, firsts, positions_in, asked_each, AreEvaluationsOf}
use Rattle.study_marks.proofs.ValuesAsked.{missing-same, unread-same}
use Rattle.study_marks.proofs.LabelsWritten.{firsts-all, counted_times-sum}

pub append-none : {X : Type 0} (xs : List X) → xs ++ [] ≡ xs
append-none [] = refl
append-none (x ∷ xs) = ap (λ ys. x ∷ ys) (append-none xs)

-- the positions of the first nodes, and of one more
IsPlayable-nth : (p : Position) (f : Forest NodeLabel) (k : ℕ) (u : Twig NodeLabel) → node_in f k [] ≡ Some u
    → IsPlayable p f → (is_legal p u.played ≡ true) × IsPlayable (after p u.played) u.below
IsPlayable-nth p none k u e h = let no : ⊥ = cc in absurd no
IsPlayable-nth p (more m l b r) zero u e h =
    subst (λ (x : Twig NodeLabel). (is_legal p x.played ≡ true) × IsPlayable (after p x.played) x.below)
    (let s : record { played = m; label = l; below = b } ≡ u = cc in s) (h.0, h.1)
IsPlayable-nth p (more m l b r) (suc k) u e h = IsPlayable-nth p r k u e h.2

positions-next : (p : Position) (f : Forest NodeLabel) (k : ℕ) (u : Twig NodeLabel) → node_in f k [] ≡ Some u
    → positions_in p (firsts (suc k) f) ≡ positions_in p (firsts k f)
    ++ (after p u.played ∷ positions_in (after p u.played) u.below)
positions-next p none k u e = let no : ⊥ = cc in absurd no
positions-next p (more m l b r) zero u e =
    ap (λ x. after p m ∷ x) (append-none (positions_in (after p m) b))
    ∙ ap (λ (x : Twig NodeLabel). after p x.played ∷ positions_in (after p x.played) x.below) (let s : record { played = m; label = l; below = b } ≡ u = cc in
    s)
positions-next p (more m l b r) (suc k) u e =
    ap (λ x. after p m ∷ (positions_in (after p m) b ++ x)) (positions-next p r k u e)
    ∙ ap (λ x. after p m ∷ x)
    (sym (append_assoc (positions_in (after p m) b) (positions_in p (firsts k r))
    (after p u.played ∷ positions_in (after p u.played) u.below)))

-- in the terms of the loop
module _ (p : Position) (f : Forest NodeLabel) (k : ℕ) where
  pub legal-child : (u : Twig NodeLabel) → node_in f k [] ≡ Some u → IsPlayable p f
      → (is_legal p u.played ≡ true) × IsPlayable (after p u.played) u.below
  legal-child u e h = IsPlayable-nth p f k u e h

  pub listed-next : (u : Twig NodeLabel) (next : Position) (old all one new : List Position) → node_in f k [] ≡ Some u
      → next ≡ after p u.played → all ≡ old ++ positions_in p (firsts k f) → one ≡ all ++ next ∷ []
      → new ≡ one ++ positions_in next u.below → new ≡ old ++ positions_in p (firsts (k + 1) f)
  listed-next u next old all one new e en h one_is new_is =
      let child : next ∷ positions_in next u.below ≡ after p u.played ∷ positions_in (after p u.played) u.below =
      ap (λ x. x ∷ positions_in x u.below) en in
      new_is ∙ ap (λ x. x ++ positions_in next u.below) one_is ∙ append_assoc all (next ∷ []) (positions_in next u.below)
      ∙ ap (λ x. all ++ x) child ∙ ap (λ x. x ++ (after p u.played ∷ positions_in (after p u.played) u.below)) h
      ∙ append_assoc old (positions_in p (firsts k f)) (after p u.played ∷ positions_in (after p u.played) u.below)
      ∙ ap (λ x. old ++ x) (sym (positions-next p f k u e))
      ∙ ap (λ i. old ++ positions_in p (firsts i f)) (let z : suc k ≡ k + 1 = omega arith in z)

  pub listed-all : (old all : List Position) → width f ≤ k → all ≡ old ++ positions_in p (firsts k f) → all ≡ old ++ positions_in p f
  listed-all old all full h = h ∙ ap (λ (x : Forest NodeLabel). old ++ positions_in p x) (firsts-all k f full)

-- the probes for a list of positions
pub asked_each-append : (ps qs : List Position) → asked_each (ps ++ qs) ≡ asked_each ps ++ asked_each qs
asked_each-append [] qs = refl
asked_each-append (p ∷ ps) qs = ap (λ x. asked_at p ++ x) (asked_each-append ps qs) ∙ sym (append_assoc (asked_at p) (asked_each ps) (asked_each qs))

asked-positions : (p : Position) (f : Forest NodeLabel) → asked_each (positions_in p f) ≡ asked_below p f
asked-positions p none = refl
asked-positions p (more m l b r) =
    ap (λ x. asked_at (after p m) ++ x) (asked_each-append (positions_in (after p m) b) (positions_in p r)
    ∙ ap (λ x. x ++ asked_each (positions_in p r)) (asked-positions (after p m) b) ∙ ap (λ x. asked_below (after p m) b ++ x) (asked-positions p r))

pub asked-tree : (p : Position) (f : Forest NodeLabel) (ps : List Position) → ps ≡ p ∷ positions_in p f → asked_each ps ≡ asked_at p ++ asked_below p f
asked-tree p f ps e = ap asked_each e ∙ ap (λ x. asked_at p ++ x) (asked-positions p f)

-- tables that are loaded, and the first that is not
AreTablesHeld-append : (held : Class → Bool) (xs ys : List Position) → AreTablesHeld held xs → AreTablesHeld held ys → AreTablesHeld held (xs ++ ys)
AreTablesHeld-append held [] ys h k = k
AreTablesHeld-append held (x ∷ xs) ys h k = (h.0, AreTablesHeld-append held xs ys h.1 k)

pub AreTablesHeld-same : (held now : Class → Bool) (xs : List Position) → ((d : Class) → now d ≡ held d) → AreTablesHeld now xs → AreTablesHeld held xs
AreTablesHeld-same held now [] same h = tt
AreTablesHeld-same held now (x ∷ xs) same h = ((λ c o. sym (same c) ∙ h.0 c o), AreTablesHeld-same held now xs same h.1)

missing-front : (held : Class → Bool) (xs ys : List Position) (c : Class) → IsFirstMissing held xs c → IsFirstMissing held (xs ++ ys) c
missing-front held [] ys c h = absurd h
missing-front held (x ∷ xs) ys c (inl h) = inl h
missing-front held (x ∷ xs) ys c (inr h) = inr (h.0, missing-front held xs ys c h.1)

missing-back : (held : Class → Bool) (xs ys : List Position) (c : Class) → AreTablesHeld held xs → IsFirstMissing held ys c → IsFirstMissing held (xs ++ ys) c
missing-back held [] ys c h k = k
missing-back held (x ∷ xs) ys c h k = inr (h.0, missing-back held xs ys c h.1 k)

unread-front : (held : Class → Bool) (xs ys : List Position) (f : ProbeFault) → IsFirstUnread held xs f
    → IsFirstUnread held (xs ++ ys) f
unread-front held [] ys f h = absurd h
unread-front held (x ∷ xs) ys f h =
    (h.0, elim h.1 [ inl here ↦ inl here | inr there ↦ inr (unread-front held xs ys f there) ])

unread-back : (held : Class → Bool) (xs ys : List Position) (f : ProbeFault) → AreTablesHeld held xs
    → IsFirstUnread held ys f → IsFirstUnread held (xs ++ ys) f
unread-back held [] ys f h k = k
unread-back held (x ∷ xs) ys f h k = (h.0, inr (unread-back held xs ys f h.1 k))

no_value-middle : (held now : Class → Bool) (xs ys zs : List Position) (f : ProbeFault)
    → ((d : Class) → now d ≡ held d) → AreTablesHeld held xs → IsProbeFaultOf now ys f → IsProbeFaultOf held (xs ++ (ys ++ zs)) f
no_value-middle held now xs ys zs (probe.NoTable c) same h k =
    missing-back held xs (ys ++ zs) c h (missing-front held ys zs c (missing-same held now ys c same k))
no_value-middle held now xs ys zs (probe.TableRead x) same h k =
    let f = probe.TableRead x in
    unread-back held xs (ys ++ zs) f h (unread-front held ys zs f (unread-same held now ys f same k))
no_value-middle held now xs ys zs (probe.PageDamaged c n) same h k =
    let f = probe.PageDamaged c n in
    unread-back held xs (ys ++ zs) f h (unread-front held ys zs f (unread-same held now ys f same k))

AreEvaluationsOf-append : (ps qs : List Position) (ts us : List Evaluation) → AreEvaluationsOf ps ts → AreEvaluationsOf qs us
    → AreEvaluationsOf (ps ++ qs) (ts ++ us)
AreEvaluationsOf-append [] qs [] us h k = k
AreEvaluationsOf-append [] qs (t ∷ ts) us h k = absurd h
AreEvaluationsOf-append (p ∷ ps) qs [] us h k = absurd h
AreEvaluationsOf-append (p ∷ ps) qs (t ∷ ts) us h k = (h.0, AreEvaluationsOf-append ps qs ts us h.1 k)

-- The results when all these positions were probed: loaded tables, and the counts of probes and of failures, before and after.
pub record IsAsked (held now : Class → Bool) (asked asked_now failed failed_now : ℕ) (honest honest_now : Type 0)
    (ps : List Position) (was all : List Evaluation) : Type 0 where
  pub tables : (c : Class) → now c ≡ held c
  pub found : AreTablesHeld held (asked_each ps)
  pub counts : asked_now ≡ counted_up_by (length (asked_each ps)) asked
  pub failures : failed_now ≡ failed
  pub stays : honest → honest_now
  pub evaluated : honest → (ts : List Evaluation) × AreEvaluationsOf ps ts × (all ≡ was ++ ts)

pub asked-next : (held mid now : Class → Bool) (asked asked_mid asked_now failed failed_mid failed_now : ℕ)
    (honest honest_mid honest_now : Type 0) (ps : List Position) (p : Position) (was all new : List Evaluation)
    → IsAsked held mid asked asked_mid failed failed_mid honest honest_mid ps was all
    → ((c : Class) → now c ≡ mid c) → AreTablesHeld mid (asked_at p)
    → asked_now ≡ counted_up_by (length (asked_at p)) asked_mid → failed_now ≡ failed_mid
    → (honest_mid → honest_now)
    → (honest_mid → (t : Evaluation) × IsEvaluationOf p t × (new ≡ all ++ t ∷ []))
    → IsAsked held now asked asked_now failed failed_now honest honest_now (ps ++ p ∷ []) was new
asked-next held mid now asked asked_mid asked_now failed failed_mid failed_now honest honest_mid honest_now ps p was
    all new h tables found counts failures stays evaluated = record {
      tables = λ c. tables c ∙ h.tables c;
      found = subst (AreTablesHeld held) (sym one)
          (AreTablesHeld-append held (asked_each ps) (asked_at p) h.found (AreTablesHeld-same held mid (asked_at p) h.tables found));
      counts = counts ∙ ap (counted_up_by (length (asked_at p))) h.counts ∙ sym (counted_times-sum (length (asked_each ps)) (length (asked_at p)) asked)
          ∙ ap (λ n. counted_up_by n asked) (sym (ap length one ∙ length-append (asked_each ps) (asked_at p)));
      failures = failures ∙ h.failures;
      stays = λ k. stays (h.stays k);
      evaluated = λ k. let x = h.evaluated k in let y = evaluated (h.stays k) in (
        x.0 ++ y.0 ∷ [],
        AreEvaluationsOf-append ps (p ∷ []) x.0 (y.0 ∷ []) x.1 (y.1, tt),
        y.2 ∙ ap (λ z. z ++ y.0 ∷ []) x.2
            ∙ append_assoc was x.0 (y.0 ∷ []),
      );
    }
  where
    one : asked_each (ps ++ p ∷ []) ≡ asked_each ps ++ asked_at p
    one = asked_each-append ps (p ∷ []) ∙ ap (λ x. asked_each ps ++ x) (append-none (asked_at p))

-- the position at an index
pub split-at : {X : Type 0} (xs : List X) (i : ℕ) (x : X) → i < length xs → x ≡ get_or xs i x → xs ≡ take i xs ++ x ∷ drop (suc i) xs
split-at [] i x h e = absurd (omega (arith, h))
split-at (y ∷ ys) zero x h e = ap (λ z. z ∷ ys) (sym e)
split-at (y ∷ ys) (suc i) x h e = ap (λ z. y ∷ z) (split-at ys i x (omega (arith, h)) e)

pub take-one : {X : Type 0} (xs : List X) (i : ℕ) (x : X) → i < length xs → x ≡ get_or xs i x → take (i + 1) xs ≡ take i xs ++ x ∷ []
take-one {X = X} xs i x h e = ap (λ n. take n xs) (let z : i + 1 ≡ suc i = omega arith in z) ∙ go xs i h e
  where
    go : (xs : List X) (i : ℕ) → i < length xs → x ≡ get_or xs i x → take (suc i) xs ≡ take i xs ++ x ∷ []
    go [] i h e = absurd (omega (arith, h))
    go (y ∷ ys) zero h e = ap (λ z. z ∷ []) (sym e)
    go (y ∷ ys) (suc i) h e = ap (λ z. y ∷ z) (go ys i (omega (arith, h)) e)

-- if a value could not be read
module _ (held mid : Class → Bool) (asked asked_mid failed failed_mid : ℕ) (honest honest_mid : Type 0)
    (xs : List Position) (i : ℕ) (p : Position) (was all : List Evaluation)
    (h : IsAsked held mid asked asked_mid failed failed_mid honest honest_mid (take i xs) was all) (short : i < length xs) (is : p ≡ get_or xs i p) where
  middle : asked_each xs ≡ asked_each (take i xs) ++ (asked_at p ++ asked_each (drop (suc i) xs))
  middle = ap asked_each (split-at xs i p short is) ∙ asked_each-append (take i xs) (p ∷ drop (suc i) xs)

  pub no_value-at : (f : ProbeFault) → IsProbeFaultOf mid (asked_at p) f → IsProbeFaultOf held (asked_each xs) f
  no_value-at f k =
      subst (λ ps. IsProbeFaultOf held ps f) (sym middle)
      (no_value-middle held mid (asked_each (take i xs)) (asked_at p) (asked_each (drop (suc i) xs)) f h.tables
      h.found k)

  pub asked-at : (new : ℕ) → ProbeCount (length (asked_at p)) false asked_mid new → ProbeCount (length (asked_each xs)) false asked new
  asked-at new k =
      let n = length (asked_each (take i xs)) in
      let long : length (asked_each xs) ≡ n + (length (asked_at p) + length (asked_each (drop (suc i) xs))) =
      ap length middle ∙ length-append (asked_each (take i xs)) (asked_at p ++ asked_each (drop (suc i) xs))
      ∙ ap (λ m. n + m) (length-append (asked_at p) (asked_each (drop (suc i) xs))) in
      let sum : n + suc k.0 ≡ suc (n + k.0) = omega arith in
      let count = k.2 ∙ ap (counted_up_by (suc k.0)) h.counts ∙ sym (counted_times-sum n (suc k.0) asked) in
      (n + k.0, omega (arith, k.1, long), subst (λ m. new ≡ counted_up_by m asked) sum count)

-- a result that passes a fault on
pub same-fault : {T : Type 0} (r : Result T ProbeFault) (f : ProbeFault) (P : ProbeFault → Type 0) → IsErrAnd r (λ x. x ≡ f) → P f → IfErr r P
same-fault (Ok x) f P e h = absurd e
same-fault (Err x) f P e h = subst P (sym e) h

pub fault-asked : {T : Type 0} (r : Result T ProbeFault) (f : ProbeFault) (n old new : ℕ) → IsErrAnd r (λ x. x ≡ f)
    → ProbeCount n false old new → ProbeCount n (is_ok r) old new
fault-asked (Ok x) f n old new e h = absurd e
fault-asked (Err x) f n old new e h = h

-- the evaluations of all nodes
AreAt : List Evaluation → ℕ → List Position → Type 0
AreAt all n [] = Unit {0}
AreAt all n (p ∷ ps) = ((d : Evaluation) → IsEvaluationOf p (evaluation_in all n d)) × AreAt all (suc n) ps

at-later : (t : Evaluation) (all : List Evaluation) (n : ℕ) (ps : List Position) → AreAt all n ps → AreAt (t ∷ all) (suc n) ps
unfolding AreAt
at-later t all n [] h = tt
at-later t all n (p ∷ ps) h = (h.0, at-later t all (suc n) ps h.1)

at-evaluated : (ps : List Position) (ts : List Evaluation) → AreEvaluationsOf ps ts → AreAt ts 0 ps
unfolding AreAt
at-evaluated [] ts h = tt
at-evaluated (p ∷ ps) [] h = absurd h
at-evaluated (p ∷ ps) (t ∷ ts) h = ((λ d. h.0), at-later t ts 0 ps (at-evaluated ps ts h.1))

at-append : (all : List Evaluation) (n j : ℕ) (ps qs : List Position) → AreAt all n (ps ++ qs) → j ≡ n + length ps → AreAt all n ps × AreAt all j qs
unfolding AreAt
at-append all n j [] qs h e = (tt, subst (λ x. AreAt all x qs) (let z : n ≡ j = omega (arith, e) in z) h)
at-append all n j (p ∷ ps) qs h e = let x = at-append all (suc n) j ps qs h.1 (omega (arith, e)) in ((h.0, x.0), x.1)

length-positions : {L : Type 0} (p : Position) (f : Forest L) → length (positions_in p f) ≡ nodes_in f
length-positions p none = refl
length-positions p (more m l b r) =
    omega (
      arith,
      length-append (positions_in (after p m) b) (positions_in p r),
      length-positions (after p m) b,
      length-positions p r,
    )

positions-mapped : {L M : Type 0} (g : L → M) (p : Position) (f : Forest L) → positions_in p (mapped g f) ≡ positions_in p f
positions-mapped g p none = refl
positions-mapped g p (more m l b r) =
    ap (λ x. after p m ∷ (x ++ positions_in p (mapped g r))) (positions-mapped g (after p m) b)
    ∙ ap (λ x. after p m ∷ (positions_in (after p m) b ++ x)) (positions-mapped g p r)

restated-evaluated : (all : List Evaluation) (p : Position) (n : ℕ) (f : Forest Evaluation) → AreAt all n (positions_in p f)
    → AreEvaluated p (with_evaluations all n f)
unfolding AreAt
restated-evaluated all p n none h = tt
restated-evaluated all p n (more m t b r) h =
    let e : n + 1 + nodes_in b ≡ suc n + length (positions_in (after p m) b) = omega (arith, length-positions (after p m) b) in
    let x = at-append all (suc n) (n + 1 + nodes_in b) (positions_in (after p m) b) (positions_in p r) h.1 e in (
      h.0 t,
      restated-evaluated all (after p m) (n + 1) b
          (subst (λ i. AreAt all i (positions_in (after p m) b)) (let z : suc n ≡ n + 1 = omega arith in z) x.0),
      restated-evaluated all p (n + 1 + nodes_in b) r x.1,
    )

pub evaluated-everywhere : (p : Position) (t : Plain NodeLabel) (ps : List Position) (all : List Evaluation)
    → ps ≡ p ∷ positions_in p t.below → ((ts : List Evaluation) × AreEvaluationsOf ps ts × (all ≡ [] ++ ts))
    → AllAreEvaluated p (reevaluated_tree all (evaluation_tree t))
unfolding AreAt
evaluated-everywhere p t ps all e h =
    let evaluated : AreEvaluationsOf (p ∷ positions_in p t.below) all = subst (λ x. AreEvaluationsOf x all) e (subst (AreEvaluationsOf ps) (sym h.2) h.1) in
    let at = at-evaluated (p ∷ positions_in p t.below) all evaluated in (
      at.0 t.label.evaluated,
      restated-evaluated all p 1 (evaluation_tree t).below
          (subst (AreAt all 1) (sym (positions-mapped (λ (l : NodeLabel). l.evaluated) p t.below)) at.1),
    )

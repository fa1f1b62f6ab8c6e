-- The moves that hold, and the number of only moves in a row, by values and by the list of the legal moves.
use Rattle.std.proofs.Common.{◌≡◌, ℕ, ◌-◌, ◌<◌, Bool, true, false, List, [], ◌∷◌, Option, Some, None, inl, inr, ◌⊎◌, Result, Ok, Err, IfOk, ◌↔◌}
use Rattle.std.proofs.Common.{length, suc, zero, arith, refl, sym, ap, subst, ◌∙◌}
use Rattle.std.specs.List.{Contains, AllPairs}
use Rattle.std.specs.Prelude.{slice_index_or}
use Rattle.std.proofs.lemmas.Bool.{false≢true}
use Rattle.study_board.specs.Position.{Position, IsValid}
use Rattle.study_moves.specs.declared.moves.Move.{Move}
use Rattle.study_moves.specs.Rules.{is_legal, after}
use Rattle.study_moves.specs.Laws.{EachHasAtMostOneValue}
use Rattle.study_moves.specs.Order.{move_place, IsBefore}
use Rattle.study_values.specs.declared.value.Value.{Value}
use Rattle.study_values.specs.declared.value.Value.TheVariants as values
use Rattle.study_values.specs.Game.{IsValueOf}
use Rattle.study_search.specs.declared.only_moves.Outcome.{Outcome}
use Rattle.study_search.specs.declared.only_moves.Outcome.TheVariants.{Win, Draw}
use Rattle.study_search.specs.OnlyMoves.{Has, Holds, IsOnlyMove, IsKey, HasOnlyMoves, has_outcome, keeps_outcome}
use Rattle.study_search.specs.Listed.{SomeLeads, IsOnlyAmong}
use Rattle.study_search.proofs.LeastMate.{first-there, later-there, won-by}

-- by the value
pub has-by : EachHasAtMostOneValue → (o : Outcome) (p : Position) (v : Value) → IsValueOf p v → (has_outcome o v ≡ true) ↔ Has o p
has-by law Win p (values.Win n) h = (λ e. (n, h), λ x. refl)
has-by law Win p (values.Loss n) h = (λ e. absurd (false≢true e), λ x. absurd ((law p).won_not_lost x.0 n x.1 h))
has-by law Win p values.Draw h = (λ e. absurd (false≢true e), λ x. absurd ((law p).won_not_drawn x.0 x.1 h))
has-by law Draw p (values.Win n) h = (λ e. absurd (false≢true e), λ x. absurd ((law p).won_not_drawn n h x))
has-by law Draw p (values.Loss n) h = (λ e. absurd (false≢true e), λ x. absurd ((law p).lost_not_drawn n h x))
has-by law Draw p values.Draw h = (λ e. h, λ x. refl)

pub holds-by : EachHasAtMostOneValue → (o : Outcome) (q : Position) (v : Value) → IsValueOf q v → (keeps_outcome o v ≡ true) ↔ Holds o q
holds-by law Win q (values.Win n) h = (λ e. absurd (false≢true e), λ x. absurd ((law q).won_not_lost n x.0 h x.1))
holds-by law Win q (values.Loss n) h = (λ e. (n, h), λ x. refl)
holds-by law Win q values.Draw h = (λ e. absurd (false≢true e), λ x. absurd ((law q).lost_not_drawn x.0 x.1 h))
holds-by law Draw q (values.Win n) h = (λ e. absurd (false≢true e), λ x. absurd (x n h))
holds-by law Draw q (values.Loss n) h = (λ e k w. (law q).won_not_lost k n w h, λ x. refl)
holds-by law Draw q values.Draw h = (λ e k w. (law q).won_not_drawn k w h, λ x. refl)

-- these are the legal moves
abbrev pub AreLegal : Position → List Move → Type 0
AreLegal q ms = (m : Move) → Contains ms m ↔ (is_legal q m ≡ true)

pub some-at : (P : Position → Type 0) (q : Position) (ms : List Move) (m : Move) (k : ℕ) → k < length ms → slice_index_or ms k m ≡ m
    → P (after q m) → SomeLeads P q ms
some-at P q [] m k l e h = absurd (omega (arith, l))
some-at P q (n ∷ ms) m zero l e h = inl (subst (λ (x : Move). P (after q x)) (sym e) h)
some-at P q (n ∷ ms) m (suc k) l e h = inr (some-at P q ms m k (let z : k < length ms = omega (arith, l) in z) e h)

pub some-to : (P : Position → Type 0) (q : Position) (ms : List Move) → SomeLeads P q ms → (m : Move) × Contains ms m × P (after q m)
some-to P q [] h = absurd h
some-to P q (m ∷ ms) (inl h) = (m, first-there m ms, h)
some-to P q (m ∷ ms) (inr h) =
    let x = some-to P q ms h in
    (x.0, later-there m ms x.0 x.1, x.2)

if-ok : {T E : Type 0} (P Q : T → Type 0) (r : Result T E) → ((x : T) → P x → Q x) → IfOk r P → IfOk r Q
if-ok P Q (Ok x) f h = f x h
if-ok P Q (Err e) f h = tt

pub some-later : {E : Type 0} (P : Position → Type 0) (q : Position) (m : Move) (ms rest : List Move) (next : Position) (w : Bool) (r : Result Bool E)
    → ms ≡ m ∷ rest → next ≡ after q m → w ≡ false → ((w ≡ true) ↔ P next) → IfOk r (λ b. (b ≡ true) ↔ SomeLeads P q rest)
    → IfOk r (λ b. (b ≡ true) ↔ SomeLeads P q ms)
some-later P q m ms rest next w r e n is h g =
    let none : P (after q m) → ⊥ = λ x. false≢true (sym is ∙ h.1 (subst P (sym n) x)) in
    if-ok (λ b. (b ≡ true) ↔ SomeLeads P q rest) (λ b. (b ≡ true) ↔ SomeLeads P q ms) r
    (λ b k. subst (λ (l : List Move). (b ≡ true) ↔ SomeLeads P q l) (sym e) (
      (λ t. inr (k.0 t)),
      (λ s. elim s [ inl x ↦ absurd (none x) | inr y ↦ k.1 y ]),
    )) g

-- the only one of the list
abbrev Tells : Outcome → Position → List Move → Option Move → Type 0
Tells o p ms only = (m : Move) → (only ≡ Some m) ↔ IsOnlyAmong o p m ms

pub only-later : {E : Type 0} (o : Outcome) (p : Position) (k : Move) (ms rest : List Move) (next : Position) (w : Bool) (r : Result (Option Move) E)
    → ms ≡ k ∷ rest → next ≡ after p k → w ≡ false → ((w ≡ true) ↔ Holds o next) → IfOk r (Tells o p rest) → IfOk r (Tells o p ms)
only-later o p k ms rest next w r e n is h g =
    let none : Holds o (after p k) → ⊥ = λ x. false≢true (sym is ∙ h.1 (subst (Holds o) (sym n) x)) in
    if-ok (Tells o p rest) (Tells o p ms) r
    (λ only t. subst (λ (l : List Move). Tells o p l only) (sym e) (λ m. (
      (λ same. inr (none, (t m).0 same)),
      (λ s. elim s [ inl x ↦ absurd (none x.1) | inr y ↦ (t m).1 y.1 ]),
    ))) g

only-to : (o : Outcome) (p : Position) (m : Move) (ms : List Move) → IsOnlyAmong o p m ms
    → Contains ms m × Holds o (after p m) × ((k : Move) → Contains ms k → Holds o (after p k) → k ≡ m)
only-to o p m [] h = absurd h
only-to o p m (x ∷ xs) (inl h) = (
  subst (λ (y : Move). Contains (x ∷ xs) y) h.0 (first-there x xs),
  subst (λ (y : Move). Holds o (after p y)) h.0 h.1,
  λ k c holds. go k c.0 c.1 c.2 holds,
)
  where
    go : (k : Move) (i : ℕ) → i < length (x ∷ xs) → slice_index_or (x ∷ xs) i k ≡ k → Holds o (after p k) → k ≡ m
    go k zero l e holds = sym e ∙ h.0
    go k (suc i) l e holds = absurd (h.2 (some-at (Holds o) p xs k i (let z : i < length xs = omega (arith, l) in z) e holds))
only-to o p m (x ∷ xs) (inr h) =
    let t = only-to o p m xs h.1 in (
      later-there x xs m t.0,
      t.1,
      λ k c holds. go t.2 k c.0 c.1 c.2 holds,
    )
  where
    go : ((k : Move) → Contains xs k → Holds o (after p k) → k ≡ m)
        → (k : Move) (i : ℕ) → i < length (x ∷ xs) → slice_index_or (x ∷ xs) i k ≡ k → Holds o (after p k) → k ≡ m
    go alone k zero l e holds = absurd (h.0 (subst (λ (y : Move). Holds o (after p y)) (sym e) holds))
    go alone k (suc i) l e holds = alone k (i, (let z : i < length xs = omega (arith, l) in z), e) holds

-- the moves before it are other moves
not-later : (x : Move) (xs : List Move) → AllPairs IsBefore (x ∷ xs) → (m : Move) → Contains xs m → m ≡ x → ⊥
not-later x xs pairs m c e =
    let l = c.1 in
    let one : 0 < suc c.0 = omega arith in
    let two : suc c.0 < length (x ∷ xs) = omega (arith, l) in
    let less : move_place x < move_place m = subst (λ (y : Move). move_place x < move_place y) c.2 (pairs 0 (suc c.0) m one two) in
    let same : move_place m ≡ move_place x = ap move_place e in
    absurd (omega (arith, less, same))

rest-pairs : (x : Move) (xs : List Move) → AllPairs IsBefore (x ∷ xs) → AllPairs IsBefore xs
rest-pairs x xs pairs i j d less long =
    pairs (suc i) (suc j) d (let z : suc i < suc j = omega (arith, less) in z) (let z : suc j < length (x ∷ xs) = omega (arith, long) in z)

only-from : (o : Outcome) (p : Position) (m : Move) (ms : List Move) → AllPairs IsBefore ms → (i : ℕ) → i < length ms → slice_index_or ms i m ≡ m
    → Holds o (after p m) → ((k : Move) → Contains ms k → Holds o (after p k) → k ≡ m) → IsOnlyAmong o p m ms
only-from o p m [] pairs i l e holds alone = absurd (omega (arith, l))
only-from o p m (x ∷ xs) pairs zero l e holds alone =
    inl (
      e,
      subst (λ (y : Move). Holds o (after p y)) (sym e) holds,
      λ s.
          let y = some-to (Holds o) p xs s in
          not-later x xs pairs y.0 y.1 (alone y.0 (later-there x xs y.0 y.1) y.2 ∙ sym e),
    )
only-from o p m (x ∷ xs) pairs (suc i) l e holds alone =
    let less : i < length xs = omega (arith, l) in
    inr (
      (λ h. not-later x xs pairs m (i, less, e) (sym (alone x (first-there x xs) h))),
      only-from o p m xs (rest-pairs x xs pairs) i less e holds (λ k c. alone k (later-there x xs k c)),
    )

pub only-by : {E : Type 0} (o : Outcome) (p : Position) (ms : List Move) (r : Result (Option Move) E) → AreLegal p ms → AllPairs IsBefore ms
    → IfOk r (Tells o p ms) → IfOk r (λ only. (m : Move) → (only ≡ Some m) ↔ IsOnlyMove o p m)
only-by o p ms r legal pairs g =
    if-ok (Tells o p ms) (λ only. (m : Move) → (only ≡ Some m) ↔ IsOnlyMove o p m) r
    (λ only t m. (
      (λ same.
          let x = only-to o p m ms ((t m).0 same) in
          record { legal = (legal m).0 x.0; holds = x.1; alone = λ k l h. x.2 k ((legal k).1 l) h }),
      (λ y.
          let c = (legal m).1 y.legal in
          (t m).1 (only-from o p m ms pairs c.0 c.1 c.2 y.holds (λ k d h. y.alone k ((legal k).0 d) h))),
    )) g

-- more than one in a row, if the position has the outcome by an only move
pub line-by : {E : Type 0} (o : Outcome) (n : ℕ) (p q : Position) (m : Move) (ms : List Move) (r : Result Bool E) → (n ≡ 0 → ⊥) → (n ≡ 1 → ⊥)
    → Has o p → IsOnlyMove o p m → q ≡ after p m → AreLegal q ms → IfOk r (λ b. (b ≡ true) ↔ SomeLeads (HasOnlyMoves o (n - 1)) q ms)
    → IfOk r (λ b. (b ≡ true) ↔ HasOnlyMoves o n p)
line-by o zero p q m ms r some more has only is legal g = absurd (some refl)
line-by o (suc n) p q m ms r some more has only is legal g =
    let one : suc n - 1 ≡ n = omega arith in
    let legal-is : AreLegal (after p m) ms = subst (λ (x : Position). AreLegal x ms) is legal in
    if-ok (λ b. (b ≡ true) ↔ SomeLeads (HasOnlyMoves o (suc n - 1)) q ms) (λ b. (b ≡ true) ↔ HasOnlyMoves o (suc n) p) r
    (λ b k.
    let g2 : (b ≡ true) ↔ SomeLeads (HasOnlyMoves o n) (after p m) ms =
    subst (λ (x : Position). (b ≡ true) ↔ SomeLeads (HasOnlyMoves o n) x ms) is (subst (λ i. (b ≡ true) ↔ SomeLeads (HasOnlyMoves o i) q ms) one k) in (
      (λ e. let x = some-to (HasOnlyMoves o n) (after p m) ms (g2.0 e) in (has, (m, only, inr (x.0, (legal-is x.0).0 x.1, x.2)))),
      (λ a.
          let same : a.1.0 ≡ m = only.alone a.1.0 a.1.1.legal a.1.1.holds in
          back b g2 legal-is a.1.0 same a.1.2),
    )) g
  where
    back : (b : Bool) → ((b ≡ true) ↔ SomeLeads (HasOnlyMoves o n) (after p m) ms) → AreLegal (after p m) ms → (k : Move) → k ≡ m
        → ((n ≡ 0) ⊎ ((r : Move) × (is_legal (after p k) r ≡ true) × HasOnlyMoves o n (after (after p k) r))) → b ≡ true
    back b g2 legal-is k same (inl e) = absurd (more (ap suc e))
    back b g2 legal-is k same (inr y) =
        let z = subst (λ (x : Move). (r : Move) × (is_legal (after p x) r ≡ true) × HasOnlyMoves o n (after (after p x) r)) same y in
        let c = (legal-is z.0).1 z.1 in
        g2.1 (some-at (HasOnlyMoves o n) (after p m) ms z.0 c.0 c.1 c.2 z.2)

none-is-some : (m : Move) → None ≡ Some m → ⊥
none-is-some m e = cc

-- who has an only move to win wins
pub has-of : (o : Outcome) (p : Position) (m : Move) → IsValid p → (o ≡ Draw → Has Draw p) → IsOnlyMove o p m → Has o p
has-of Win p m valid draws only = won-by p m valid only.legal only.holds.0 only.holds.1.0
has-of Draw p m valid draws only = draws refl

pub no-line : (o : Outcome) (n : ℕ) (p : Position) (only : Option Move) → (n ≡ 0 → ⊥) → ((m : Move) → (only ≡ Some m) ↔ IsOnlyMove o p m) → only ≡ None
    → (false ≡ true) ↔ HasOnlyMoves o n p
no-line o zero p only some h e = absurd (some refl)
no-line o (suc n) p only some h e = ((λ f. absurd (false≢true f)), (λ a. absurd (none-is-some a.1.0 (sym e ∙ (h a.1.0).1 a.1.1))))

pub line-of-one : (o : Outcome) (n : ℕ) (p : Position) (m : Move) → n ≡ 1 → Has o p → IsOnlyMove o p m → (true ≡ true) ↔ HasOnlyMoves o n p
line-of-one o n p m e has only = ((λ t. subst (λ k. HasOnlyMoves o k p) (sym e) (has, (m, only, inl refl))), (λ a. refl))

pub line-fewer : (o : Outcome) (n : ℕ) (p : Position) → HasOnlyMoves o (suc n) p → HasOnlyMoves o n p
line-fewer o zero p a = a.0
line-fewer o (suc n) p a = (a.0, (a.1.0, a.1.1, fewer (λ q. line-fewer o n q) a.1.0 a.1.2))
  where
    fewer : ((q : Position) → HasOnlyMoves o (suc n) q → HasOnlyMoves o n q) → (m : Move)
        → ((suc n ≡ 0) ⊎ ((r : Move) × (is_legal (after p m) r ≡ true) × HasOnlyMoves o (suc n) (after (after p m) r)))
        → ((n ≡ 0) ⊎ ((r : Move) × (is_legal (after p m) r ≡ true) × HasOnlyMoves o n (after (after p m) r)))
    fewer less m (inl e) = absurd (omega (arith, e))
    fewer less m (inr y) = inr (y.0, y.1, less (after (after p m) y.0) y.2)

-- the key, whether the position has the outcome or not
pub no-key : (o : Outcome) (p : Position) (b : Bool) → ((b ≡ true) ↔ Has o p) → b ≡ false → (m : Move) → (None ≡ Some m) ↔ IsKey o p m
no-key o p b h e m = ((λ x. absurd (none-is-some m x)), (λ k. absurd (false≢true (sym e ∙ h.1 k.0))))

pub key-by : {E : Type 0} (o : Outcome) (p : Position) (r : Result (Option Move) E) → Has o p
    → IfOk r (λ only. (m : Move) → (only ≡ Some m) ↔ IsOnlyMove o p m) → IfOk r (λ only. (m : Move) → (only ≡ Some m) ↔ IsKey o p m)
key-by o p (Ok only) has h = λ m. ((λ x. (has, (h m).0 x)), (λ k. (h m).1 k.1))
key-by o p (Err e) has h = tt

-- The first best of some moves, in terms of all of them.
use Rattle.std.proofs.Common.{◌≡◌, ℕ, ◌<◌, ◌≤◌, Bool, true, false, List, [], ◌∷◌, Option, Some, None}
use Rattle.std.proofs.Common.{length, suc, zero, arith, refl, sym, ap, subst, ◌∙◌, if◌then◌else◌, inl, inr, ◌⊎◌}
use Rattle.std.specs.Prelude.{nat_lt, slice_index_or, IfSome, IfNone}
use Rattle.std.specs.List.{Contains, AllPairs}
use Rattle.std.proofs.lemmas.Bool.{false≢true, ltb-true, ltb-false, le-ltb}
use Rattle.study_board.specs.Position.{Position}
use Rattle.study_moves.specs.declared.moves.Move.{Move}
use Rattle.study_moves.specs.Rules.{after}
use Rattle.study_moves.specs.Order.{IsBefore, move_place}
use Rattle.study_moves.specs.Laws.{EachHasAtMostOneValue}
use Rattle.study_values.specs.declared.value.Value.{Value}
use Rattle.study_values.specs.declared.value.Value.TheVariants.{Win, Loss, Draw}
use Rattle.study_values.specs.Game.{IsValueOf}
use Rattle.study_marks.specs.Annotated.{AreValuesAfter}
use Rattle.study_marks.proofs.OneAnnotation.{one-value}
use Rattle.study_facts.specs.declared.continuation.EvaluatedMove.{EvaluatedMove}
use Rattle.study_facts.specs.Continuations.{wanted_moves}
use Rattle.study_facts.specs.Best.{is_better, better_of, first_best, IsFirstBestMove}
use Rattle.study_facts.proofs.BackSteps.{AreLegal}
use Rattle.study_facts.proofs.BestSteps.{IsBestOf}
use Rattle.study_moves.specs.Game.{HasNoMove}

not-less : (a : ℕ) → nat_lt a a ≡ false
not-less a = le-ltb a a (let z : a ≤ a = omega arith in z)

not-better : (v : Value) → is_better v v ≡ false
not-better (Loss n) = not-less n
not-better Draw = refl
not-better (Win n) = not-less n

one-way : (v w : Value) → is_better v w ≡ true → is_better w v ≡ false
one-way (Loss n) (Loss k) e = le-ltb k n (let l = ltb-true n k e in let z : n ≤ k = omega (arith, l) in z)
one-way (Loss n) Draw e = refl
one-way (Loss n) (Win k) e = refl
one-way Draw (Loss k) e = absurd (false≢true e)
one-way Draw Draw e = absurd (false≢true e)
one-way Draw (Win k) e = refl
one-way (Win n) (Loss k) e = absurd (false≢true e)
one-way (Win n) Draw e = absurd (false≢true e)
one-way (Win n) (Win k) e = le-ltb n k (let l = ltb-true k n e in let z : k ≤ n = omega (arith, l) in z)

still-not : (a b c : ℕ) → nat_lt a b ≡ false → nat_lt b c ≡ false → nat_lt a c ≡ false
still-not a b c e f =
    let x = ltb-false a b e in
    let y = ltb-false b c f in
    le-ltb a c (let z : c ≤ a = omega (arith, x, y) in z)

as-good : (u v w : Value) → is_better u v ≡ false → is_better v w ≡ false → is_better u w ≡ false
as-good (Loss n) (Loss k) (Loss j) e f = still-not n k j e f
as-good (Loss n) (Loss k) Draw e f = absurd (false≢true (sym f))
as-good (Loss n) (Loss k) (Win j) e f = absurd (false≢true (sym f))
as-good (Loss n) Draw w e f = absurd (false≢true (sym e))
as-good (Loss n) (Win k) w e f = absurd (false≢true (sym e))
as-good Draw v (Loss j) e f = refl
as-good Draw v Draw e f = refl
as-good Draw (Loss k) (Win j) e f = absurd (false≢true (sym f))
as-good Draw Draw (Win j) e f = absurd (false≢true (sym f))
as-good Draw (Win k) (Win j) e f = absurd (false≢true (sym e))
as-good (Win n) v (Loss j) e f = refl
as-good (Win n) v Draw e f = refl
as-good (Win n) (Loss k) (Win j) e f = absurd (false≢true (sym f))
as-good (Win n) Draw (Win j) e f = absurd (false≢true (sym f))
as-good (Win n) (Win k) (Win j) e f = still-not j k n f e

-- the first best of these moves
pub record IsFirstIn (p : Position) (ms : List Move) (x : EvaluatedMove) : Type 0 where
  pub there : Contains ms x.played
  pub value : IsValueOf (after p x.played) x.value
  pub best : (m : Move) (v : Value) → Contains ms m → IsValueOf (after p m) v → is_better v x.value ≡ false
  pub first : (m : Move) (v : Value) → Contains ms m → IsValueOf (after p m) v → IsBefore m x.played → is_better x.value v ≡ true

-- a move of the list is the first, or comes after it
abbrev in-rest : Move → List Move → Move → Type 0
in-rest m ms n = (m ≡ n) ⊎ Contains ms n

split : (m : Move) (ms : List Move) (n : Move) (k : ℕ) → k < length (m ∷ ms) → slice_index_or (m ∷ ms) k n ≡ n → in-rest m ms n
split m ms n zero l e = inl e
split m ms n (suc k) l e = inr (k, (let z : k < length ms = omega (arith, l) in z), e)

behind : (m : Move) (ms : List Move) → AllPairs IsBefore (m ∷ ms) → (n : Move) → Contains ms n → move_place m < move_place n
behind m ms o n c =
    subst (λ (x : Move). move_place m < move_place x) c.2
    (o 0 (suc c.0) n (let z : 0 < suc c.0 = omega arith in z) (let z : suc c.0 < length (m ∷ ms) = omega (arith, c.1) in z))

rest-ordered : (m : Move) (ms : List Move) → AllPairs IsBefore (m ∷ ms) → AllPairs IsBefore ms
rest-ordered m ms o i j d l k =
    o (suc i) (suc j) d (let z : suc i < suc j = omega (arith, l) in z) (let z : suc j < length (m ∷ ms) = omega (arith, k) in z)

here : (m : Move) (ms : List Move) → Contains (m ∷ ms) m
here m ms = (0, (let z : 0 < length (m ∷ ms) = omega arith in z), refl)

later-in : (m : Move) (ms : List Move) (n : Move) → Contains ms n → Contains (m ∷ ms) n
later-in m ms n c = (suc c.0, (let z : suc c.0 < length (m ∷ ms) = omega (arith, c.1) in z), c.2)

-- the later one is better than the first
go-on : EachHasAtMostOneValue → (p : Position) (m : Move) (ms : List Move) (v : Value) (y : EvaluatedMove) → IsValueOf (after p m) v
    → IsFirstIn p ms y → is_better y.value v ≡ true → IsFirstIn p (m ∷ ms) y
go-on law p m ms v y g h b = record {
  there = later-in m ms y.played h.there;
  value = h.value;
  best = λ n w c k. elim (split m ms n c.0 c.1 c.2) [
    | inl e ↦ subst (λ u. is_better u y.value ≡ false) (one-value law (after p m) v w g (subst (λ (z : Move). IsValueOf (after p z) w) (sym e) k))
        (one-way y.value v b)
    | inr d ↦ h.best n w d k
  ];
  first = λ n w c k l. elim (split m ms n c.0 c.1 c.2) [
    | inl e ↦ subst (λ u. is_better y.value u ≡ true) (one-value law (after p m) v w g (subst (λ (z : Move). IsValueOf (after p z) w) (sym e) k)) b
    | inr d ↦ h.first n w d k l
  ];
}

-- the first one stays
stays : EachHasAtMostOneValue → (p : Position) (m : Move) (ms : List Move) (v : Value) → AllPairs IsBefore (m ∷ ms) → IsValueOf (after p m) v
    → ((n : Move) (w : Value) → Contains ms n → IsValueOf (after p n) w → is_better w v ≡ false)
    → IsFirstIn p (m ∷ ms) (record { played = m; value = v })
stays law p m ms v o g h = record {
  there = here m ms;
  value = g;
  best = λ n w c k. elim (split m ms n c.0 c.1 c.2) [
    | inl e ↦ subst (λ u. is_better u v ≡ false) (one-value law (after p m) v w g (subst (λ (z : Move). IsValueOf (after p z) w) (sym e) k)) (not-better v)
    | inr d ↦ h n w d k
  ];
  first = λ n w c k l. elim (split m ms n c.0 c.1 c.2) [
    | inl e ↦ absurd (let one : move_place n ≡ move_place m = ap move_place (sym e) in omega (arith, l, one))
    | inr d ↦ absurd (let one = behind m ms o n d in omega (arith, l, one))
  ];
}

abbrev Found : Position → List Move → Option EvaluatedMove → Type 0
Found p ms None = ms ≡ []
Found p ms (Some x) = IsFirstIn p ms x

none-in : (n : Move) (ms : List Move) → ms ≡ [] → Contains ms n → ⊥
none-in n ms e c = let l : length ms ≡ 0 = ap length e in omega (arith, l, c.1)

found-more : EachHasAtMostOneValue → (p : Position) (m : Move) (ms : List Move) (v : Value) (later : Option EvaluatedMove)
    → AllPairs IsBefore (m ∷ ms) → IsValueOf (after p m) v → Found p ms later
    → IsFirstIn p (m ∷ ms) (better_of (record { played = m; value = v }) later)
found-more law p m ms v None o g h = stays law p m ms v o g (λ n w c k. absurd (none-in n ms h c))
found-more law p m ms v (Some y) o g h = go (is_better y.value v) refl
  where
    go : (b : Bool) → is_better y.value v ≡ b → IsFirstIn p (m ∷ ms) (if b then y else record { played = m; value = v })
    go true e = go-on law p m ms v y g h e
    go false e = stays law p m ms v o g (λ n w c k. as-good w y.value v (h.best n w c k) e)

pub found : EachHasAtMostOneValue → (p : Position) (ms : List Move) (all : List Value) → AllPairs IsBefore ms → AreValuesAfter p ms all
    → Found p ms (first_best (wanted_moves (λ v. true) ms all))
found law p [] all o h = refl
found law p (m ∷ ms) [] o h = absurd h
found law p (m ∷ ms) (v ∷ vs) o h = found-more law p m ms v (first_best (wanted_moves (λ w. true) ms vs)) o h.0 (found law p ms vs (rest-ordered m ms o) h.1)

found-of : EachHasAtMostOneValue → (p : Position) (ms : List Move) (best : Option EvaluatedMove) → AllPairs IsBefore ms → IsBestOf p ms best → Found p ms best
found-of law p ms best o h =
    subst (λ (b : Option EvaluatedMove). Found p ms b) (sym (h.2 ∙ ap first_best h.1.2)) (found law p ms h.1.0 o h.1.1)

pub is-first-best : EachHasAtMostOneValue → (p : Position) (ms : List Move) (best : Option EvaluatedMove) → AreLegal p ms → AllPairs IsBefore ms
    → IsBestOf p ms best → IfSome best (IsFirstBestMove p)
is-first-best law p ms None legal o h = tt
is-first-best law p ms (Some x) legal o h =
    let f : IsFirstIn p ms x = found-of law p ms (Some x) o h in
    record {
      legal = (legal x.played).0 f.there;
      value = f.value;
      best = λ m v l k. f.best m v ((legal m).1 l) k;
      first = λ m v l k b. f.first m v ((legal m).1 l) k b;
    }

pub has-none : EachHasAtMostOneValue → (p : Position) (ms : List Move) (best : Option EvaluatedMove) → AreLegal p ms → AllPairs IsBefore ms
    → IsBestOf p ms best → IfNone best (HasNoMove p)
has-none law p ms None legal o h = λ m l. none-in m ms (found-of law p ms None o h) ((legal m).1 l)
has-none law p ms (Some x) legal o h = tt

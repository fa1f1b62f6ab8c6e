-- If a position does not hold, some reply keeps it so.
use Rattle.std.proofs.Common.{◌≡◌, ℕ, ◌+◌, ◌-◌, ◌≤◌, ◌<◌, Bool, true, false, not, List, [], ◌∷◌, length, zero, suc, arith, refl, sym, ap, subst, ◌∙◌, inr}
use Rattle.std.specs.Prelude.{nat_le, is_some, if◌then◌else◌, slice_index_or, ◌↔◌, ◌%◌, ◌==◌}
use Rattle.std.specs.List.{Contains}
use Rattle.std.proofs.lemmas.Bool.{false≢true, leb-true, leb-false}
use Rattle.study_board.specs.Position.{Position, IsValid}
use Rattle.study_moves.specs.declared.moves.Move.{Move}
use Rattle.study_moves.specs.Rules.{after}
use Rattle.study_moves.specs.Game.{IsLegal, MatesWithin, IsMatedWithin, IsWon}
use Rattle.study_moves.specs.Laws.{EachForcesMateSoundly}
use Rattle.study_moves.specs.LegalList.{legal_list}
use Rattle.study_values.specs.declared.value.Value.{Value}
use Rattle.study_values.specs.declared.value.Value.TheVariants as values
use Rattle.study_values.specs.Game.{IsValueOf}
use Rattle.study_marks.specs.declared.stipulation.Goal.{Goal}
use Rattle.study_marks.specs.declared.stipulation.Goal.TheVariants.{Win, Draw, MateIn}
use Rattle.study_marks.specs.Goals.{hero_moves, hero_mates, hero_loses, keeps_goal, plies_of, mates_by, holds}
use Rattle.study_marks.specs.Annotated.{AreValuesAfter}
use Rattle.study_facts.specs.Continuations.{wanted_moves}
use Rattle.study_review.specs.Laws.{FailuresAreRefuted}

-- the value after each of these moves is one of those
abbrev EachHas : (Value → Type 0) → Position → List Move → Type 0
EachHas P q [] = Unit {0}
EachHas P q (m ∷ ms) = ((w : Value) × IsValueOf (after q m) w × P w) × EachHas P q ms

-- none was selected, so none is wanted
none-wanted : (f : Value → Bool) (m : Move) (ms : List Move) (v : Value) (vs : List Value) → wanted_moves (λ u. not (f u)) (m ∷ ms) (v ∷ vs) ≡ []
    → (f v ≡ true) × (wanted_moves (λ u. not (f u)) ms vs ≡ [])
none-wanted f m ms v vs e = go (f v) refl
  where
    go : (b : Bool) → f v ≡ b → (f v ≡ true) × (wanted_moves (λ u. not (f u)) ms vs ≡ [])
    go true h = (h, (let k : wanted_moves (λ u. not (f u)) (m ∷ ms) (v ∷ vs) ≡ wanted_moves (λ u. not (f u)) ms vs = rw h refl in sym k ∙ e))
    go false h =
        let k : wanted_moves (λ u. not (f u)) (m ∷ ms) (v ∷ vs) ≡ record { played = m; value = v } ∷ wanted_moves (λ u. not (f u)) ms vs = rw h refl in
        let n : length (record { played = m; value = v } ∷ wanted_moves (λ u. not (f u)) ms vs) ≡ 0 = ap length (sym k ∙ e) in absurd (omega (arith, n))

each-has : (f : Value → Bool) (q : Position) (ms : List Move) (all : List Value) → AreValuesAfter q ms all
    → wanted_moves (λ u. not (f u)) ms all ≡ [] → EachHas (λ w. f w ≡ true) q ms
each-has f q [] [] h e = tt
each-has f q [] (v ∷ vs) h e = absurd h
each-has f q (m ∷ ms) [] h e = absurd h
each-has f q (m ∷ ms) (v ∷ vs) h e = let x = none-wanted f m ms v vs e in ((v, h.0, x.0), each-has f q ms vs h.1 x.1)

at-place : (P : Value → Type 0) (q : Position) (ms : List Move) → EachHas P q ms → (m : Move) (k : ℕ) → k < length ms
    → slice_index_or ms k m ≡ m → (w : Value) × IsValueOf (after q m) w × P w
at-place P q [] h m k l e = absurd (omega (arith, l))
at-place P q (n ∷ ms) h m zero l e = subst (λ (x : Move). (w : Value) × IsValueOf (after q x) w × P w) e h.0
at-place P q (n ∷ ms) h m (suc k) l e = at-place P q ms h.1 m k (let z : k < length ms = omega (arith, l) in z) e

-- ---- the positions that hold if the hero is to move

abbrev Won : Position → Value → Type 0
Won q w = (n : ℕ) × (w ≡ values.Win n)

win-of : (w : Value) → is_some (hero_mates true w) ≡ true → (n : ℕ) × (w ≡ values.Win n)
win-of (values.Win n) e = (n, refl)
win-of (values.Loss n) e = absurd (false≢true e)
win-of values.Draw e = absurd (false≢true e)

win-by : (limit d : ℕ) (w : Value) → mates_by limit d (hero_mates true w) ≡ true → (n : ℕ) × (w ≡ values.Win n) × (d + n ≤ limit)
win-by limit d (values.Win n) e = (n, refl, leb-true (d + n) limit e)
win-by limit d (values.Loss n) e = absurd (false≢true e)
win-by limit d values.Draw e = absurd (false≢true e)

module _ (sound : EachForcesMateSoundly) (q : Position) where
  -- all are mates within one number of plies
  bounded : (ms : List Move) → EachHas (λ w. is_some (hero_mates true w) ≡ true) q ms
      → (n : ℕ) × ((m : Move) (k : ℕ) → k < length ms → slice_index_or ms k m ≡ m → MatesWithin n (after q m))
  bounded [] h = (0, λ m k l e. absurd (omega (arith, l)))
  bounded (x ∷ ms) h =
      let one = win-of h.0.0 h.0.2 in
      let won : IsWon (after q x) one.0 = subst (λ (w : Value). IsValueOf (after q x) w) one.1 h.0.1 in
      let rest = bounded ms h.1 in
      (one.0 + rest.0, λ m k. cases one.0 rest.0 x ms won.0 rest.1 m k)
    where
      cases : (n r : ℕ) (x : Move) (ms : List Move) → MatesWithin n (after q x)
          → ((m : Move) (k : ℕ) → k < length ms → slice_index_or ms k m ≡ m → MatesWithin r (after q m))
          → (m : Move) (k : ℕ) → k < length (x ∷ ms) → slice_index_or (x ∷ ms) k m ≡ m → MatesWithin (n + r) (after q m)
      cases n r x ms w h m zero l e =
          subst (λ (y : Move). MatesWithin (n + r) (after q y)) e
          ((sound (after q x)).mates_later n (n + r) (let z : n ≤ n + r = omega arith in z) w)
      cases n r x ms w h m (suc k) l e =
          (sound (after q m)).mates_later r (n + r) (let z : r ≤ n + r = omega arith in z)
          (h m k (let z : k < length ms = omega (arith, l) in z) e)

  -- a position that is lost within some plies is neither won nor drawn
  not-mated : (v : Value) (n : ℕ) → IsValueOf q v → IsMatedWithin n q → (k : ℕ) × (v ≡ values.Loss k) × (k ≤ n)
  not-mated (values.Win k) n h m = absurd ((sound q).one_side k n h.0 m)
  not-mated values.Draw n h m = absurd ((h n).1 m)
  not-mated (values.Loss k) n h m = (k, refl, least k n h.1 m)
    where
      least : (k n : ℕ) → ((j : ℕ) → j < k → ¬ (IsMatedWithin j q)) → IsMatedWithin n q → k ≤ n
      least k n h m = go (nat_le k n) refl
        where
          go : (b : Bool) → nat_le k n ≡ b → k ≤ n
          go true e = leb-true k n e
          go false e = absurd (h n (leb-false k n e) m)

module _ (sound : EachForcesMateSoundly) (q : Position) (legal : (m : Move) → Contains (legal_list q) m ↔ IsLegal q m) (some : (m : Move) × IsLegal q m) where
  mated-if : (n : ℕ) → ((m : Move) → IsLegal q m → MatesWithin n (after q m)) → IsMatedWithin (suc n) q
  mated-if n h = inr (some, h)

  refuted-win : (v : Value) → IsValueOf q v → is_some (hero_mates false v) ≡ false
      → EachHas (λ w. is_some (hero_mates true w) ≡ true) q (legal_list q) → ⊥
  refuted-win v game e h =
      let b = bounded sound q (legal_list q) h in
      let m = mated-if b.0 (λ m l. let c = (legal m).1 l in b.1 m c.0 c.1 c.2) in
      let x = not-mated sound q v (suc b.0) game m in
      false≢true (sym e ∙ ap (λ (u : Value). is_some (hero_mates false u)) x.1)

  refuted-draw : (v : Value) → IsValueOf q v → not (hero_loses false v) ≡ false
      → EachHas (λ w. not (hero_loses true w) ≡ true) q (legal_list q) → ⊥
  refuted-draw (values.Loss n) game e h = false≢true (sym e)
  refuted-draw values.Draw game e h = false≢true (sym e)
  refuted-draw (values.Win zero) game e h = game.0
  refuted-draw (values.Win (suc n)) game e h =
      let m = game.0.0 in
      let mated = game.0.2 in
      let c = (legal m).1 game.0.1 in
      let x = at-place (λ w. not (hero_loses true w) ≡ true) q (legal_list q) h m c.0 c.1 c.2 in
      stopped (after q m) x.0 x.1 x.2 n mated
    where
      stopped : (r : Position) (w : Value) → IsValueOf r w → not (hero_loses true w) ≡ true → (n : ℕ) → IsMatedWithin n r → ⊥
      stopped r (values.Win k) g e n m = (sound r).one_side k n g.0 m
      stopped r (values.Loss k) g e n m = false≢true e
      stopped r values.Draw g e n m = (g n).1 m

  refuted-mate : (limit d : ℕ) (v : Value) → IsValueOf q v → mates_by limit d (hero_mates false v) ≡ false
      → EachHas (λ w. mates_by limit (d + 1) (hero_mates true w) ≡ true) q (legal_list q) → ⊥
  refuted-mate limit d v game e h =
      let soon : (m : Move) → IsLegal q m → MatesWithin (limit - (d + 1)) (after q m) × (d + 1 ≤ limit) = λ m l.
      let c = (legal m).1 l in
      let x = at-place (λ w. mates_by limit (d + 1) (hero_mates true w) ≡ true) q (legal_list q) h m c.0 c.1 c.2 in
      let y = win-by limit (d + 1) x.0 x.2 in
      let won : IsWon (after q m) y.0 = subst (λ (w : Value). IsValueOf (after q m) w) y.1 x.1 in
      let near : d + 1 + y.0 ≤ limit = y.2 in (
        (sound (after q m)).mates_later y.0 (limit - (d + 1)) (let z : y.0 ≤ limit - (d + 1) = omega (arith, near) in z) won.0,
        (let z : d + 1 ≤ limit = omega (arith, near) in z),
      ) in
      let mated = mated-if (limit - (d + 1)) (λ m l. (soon m l).0) in
      let x = not-mated sound q v (suc (limit - (d + 1))) game mated in
      let room : d + 1 ≤ limit = (soon some.0 some.1).1 in
      let few : x.0 ≤ suc (limit - (d + 1)) = x.2 in
      let in_time : d + x.0 ≤ limit = omega (arith, room, few) in
      let late : nat_le (d + x.0) limit ≡ false = sym (ap (λ (u : Value). mates_by limit d (hero_mates false u)) x.1) ∙ e in
      let far = leb-false (d + x.0) limit late in omega (arith, in_time, far)

  refuted : (g : Goal) (first : Bool) (d : ℕ) (v : Value) → IsValueOf q v → keeps_goal g first d false v ≡ false
      → EachHas (λ w. keeps_goal g first (d + 1) true w ≡ true) q (legal_list q) → ⊥
  refuted Win first d v game e h = refuted-win v game e h
  refuted Draw first d v game e h = refuted-draw v game e h
  refuted (MateIn k) first d v game e h = refuted-mate (plies_of first k) d v game e h

-- the sides move in turn
next-turn : (first : Bool) (d : ℕ) → (if d % 2 == 0 then first else not first) ≡ false → (if (d + 1) % 2 == 0 then first else not first) ≡ true
next-turn first d e = go (d % 2) refl first e
  where
    go : (r : ℕ) → d % 2 ≡ r → (first : Bool) → (if d % 2 == 0 then first else not first) ≡ false
        → (if (d + 1) % 2 == 0 then first else not first) ≡ true
    go zero h true e = absurd (false≢true (let z : (if d % 2 == 0 then true else false) ≡ true = rw h refl in sym e ∙ z))
    go zero h false e = let n : (d + 1) % 2 ≡ 1 = omega (arith, h) in rw n refl
    go (suc zero) h true e = let n : (d + 1) % 2 ≡ 0 = omega (arith, h) in rw n refl
    go (suc zero) h false e = absurd (false≢true (let z : (if d % 2 == 0 then false else true) ≡ true = rw h refl in sym e ∙ z))
    go (suc (suc r)) h first e = absurd (omega (arith, h))

pub failures-refuted : EachForcesMateSoundly → ((p : Position) (m : Move) → IsValid p → Contains (legal_list p) m ↔ IsLegal p m) → FailuresAreRefuted
failures-refuted sound exact a d q v list valid turn game lost some refs none =
    let next : hero_moves a (d + 1) ≡ true = next-turn a.hero_first d turn in
    let empty : wanted_moves (λ w. not (holds a (d + 1) w)) (legal_list q) refs.0 ≡ [] = sym refs.2 ∙ none in
    let each = each-has (holds a (d + 1)) q (legal_list q) refs.0 refs.1 empty in
    refuted sound q (λ m. exact q m valid) some a.goal a.hero_first d v game
    (ap (λ b. keeps_goal a.goal a.hero_first d b v) (sym turn) ∙ lost)
    (subst (λ b. EachHas (λ w. keeps_goal a.goal a.hero_first (d + 1) b w ≡ true) q (legal_list q)) next each)

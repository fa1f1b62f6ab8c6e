-- A man taken off a list of men and put on another square.
use Rattle.std.proofs.Common.{◌≡◌, ℕ, ◌==◌, nat_lt, Bool, true, false, not, cond, ◌&&◌, ◌||◌, inl, inr, List, [], ◌∷◌, Some, None, refl, sym, ap, ◌∙◌, arith}
use Rattle.std.specs.List.{filter, list_any}
use Rattle.std.proofs.lemmas.Bool.{false≢true, and_parts, and_from, cases_Bool, eqb-true, eq-eqb, ne_eqb, lt-ltb, le-ltb, not_from_false, not_from_true}
use Rattle.study_board.specs.declared.men.Man.{Man}
use Rattle.study_board.specs.Position.{AllAbove, IsAscending, is_occupied, insert_man, man_at}
use Rattle.study_board.proofs.ImagesValid.{list_any-insert_man, man_at-insert_man}
use Rattle.study_moves.specs.Rules.{survives}
use Rattle.study_moves.specs.Unmoves.{set_back, men_before}
use Rattle.study_moves.proofs.MenOfList.{IsAmong, IsAmong-filter, above_among, none_among}
use Rattle.study_moves.proofs.KingSafety.{filter_any}
use Rattle.study_moves.proofs.SafeTargets.{none_passed}
use Rattle.study_board.proofs.Faults.{list_any_same}

filter_all : (q : Man → Bool) (xs : List Man) → ((m : Man) → IsAmong m xs → q m ≡ true) → filter q xs ≡ xs
filter_all q [] h = refl
filter_all q (x ∷ xs) h = rw (h x (inl refl)) (ap (λ ys. x ∷ ys) (filter_all q xs (λ m i. h m (inr i))))

filter_dropped : (q : Man → Bool) (z : Man) (xs : List Man) → q z ≡ false → filter q (insert_man z xs) ≡ filter q xs
filter_dropped q z [] e = rw e refl
filter_dropped q z (x ∷ xs) e =
    elim (nat_lt x.at z.at) as (λ b. filter q (cond b (x ∷ insert_man z xs) (z ∷ x ∷ xs)) ≡ filter q (x ∷ xs)) [
      | true ↦ elim (q x) as (λ b. cond b (x ∷ filter q (insert_man z xs)) (filter q (insert_man z xs)) ≡ cond b (x ∷ filter q xs) (filter q xs)) [
        | true ↦ ap (λ ys. x ∷ ys) (filter_dropped q z xs e)
        | false ↦ filter_dropped q z xs e
      ]
      | false ↦ rw e refl
    ]

placed_below : (z : Man) (xs : List Man) → AllAbove z.at xs → insert_man z xs ≡ z ∷ xs
placed_below z [] h = refl
placed_below z (x ∷ xs) h = rw (le-ltb x.at z.at (omega (arith, h.0))) refl

pub IsAmong-insert_man : (z : Man) (xs : List Man) → IsAmong z (insert_man z xs)
IsAmong-insert_man z [] = inl refl
IsAmong-insert_man z (x ∷ xs) =
    elim (nat_lt x.at z.at) as (λ b. IsAmong z (cond b (x ∷ insert_man z xs) (z ∷ x ∷ xs))) [ true ↦ inr (IsAmong-insert_man z xs) | false ↦ inl refl ]

-- the only man that a filter takes off, put back
put_back : (q : Man → Bool) (man : Man) (xs : List Man) → IsAscending xs → IsAmong man xs → q man ≡ false
    → ((m : Man) → IsAmong m xs → (m.at ≡ man.at → ⊥) → q m ≡ true) → insert_man man (filter q xs) ≡ xs
put_back q man [] h i e k = absurd i
put_back q man (x ∷ xs) h (inl s) e k =
    let out : q x ≡ false = ap q s ∙ e in
    let above : (m : Man) → IsAmong m xs → q m ≡ true =
    λ m j. k m (inr j) (λ t. let l = above_among x.at xs m h.0 j in
    let a = ap (λ y. y.at) s in absurd (omega arith)) in
    let all = filter_all q xs above in
    let low : AllAbove man.at xs = rw (← s) h.0 in
    rw (out, all) (placed_below man xs low ∙ ap (λ y. y ∷ xs) (sym s))
put_back q man (x ∷ xs) h (inr i) e k =
    let l = above_among x.at xs man h.0 i in
    let keep : q x ≡ true = k x (inl refl) (λ t. absurd (omega arith)) in
    let low = lt-ltb x.at man.at l in
    rw (keep, low) (ap (λ ys. x ∷ ys) (put_back q man xs h.1 i e (λ m j t. k m (inr j) t)))

and_true : (b : Bool) → (b && true) ≡ b
and_true true = refl
and_true false = refl

-- the men that stay, if no man is captured in passing
pub stays_plain : (man : Man) (a : ℕ) (m : Man) → survives None man a m ≡ (not (m.at == man.at) && not (m.at == a))
unfolding survives
stays_plain man a m = rw (none_passed None man a refl) (and_true (not (m.at == man.at) && not (m.at == a)))

pub stays-from : (man : Man) (a : ℕ) (m : Man) → (m.at ≡ man.at → ⊥) → (m.at ≡ a → ⊥) → survives None man a m ≡ true
stays-from man a m h k = stays_plain man a m ∙ and_from _ _ (not_from_false _ (ne_eqb _ _ h)) (not_from_false _ (ne_eqb _ _ k))

pub record IsElsewhere (man : Man) (a : ℕ) (m : Man) : Type 0 where
  pub square : m.at ≡ man.at → ⊥
  pub origin : m.at ≡ a → ⊥

pub elsewhere : (man : Man) (a : ℕ) (m : Man) → survives None man a m ≡ true → IsElsewhere man a m
elsewhere man a m e =
    let p = and_parts (not (m.at == man.at)) (not (m.at == a)) (sym (stays_plain man a m) ∙ e) in
    record {
      square = λ t. false≢true (sym (not_from_true _ (eq-eqb _ _ t)) ∙ p.0);
      origin = λ t. false≢true (sym (not_from_true _ (eq-eqb _ _ t)) ∙ p.1);
    }

-- a man of the list, and an empty square
pub record CanBeMoved (men : List Man) (man : Man) (a : ℕ) : Type 0 where
  pub ordered : IsAscending men
  pub among : IsAmong man men
  pub free : is_occupied men a ≡ false

module _ (men : List Man) (man : Man) (a : ℕ) (h : CanBeMoved men man a) where
  abbrev pub others : List Man
  others = filter (survives None man a) men

  pub no_man_on_origin : (m : Man) → IsAmong m men → m.at ≡ a → ⊥
  unfolding is_occupied
  no_man_on_origin m i t = false≢true (sym (none_among (λ y. y.at == a) men m h.free i) ∙ eq-eqb _ _ t)

  pub apart_from_origin : man.at ≡ a → ⊥
  apart_from_origin t = no_man_on_origin man h.among t

  pub mover_leaves : survives None man a man ≡ false
  mover_leaves = stays_plain man a man ∙ rw (eq-eqb man.at man.at refl) refl

  -- the man put back among the others
  pub others_and_man : insert_man man others ≡ men
  others_and_man = put_back (survives None man a) man men h.ordered h.among mover_leaves (λ m i t. stays-from man a m t (no_man_on_origin m i))

  -- taken back, and played again
  pub back_and_forth : men_before (men_before men man a) (set_back man a) man.at ≡ men
  unfolding men_before
  back_and_forth =
      let q = survives None (set_back man a) man.at in
      let gone : q (set_back man a) ≡ false = stays_plain (set_back man a) man.at (set_back man a) ∙ rw (eq-eqb a a refl) refl in
      let all = filter_all q others (λ m i.
      let r = IsAmong-filter (survives None man a) men m i in
      let e = elsewhere man a m r.1 in
      stays-from (set_back man a) man.at m e.origin e.square) in
      rw (filter_dropped q (set_back man a) others gone, all) others_and_man

  -- the squares that are occupied then
  pub occupied_before : (x : ℕ) → is_occupied (men_before men man a) x ≡ ((a == x) || ((not (x == man.at) && not (x == a)) && is_occupied men x))
  unfolding is_occupied men_before
  occupied_before x =
      list_any-insert_man (λ m. m.at == x) (set_back man a) others
      ∙ ap (λ (b : Bool). (a == x) || b)
      (filter_any (λ m. m.at == x) (survives None man a) men
      ∙ list_any_same (λ m. survives None man a m && (m.at == x)) (λ m. (not (x == man.at) && not (x == a)) && (m.at == x)) same men
      ∙ drawn_out (not (x == man.at) && not (x == a)) men)
    where
      same : (m : Man) → (survives None man a m && (m.at == x)) ≡ ((not (x == man.at) && not (x == a)) && (m.at == x))
      same m = elim (cases_Bool (m.at == x)) [
        | inl e ↦ let t = eqb-true m.at x e in rw (stays_plain man a m, t) refl
        | inr e ↦ rw e (off (survives None man a m) (not (x == man.at) && not (x == a)))
      ]
        where
          off : (b c : Bool) → (b && false) ≡ (c && false)
          off true true = refl
          off true false = refl
          off false true = refl
          off false false = refl

      drawn_out : (c : Bool) (xs : List Man) → list_any (λ m. c && (m.at == x)) xs ≡ (c && list_any (λ m. m.at == x) xs)
      drawn_out true xs = refl
      drawn_out false [] = refl
      drawn_out false (y ∷ ys) = drawn_out false ys

  pub target_is_empty : is_occupied (men_before men man a) man.at ≡ false
  target_is_empty =
      let n = ne_eqb a man.at (λ t. apart_from_origin (sym t)) in
      occupied_before man.at ∙ rw (n, eq-eqb man.at man.at refl) refl

  -- another empty square stays empty
  pub others_stay : (x : ℕ) → (x ≡ a → ⊥) → (x ≡ man.at → ⊥) → is_occupied (men_before men man a) x ≡ is_occupied men x
  others_stay x u v = occupied_before x ∙ rw (ne_eqb a x (λ t. u (sym t)), ne_eqb x man.at v, ne_eqb x a u) refl

  pub man_at_origin : man_at (men_before men man a) a ≡ Some (set_back man a)
  unfolding men_before
  man_at_origin = man_at-insert_man (set_back man a) others a ∙ rw (eq-eqb a a refl) refl

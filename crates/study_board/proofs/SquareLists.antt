-- The squares of a set as a list, taken one by one.
use Rattle.std.proofs.Common.{◌≡◌, ℕ, ◌+◌, ◌<◌, ◌≤◌, ◌==◌, suc, zero, Bool, true, false, not, cond, ◌&&◌, List, [], ◌∷◌, length}
use Rattle.std.proofs.Common.{refl, sym, ◌∙◌, ap, arith, inl, inr}
use Rattle.std.specs.List.{count_by, filter, range_with_len}
use Rattle.std.proofs.lemmas.Bool.{cases_lt, eq-eqb, ne_eqb}
use Rattle.study_board.specs.Sets.{has}
use Rattle.study_board.specs.Squares.{squares_of}
use Rattle.study_board.proofs.Lists.{count_by-cons}
use Rattle.study_board.proofs.SetBits.{has-zero}

kept : (b : Bool) → (b && true) ≡ b
kept true = refl
kept false = refl

abbrev head-or : List ℕ → ℕ
head-or [] = 0
head-or (x ∷ xs) = x

-- tests that agree keep the same numbers
filter-same : (f g : ℕ → Bool) (a n : ℕ) → ((x : ℕ) → a ≤ x → x < a + n → f x ≡ g x) → filter f (range_with_len a n) ≡ filter g (range_with_len a n)
filter-same f g a zero h = refl
filter-same f g a (suc n) h =
    rw (h a (omega arith) (omega arith), filter-same f g (a + 1) n (λ x l r. h x (omega (arith, l)) (omega (arith, r)))) refl

filter-none : (f : ℕ → Bool) (a n : ℕ) → ((x : ℕ) → f x ≡ false) → filter f (range_with_len a n) ≡ []
filter-none f a zero h = refl
filter-none f a (suc n) h = rw (h a) (filter-none f (a + 1) n h)

-- the least number that passes comes first
filter-first : (f g : ℕ → Bool) (x a n : ℕ) → a ≤ x → x < a + n → f x ≡ true → ((y : ℕ) → y < x → f y ≡ false)
    → ((y : ℕ) → y < a + n → g y ≡ (f y && not (x == y))) → filter f (range_with_len a n) ≡ x ∷ filter g (range_with_len a n)
filter-first f g x a zero from inside there least less = absurd (omega (arith, from, inside))
filter-first f g x a (suc n) from inside there least less = elim (cases_lt a x) [
  | inl below ↦
      let gone : g a ≡ false = less a (omega arith) ∙ ap (λ (b : Bool). b && not (x == a)) (least a below) in
      rw (least a below, gone)
      (filter-first f g x (a + 1) n (omega (arith, below)) (omega (arith, inside)) there least (λ y l. less y (omega (arith, l))))
  | inr at ↦
      let same : x ≡ a = omega (arith, from, at) in
      let stays : f a ≡ true = ap f (sym same) ∙ there in
      let gone : g a ≡ false = less a (omega arith) ∙ rw (stays, eq-eqb x a same) refl in
      let after : filter f (range_with_len (a + 1) n) ≡ filter g (range_with_len (a + 1) n) =
      filter-same f g (a + 1) n (λ y l r. sym (less y (omega (arith, r)) ∙ rw (ne_eqb x y (λ e. omega (arith, same, l, e))) (kept (f y)))) in
      rw (stays, gone) (ap (λ (z : ℕ). z ∷ filter f (range_with_len (a + 1) n)) (sym same) ∙ ap (λ (zs : List ℕ). x ∷ zs) after)
]

-- none of the numbers kept is below the range
none-below : (f : ℕ → Bool) (a n k : ℕ) → k < a → count_by (λ y. y == k) (filter f (range_with_len a n)) ≡ 0
none-below f a zero k l = refl
none-below f a (suc n) k l =
    let R = filter f (range_with_len (a + 1) n) in
    let rest : count_by (λ y. y == k) R ≡ 0 = none-below f (a + 1) n k (omega (arith, l)) in
    elim (f a) as (λ b. count_by (λ y. y == k) (cond b (a ∷ R) R) ≡ 0) [
      | true ↦ count_by-cons (λ y. y == k) a R ∙ rw (ne_eqb a k (λ e. omega (arith, l, e)), rest) refl
      | false ↦ rest
    ]

-- a number of the range is kept once if it passes
kept-once : (f : ℕ → Bool) (a n y : ℕ) → a ≤ y → y < a + n → count_by (λ z. z == y) (filter f (range_with_len a n)) ≡ cond (f y) 1 0
kept-once f a zero y l r = absurd (omega (arith, l, r))
kept-once f a (suc n) y l r =
    let R = filter f (range_with_len (a + 1) n) in
    elim (cases_lt a y) [
      | inl below ↦
          let rest : count_by (λ z. z == y) R ≡ cond (f y) 1 0 = kept-once f (a + 1) n y (omega (arith, below)) (omega (arith, r)) in
          elim (f a) as (λ b. count_by (λ z. z == y) (cond b (a ∷ R) R) ≡ cond (f y) 1 0) [
            | true ↦ count_by-cons (λ z. z == y) a R ∙ rw (ne_eqb a y (λ e. omega (arith, below, e)), rest) (omega arith)
            | false ↦ rest
          ]
      | inr at ↦
          let same : a ≡ y = omega (arith, l, at) in
          let none : count_by (λ z. z == y) R ≡ 0 = none-below f (a + 1) n y (omega (arith, same)) in
          let go : (b : Bool) → count_by (λ z. z == y) (cond b (a ∷ R) R) ≡ cond b 1 0 =
          λ b. elim b as (λ v. count_by (λ z. z == y) (cond v (a ∷ R) R) ≡ cond v 1 0) [
            | true ↦ count_by-cons (λ z. z == y) a R ∙ rw (eq-eqb a y same, none) refl
            | false ↦ none
          ] in
          go (f a) ∙ ap (λ (z : ℕ). cond (f z) 1 0) same
    ]

record IsHead (f : ℕ → Bool) (a n x : ℕ) : Type 0 where
  pub from : a ≤ x
  pub inside : x < a + n
  pub there : f x ≡ true
  pub least : (y : ℕ) → a ≤ y → y < x → f y ≡ false

head-is : (f : ℕ → Bool) (a n x : ℕ) (xs : List ℕ) → filter f (range_with_len a n) ≡ x ∷ xs → IsHead f a n x
head-is f a zero x xs e =
    let l : 0 ≡ suc (length xs) = ap (λ (zs : List ℕ). length zs) e in
    absurd (omega (arith, l))
head-is f a (suc n) x xs e =
    let R = filter f (range_with_len (a + 1) n) in
    let go : (b : Bool) → f a ≡ b → cond b (a ∷ R) R ≡ x ∷ xs → IsHead f a (suc n) x =
    λ b. elim b as (λ v. f a ≡ v → cond v (a ∷ R) R ≡ x ∷ xs → IsHead f a (suc n) x) [
      | true ↦ λ k h.
          let same : a ≡ x = ap head-or h in
          record {
            from = omega (arith, same);
            inside = omega (arith, same);
            there = ap f (sym same) ∙ k;
            least = λ y l g. absurd (omega (arith, same, l, g));
          }
      | false ↦ λ k h.
          let later = head-is f (a + 1) n x xs h in
          let low = later.from in
          let high = later.inside in
          record {
            from = omega (arith, low);
            inside = omega (arith, high);
            there = later.there;
            least = λ y l g. elim (cases_lt a y) [
              | inl below ↦ later.least y (omega (arith, below)) g
              | inr at ↦
                  let same : y ≡ a = omega (arith, l, at) in
                  ap f same ∙ k
            ];
          }
    ] in
    go (f a) refl e

-- one more once
one-more : (f e g : Bool) → cond f 1 0 ≡ cond e 1 0 + cond g 1 0 → g ≡ (f && not e)
one-more true true true h = absurd (omega (arith, h))
one-more true true false h = refl
one-more true false true h = refl
one-more true false false h = absurd (omega (arith, h))
one-more false true g h = absurd (omega (arith, h))
one-more false false true h = absurd (omega (arith, h))
one-more false false false h = refl

none-once : (b : Bool) → cond {A = ℕ} b 1 0 ≡ 0 → b ≡ false
none-once true h = absurd (omega (arith, h))
none-once false h = refl

-- x is the first square of the set, and the rest has the others
pub record IsFirstOf (set x rest : ℕ) : Type 0 where
  pub inside : x < 64
  pub there : has set x ≡ true
  pub least : (y : ℕ) → y < x → has set y ≡ false
  pub left : (y : ℕ) → y < 64 → has rest y ≡ (has set y && not (x == y))

pub first-of : (set x rest : ℕ) → squares_of set ≡ x ∷ squares_of rest → IsFirstOf set x rest
unfolding squares_of
first-of set x rest e =
    let h = head-is (has set) 0 64 x (squares_of rest) e in
    record {
      inside = h.inside;
      there = h.there;
      least = λ y l. h.least y (omega arith) l;
      left = λ y on. one-more (has set y) (x == y) (has rest y)
          (sym (kept-once (has set) 0 64 y (omega arith) on)
          ∙ ap (λ (zs : List ℕ). count_by (λ z. z == y) zs) e
          ∙ count_by-cons (λ z. z == y) x (squares_of rest)
          ∙ ap (λ (k : ℕ). cond (x == y) 1 0 + k) (kept-once (has rest) 0 64 y (omega arith) on));
    }

pub none-of-empty : (set : ℕ) → squares_of set ≡ [] → (y : ℕ) → y < 64 → has set y ≡ false
unfolding squares_of
none-of-empty set e y on =
    none-once (has set y) (sym (kept-once (has set) 0 64 y (omega arith) on) ∙ ap (λ (zs : List ℕ). count_by (λ z. z == y) zs) e)

pub squares-first : (set x rest : ℕ) → IsFirstOf set x rest → squares_of set ≡ x ∷ squares_of rest
unfolding squares_of
squares-first set x rest h = filter-first (has set) (has rest) x 0 64 (omega arith) h.inside h.there h.least h.left

pub squares-zero : squares_of 0 ≡ []
unfolding squares_of
squares-zero = filter-none (has 0) 0 64 has-zero

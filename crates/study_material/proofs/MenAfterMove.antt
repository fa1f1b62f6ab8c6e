-- The effect of a move on the men: it takes the mover and at most one more man away, and puts the mover, or the piece that it promotes to, back.
use Rattle.std.proofs.Common.{◌≡◌, ℕ, ◌+◌, ◌*◌, ◌≤◌, ◌==◌, Bool, true, false, cond, not, ◌&&◌, ◌||◌, eqb}
use Rattle.std.proofs.Common.{List, [], ◌∷◌, ◌++◌, length, Option, refl, sym, ◌∙◌, arith, zero-add}
use Rattle.std.specs.List.{filter, count_by, list_any}
use Rattle.std.specs.List.Sorted.{IsPermutation}
use Rattle.std.proofs.lemmas.Bool.Decides.{nat_tests}
use Rattle.std.proofs.lemmas.List.Sorted.{IsPermutation-filter_both}
use Rattle.study_board.specs.declared.men.Man.{Man}
use Rattle.study_board.specs.Geometry.{file_of, rank_of}
use Rattle.study_board.specs.Position.{Position, AllAbove, IsAscending}
use Rattle.study_board.proofs.Lists.{count_by-cons, or_false}
use Rattle.study_board.proofs.MenInOrder.{IsPermutation-insert_man}
use Rattle.study_moves.specs.declared.moves.Move.{Move}
use Rattle.study_moves.specs.Rules.{survives, moved_man, men_after, is_en_passant}

-- a man that the move takes away, the mover included
abbrev pub goes_away : Option ℕ → Man → ℕ → Man → Bool
goes_away passed man x m = not (survives passed man x m)

-- at most one man is on a square
count-above : (n s : ℕ) (xs : List Man) → AllAbove n xs → s ≤ n → count_by (λ y. y.at == s) xs ≡ 0
count-above n s [] h le = refl
count-above n s (x ∷ xs) h le =
    let other : eqb x.at s ≡ false = (let a = h.0 in grind (arith, nat_tests)) in
    count_by-cons (λ y. y.at == s) x xs ∙ rw (other, zero-add) (count-above n s xs h.1 le)

pub count-square : (xs : List Man) → IsAscending xs → (s : ℕ) → count_by (λ y. y.at == s) xs ≤ 1
count-square [] h s = omega arith
count-square (x ∷ xs) h s =
    let c = count_by-cons (λ y. y.at == s) x xs in
    let go : (b : Bool) → eqb x.at s ≡ b → cond b 1 0 + count_by (λ y. y.at == s) xs ≤ 1 =
    λ b. elim b as (λ v. eqb x.at s ≡ v → cond v 1 0 + count_by (λ y. y.at == s) xs ≤ 1) [
      | true ↦ λ e. (let z : s ≤ x.at = grind (arith, nat_tests) in omega (arith, count-above x.at s xs h.0 z))
      | false ↦ λ _. omega (arith, count-square xs h.1 s)
    ]
    in omega (arith, c, go (eqb x.at s) refl)

-- a test that holds if one of two others does
count_by-either : (p q r : Man → Bool) → ((m : Man) → cond (p m) 1 0 ≤ cond (q m) 1 0 + cond (r m) 1 0)
    → (xs : List Man) → count_by p xs ≤ count_by q xs + count_by r xs
count_by-either p q r h [] = omega arith
count_by-either p q r h (x ∷ xs) =
    omega (arith, count_by-cons p x xs, count_by-cons q x xs, count_by-cons r x xs, h x, count_by-either p q r h xs)

count-empty : (xs : List Man) (x : ℕ) → list_any (λ m. m.at == x) xs ≡ false → count_by (λ m. m.at == x) xs ≡ 0
count-empty [] x e = refl
count-empty (y ∷ ys) x e =
    let parts = or_false (y.at == x) (list_any (λ m. m.at == x) ys) e in
    count_by-cons (λ m. m.at == x) y ys ∙ rw (parts.0, zero-add) (count-empty ys x parts.1)

length-filter-count : (p : Man → Bool) (xs : List Man) → length (filter p xs) ≡ count_by p xs
length-filter-count p [] = refl
length-filter-count p (x ∷ xs) =
    let c = count_by-cons p x xs in
    let go : (b : Bool) → p x ≡ b → length (cond b (x ∷ filter p xs) (filter p xs)) ≡ cond b 1 0 + count_by p xs =
    λ b. elim b as (λ v. p x ≡ v → length (cond v (x ∷ filter p xs) (filter p xs)) ≡ cond v 1 0 + count_by p xs)
    [ true ↦ λ _. omega (arith, length-filter-count p xs) | false ↦ λ _. omega (arith, length-filter-count p xs) ]
    in go (p x) refl ∙ sym c

away_cases : (a b e f : Bool) → cond (not (not a && not b && not (e && f))) 1 0 ≤ cond a 1 0 + cond (b || (e && f)) 1 0
away_cases true b e f = omega arith
away_cases false true e f = omega arith
away_cases false false true true = omega arith
away_cases false false true false = omega arith
away_cases false false false f = omega arith

-- the second of the tests below passes at most one man
abbrev taken : Option ℕ → Man → ℕ → Man → Bool
taken passed man x m = (m.at == x) || (is_en_passant passed man x && (m.at == 8 * rank_of man.at + file_of x))

pub count-taken : (passed : Option ℕ) (man : Man) (x : ℕ) (xs : List Man) → IsAscending xs
    → (is_en_passant passed man x ≡ true → list_any (λ m. m.at == x) xs ≡ false)
    → count_by (taken passed man x) xs ≤ 1
count-taken passed man x xs h empty =
    let y : ℕ = 8 * rank_of man.at + file_of x in
    let go : (b : Bool) → is_en_passant passed man x ≡ b → count_by (λ m. (m.at == x) || (b && (m.at == y))) xs ≤ 1 =
    λ b. elim b as (λ v. is_en_passant passed man x ≡ v → count_by (λ m. (m.at == x) || (v && (m.at == y))) xs ≤ 1) [
      | true ↦ λ e.
          let few = count_by-either (λ m. (m.at == x) || (true && (m.at == y))) (λ m. m.at == x) (λ m. m.at == y) (λ m. or_cond (m.at == x) (m.at == y)) xs in
          omega (arith, few, count-empty xs x (empty e), count-square xs h y)
      | false ↦ λ e.
          let few = count_by-either (λ m. (m.at == x) || (false && (m.at == y))) (λ m. m.at == x) (λ m. false) (λ m. or_none (m.at == x)) xs in
          omega (arith, few, count-none xs, count-square xs h x)
    ]
    in go (is_en_passant passed man x) refl
  where
    or_cond : (a b : Bool) → cond (a || b) 1 0 ≤ cond a 1 0 + cond b 1 0
    or_cond true b = omega arith
    or_cond false b = omega arith

    or_none : (a : Bool) → cond (a || false) 1 0 ≤ cond a 1 0 + 0
    or_none true = omega arith
    or_none false = omega arith

    count-none : (xs : List Man) → count_by (λ m. false) xs ≡ 0
    count-none [] = refl
    count-none (x ∷ xs) = count_by-cons (λ m. false) x xs ∙ rw zero-add (count-none xs)

-- the men before a move and after it
pub record IsStep (p : Position) (man : Man) (m : Move) : Type 0 where
  pub before : IsPermutation p.men (filter (survives p.passed man m.target) p.men ++ filter (goes_away p.passed man m.target) p.men)
  pub after : IsPermutation (moved_man man m ∷ filter (survives p.passed man m.target) p.men) (men_after p man m)
  pub few : length (filter (goes_away p.passed man m.target) p.men) ≤ 2

pub IsStep-move : (p : Position) (man : Man) (m : Move) → IsAscending p.men
    → (is_en_passant p.passed man m.target ≡ true → list_any (λ y. y.at == m.target) p.men ≡ false) → IsStep p man m
unfolding men_after survives
IsStep-move p man m h empty = record {
  before = IsPermutation-filter_both (survives p.passed man m.target) (goes_away p.passed man m.target) (λ y. refl) p.men;
  after = IsPermutation-insert_man (moved_man man m) (filter (survives p.passed man m.target) p.men);
  few =
      (let few = count_by-either (goes_away p.passed man m.target) (λ y. y.at == man.at)
      (taken p.passed man m.target)
      (λ y. away_cases (y.at == man.at) (y.at == m.target) (is_en_passant p.passed man m.target)
      (y.at == 8 * rank_of man.at + file_of m.target)) p.men in
      omega (
        arith,
        few,
        length-filter-count (goes_away p.passed man m.target) p.men,
        count-square p.men h man.at,
        count-taken p.passed man m.target p.men h empty,
      ));
}

-- The squares without a man.
use Rattle.std.proofs.Common.{◌≡◌, ℕ, ◌<◌, ◌≤◌, ◌==◌, suc, zero}
use Rattle.std.proofs.Common.{true, false, List, [], ◌∷◌}
use Rattle.std.proofs.Common.{length, get_or, drop, Some, refl, arith}
use Rattle.std.specs.List.{list_any}
use Rattle.std.proofs.lemmas.Bool.Decides.{nat_tests}
use Rattle.study_board.specs.declared.men.Man.{Man}
use Rattle.study_board.specs.Position.{man_at, AllAbove, IsAscending}

unequal : (a b : ℕ) → a < b → (a == b) ≡ false
unequal a b e = grind (arith, nat_tests)

unequal' : (a b : ℕ) → b < a → (a == b) ≡ false
unequal' a b e = grind (arith, nat_tests)

equal_self : (a : ℕ) → (a == a) ≡ true
equal_self a = grind (arith, nat_tests)

-- the square of the first man, or 64
abbrev pub first_at : List Man → ℕ
first_at [] = 64
first_at (x ∷ xs) = x.at

none_above : (n o : ℕ) (xs : List Man) → AllAbove n xs → o ≤ n → list_any (λ y. y.at == o) xs ≡ false
none_above n o [] h le = refl
none_above n o (x ∷ xs) h le = rw (unequal' x.at o (omega (arith, h.0)), none_above n o xs h.1 le)

pub no_man_before : (o : ℕ) (xs : List Man) → IsAscending xs → o < first_at xs → list_any (λ y. y.at == o) xs ≡ false
no_man_before o [] h lt = refl
no_man_before o (x ∷ xs) h lt = rw (unequal' x.at o lt, none_above x.at o xs h.0 (omega arith))

above_at : (n i : ℕ) (d : Man) (xs : List Man) → AllAbove n xs → i < length xs → n < (get_or xs i d).at
above_at n i d [] h lt = absurd (omega arith)
above_at n zero d (x ∷ xs) h lt = h.0
above_at n (suc i) d (x ∷ xs) h lt = above_at n i d xs h.1 (omega arith)

pub no_man_between : (o i : ℕ) (d : Man) (xs : List Man) → IsAscending xs → i < length xs → (get_or xs i d).at < o
    → o < first_at (drop (suc i) xs) → list_any (λ y. y.at == o) xs ≡ false
no_man_between o i d [] h lt low high = refl
no_man_between o zero d (x ∷ xs) h lt low high = rw (unequal x.at o low, no_man_before o xs h.1 high)
no_man_between o (suc i) d (x ∷ xs) h lt low high =
    let l : i < length xs = omega arith in
    rw (unequal x.at o (omega (arith, above_at x.at i d xs h.0 l)), no_man_between o i d xs h.1 l low high)

pub man_at-self : (i : ℕ) (d : Man) (xs : List Man) → IsAscending xs → i < length xs → man_at xs (get_or xs i d).at ≡ Some (get_or xs i d)
man_at-self i d [] h lt = absurd (omega arith)
man_at-self zero d (x ∷ xs) h lt = rw (equal_self x.at)
man_at-self (suc i) d (x ∷ xs) h lt =
    let l : i < length xs = omega arith in
    rw (unequal x.at (get_or xs i d).at (above_at x.at i d xs h.0 l)) (man_at-self i d xs h.1 l)

-- A man carried up through men in order comes to its place.
use Rattle.std.proofs.Common.{◌≡◌, ℕ, ◌+◌, ◌<◌, Bool, true, false, cond, List, [], ◌∷◌, length, refl, ap, nat_lt, if◌then◌else◌, arith}
use Rattle.std.specs.List.{filter}
use Rattle.std.proofs.lemmas.Bool.Decides.{nat_tests}
use Rattle.study_board.specs.declared.men.Man.{Man}
use Rattle.study_board.specs.Position.{AllAbove, IsAscending, insert_man}
use Rattle.study_moves.specs.MenInOrder.{lower_man, higher_man}

-- the men that pass the test, with a man carried through them and left below the first that stands above it, which is then carried on
abbrev pub carried_into : (Man → Bool) → Man → List Man → List Man
carried_into q c [] = c ∷ []
carried_into q c (x ∷ xs) = if q x then lower_man c x ∷ carried_into q (higher_man c x) xs else carried_into q c xs

not_below : (a b : ℕ) → a < b → nat_lt b a ≡ false
not_below a b l = grind (arith, nat_tests)

-- through men that stand above it a man goes unchanged
through : (q : Man → Bool) (c : Man) (xs : List Man) → AllAbove c.at xs → IsAscending xs → carried_into q c xs ≡ c ∷ filter q xs
through q c [] h a = refl
through q c (x ∷ xs) h a =
    elim (q x) as (λ b. cond b (lower_man c x ∷ carried_into q (higher_man c x) xs) (carried_into q c xs) ≡ c ∷ cond b (x ∷ filter q xs) (filter q xs)) [
      | true ↦ rw (not_below c.at x.at h.0) (ap (λ ys. c ∷ ys) (through q x xs a.0 a.1))
      | false ↦ through q c xs h.1 a.1
    ]

pub carried-insert_man : (q : Man → Bool) (z : Man) (xs : List Man) → IsAscending xs → carried_into q z xs ≡ insert_man z (filter q xs)
carried-insert_man q z [] a = refl
carried-insert_man q z (x ∷ xs) a =
    elim (q x) as (λ b. cond b (lower_man z x ∷ carried_into q (higher_man z x) xs) (carried_into q z xs)
    ≡ insert_man z (cond b (x ∷ filter q xs) (filter q xs))) [
      | true ↦ elim (nat_lt x.at z.at) as (λ b. cond b x z ∷ carried_into q (cond b z x) xs ≡ cond b (x ∷ insert_man z (filter q xs)) (z ∷ x ∷ filter q xs)) [
        | true ↦ ap (λ ys. x ∷ ys) (carried-insert_man q z xs a.1)
        | false ↦ ap (λ ys. z ∷ ys) (through q x xs a.0 a.1)
      ]
      | false ↦ carried-insert_man q z xs a.1
    ]

-- one man more than those that pass
pub length-carried : (q : Man → Bool) (c : Man) (xs : List Man) → length (carried_into q c xs) ≡ 1 + length (filter q xs)
length-carried q c [] = refl
length-carried q c (x ∷ xs) =
    elim (q x) as (λ b. length (cond b (lower_man c x ∷ carried_into q (higher_man c x) xs) (carried_into q c xs))
    ≡ 1 + length (cond b (x ∷ filter q xs) (filter q xs))) [
      | true ↦ omega (arith, length-carried q (higher_man c x) xs)
      | false ↦ length-carried q c xs
    ]

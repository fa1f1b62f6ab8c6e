-- The symmetries that bring a square to a listed one.
use Rattle.std.proofs.Common.{◌≡◌, ℕ, ◌<◌, zero, suc, Bool, true, false, not, ◌&&◌, ◌||◌, eqb, Some, refl, sym, arith}
use Rattle.std.specs.Option.{is_some}
use Rattle.std.proofs.lemmas.Bool.{false≢true}
use Rattle.std.proofs.lemmas.Bool.Decides.{nat_tests}
use Rattle.study_board.specs.declared.symmetry.Symmetry.{Symmetry}
use Rattle.study_board.specs.Symmetry.{turned_square, keeps_pawns}
use Rattle.study_values.specs.Number.{place}
use Rattle.study_values.specs.Canonical.{canonical_symmetry}

-- the symmetries that men admit, with a pawn among them or not
abbrev pub admitted : Bool → Symmetry → Bool
admitted pawns t = not pawns || keeps_pawns t

-- a test of all numbers below n
abbrev pub all_below : ℕ → (ℕ → Bool) → Bool
all_below zero p = true
all_below (suc n) p = p n && all_below n p

and_true : (x y : Bool) → (x && y) ≡ true → (x ≡ true) × (y ≡ true)
and_true true y e = (refl, e)
and_true false y e = absurd (false≢true e)

pub at_below : (n : ℕ) (p : ℕ → Bool) → all_below n p ≡ true → (k : ℕ) → k < n → p k ≡ true
at_below zero p h k l = absurd (omega arith)
at_below (suc n) p h k l =
    let parts = and_true (p n) (all_below n p) h in
    let go : (b : Bool) → eqb k n ≡ b → p k ≡ true = λ b. elim b as (λ v. eqb k n ≡ v → p k ≡ true) [
      | true ↦ λ e. (let d : k ≡ n = grind (arith, nat_tests) in rw d parts.0)
      | false ↦ λ e. (let lt : k < n = grind (arith, nat_tests) in at_below n p parts.1 k lt)
    ]
    in go (eqb k n) refl

abbrev pub same_flag : Bool → Bool → Bool
same_flag true b = b
same_flag false b = not b

same_flag-true : (a b : Bool) → same_flag a b ≡ true → a ≡ b
same_flag-true true b e = sym e
same_flag-true false true e = e
same_flag-true false false e = refl

abbrev symmetry : Bool → Bool → Bool → Bool → Symmetry
symmetry a b c d = record { files = a; ranks = b; diagonal = c; colours = d }

abbrev pub same_flags : Symmetry → Symmetry → Bool
same_flags t u = same_flag t.files u.files && (same_flag t.ranks u.ranks && (same_flag t.diagonal u.diagonal && same_flag t.colours u.colours))

joined : (a b c d a' b' c' d' : Bool) → a ≡ a' → b ≡ b' → c ≡ c' → d ≡ d' → symmetry a b c d ≡ symmetry a' b' c' d'
joined a b c d a' b' c' d' e f g h = rw (e, f, g, h) refl

same_flags-true : (t u : Symmetry) → same_flags t u ≡ true → t ≡ u
same_flags-true t u e =
    let a = and_true _ _ e in
    let b = and_true _ _ a.1 in
    let c = and_true _ _ b.1 in
    joined t.files t.ranks t.diagonal t.colours u.files u.ranks u.diagonal u.colours
    (same_flag-true t.files u.files a.0) (same_flag-true t.ranks u.ranks b.0)
    (same_flag-true t.diagonal u.diagonal c.0) (same_flag-true t.colours u.colours c.1)

-- a symmetry that brings a square to a listed one is the chosen one
abbrev pub is_chosen : Bool → Symmetry → ℕ → Bool
is_chosen pawns t s =
    not (admitted pawns t && is_some (place pawns (turned_square t s))) || same_flags t (canonical_symmetry pawns t.diagonal t.colours s)

for_squares : (pawns files ranks diagonal colours : Bool)
    → all_below 64 (is_chosen pawns (record { files = files; ranks = ranks; diagonal = diagonal; colours = colours }))
    ≡ true
unfolding turned_square place canonical_symmetry
for_squares true true true true true = refl
for_squares true true true true false = refl
for_squares true true true false true = refl
for_squares true true true false false = refl
for_squares true true false true true = refl
for_squares true true false true false = refl
for_squares true true false false true = refl
for_squares true true false false false = refl
for_squares true false true true true = refl
for_squares true false true true false = refl
for_squares true false true false true = refl
for_squares true false true false false = refl
for_squares true false false true true = refl
for_squares true false false true false = refl
for_squares true false false false true = refl
for_squares true false false false false = refl
for_squares false true true true true = refl
for_squares false true true true false = refl
for_squares false true true false true = refl
for_squares false true true false false = refl
for_squares false true false true true = refl
for_squares false true false true false = refl
for_squares false true false false true = refl
for_squares false true false false false = refl
for_squares false false true true true = refl
for_squares false false true true false = refl
for_squares false false true false true = refl
for_squares false false true false false = refl
for_squares false false false true true = refl
for_squares false false false true false = refl
for_squares false false false false true = refl
for_squares false false false false false = refl

pub chosen-only : (pawns : Bool) (t : Symmetry) (s q : ℕ) → s < 64 → admitted pawns t ≡ true
    → place pawns (turned_square t s) ≡ Some q → t ≡ canonical_symmetry pawns t.diagonal t.colours s
chosen-only pawns t s q l a e =
    let h : is_chosen pawns t s ≡ true = at_below 64 (is_chosen pawns t) (for_squares pawns t.files t.ranks t.diagonal t.colours) s l in
    let i : same_flags t (canonical_symmetry pawns t.diagonal t.colours s) ≡ true = rw (a, e) at h in
    same_flags-true t (canonical_symmetry pawns t.diagonal t.colours s) i

-- some symmetry brings a square to a listed one
abbrev pub some_is_listed : Bool → Bool → ℕ → Bool
some_is_listed pawns c s =
    is_some (place pawns (turned_square (canonical_symmetry pawns false c s) s)) || (not pawns
    && is_some (place pawns (turned_square (canonical_symmetry pawns true c s) s)))

listed_squares : (pawns c : Bool) → all_below 64 (some_is_listed pawns c) ≡ true
unfolding turned_square place canonical_symmetry
listed_squares true true = refl
listed_squares true false = refl
listed_squares false true = refl
listed_squares false false = refl

pub some-listed : (pawns c : Bool) (s : ℕ) → s < 64 → some_is_listed pawns c s ≡ true
some-listed pawns c s l = at_below 64 (some_is_listed pawns c) (listed_squares pawns c) s l

pub chosen-admitted : (pawns d c : Bool) (s : ℕ) → (pawns && d) ≡ false → admitted pawns (canonical_symmetry pawns d c s) ≡ true
unfolding canonical_symmetry
chosen-admitted true true c s e = cc
chosen-admitted true false c s e = refl
chosen-admitted false d c s e = refl

pub chosen-colours : (pawns d c : Bool) (s : ℕ) → (canonical_symmetry pawns d c s).colours ≡ c
unfolding canonical_symmetry
chosen-colours true d c s = refl
chosen-colours false true c s = refl
chosen-colours false false c s = refl

-- with pawns, file and rank are not exchanged
pub chosen-pawns : (pawns d c : Bool) (s : ℕ) → pawns ≡ true → canonical_symmetry pawns d c s ≡ canonical_symmetry pawns false c s
unfolding canonical_symmetry
chosen-pawns true d c s e = refl
chosen-pawns false d c s e = absurd (false≢true e)

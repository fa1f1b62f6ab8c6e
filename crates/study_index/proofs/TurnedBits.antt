-- The turned bits of a square are its image.
use Rattle.std.proofs.Common.{◌≡◌, ℕ, ◌<◌, ◌==◌, Bool, true, false, ◌&&◌, nat_lt, refl}
use Rattle.std.proofs.lemmas.Bool.{and_parts, eqb-true}
use borrow.Author.Tests.{ltb-true}
use Rattle.study_board.specs.declared.symmetry.Symmetry.{Symmetry}
use Rattle.study_board.specs.Symmetry.{turned_square}
use Rattle.study_index.specs.Bits.{turned_bits}
use Rattle.study_index.proofs.Symmetries.{all_below, at_below}

abbrev test : Symmetry → ℕ → Bool
test t x = (turned_bits t x == turned_square t x) && nat_lt (turned_bits t x) 64

for_squares : (files ranks diagonal colours : Bool)
    → all_below 64 (test (record { files = files; ranks = ranks; diagonal = diagonal; colours = colours })) ≡ true
unfolding turned_square turned_bits
for_squares true true true true = refl
for_squares true true true false = refl
for_squares true true false true = refl
for_squares true true false false = refl
for_squares true false true true = refl
for_squares true false true false = refl
for_squares true false false true = refl
for_squares true false false false = refl
for_squares false true true true = refl
for_squares false true true false = refl
for_squares false true false true = refl
for_squares false true false false = refl
for_squares false false true true = refl
for_squares false false true false = refl
for_squares false false false true = refl
for_squares false false false false = refl

pub record IsTurned (t : Symmetry) (x : ℕ) : Type 0 where
  pub is : turned_bits t x ≡ turned_square t x
  pub small : turned_bits t x < 64

pub turned_is : (t : Symmetry) (x : ℕ) → x < 64 → IsTurned t x
turned_is t x l =
    let e = and_parts (turned_bits t x == turned_square t x) (nat_lt (turned_bits t x) 64)
    (at_below 64 (test t) (for_squares t.files t.ranks t.diagonal t.colours) x l) in
    record { is = eqb-true (turned_bits t x) (turned_square t x) e.0; small = ltb-true (turned_bits t x) 64 e.1 }

-- A buffer whose first byte was set.
use Rattle.std.proofs.Common.{◌≡◌, ℕ, ◌<◌, List, [], ◌∷◌, length, take, slice_set, refl, arith}

pub one_byte : (buf : List ℕ) (b : ℕ) → 0 < length buf → take 1 (slice_set buf 0 b) ≡ b ∷ []
one_byte [] b some = absurd (omega (arith, some))
one_byte (x ∷ xs) b some = refl

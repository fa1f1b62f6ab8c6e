-- A text with zeros behind it, 255 bytes in all.
use Rattle.std.proofs.Common.{◌≡◌, ◌≤◌, ℕ, ◌-◌, List, ◌++◌, length, take, drop, ap, arith}
use Rattle.std.specs.Prelude.{replicate}
use Rattle.std.proofs.lemmas.List.{drop-replicate, length-append, length-replicate}
use Rattle.std.proofs.Math.Seq.{take-append_seam, drop-append_seam}

abbrev pub padded : List ℕ → List ℕ
padded text = text ++ replicate (255 - length text) 0

pub padded_text : (text : List ℕ) → text ++ drop (length text) (replicate 255 0) ≡ padded text
padded_text text = ap (λ (t : List ℕ). text ++ t) (drop-replicate (length text) 255 0)

pub padded_length : (text : List ℕ) → length text ≤ 255 → length (padded text) ≡ 255
padded_length text few = simp (length-append, length-replicate) (omega (arith, few))

pub padded_front : (text : List ℕ) → take (length text) (padded text) ≡ text
padded_front text = take-append_seam text (replicate (255 - length text) 0)

pub padded_zeros : (text : List ℕ) → drop (length text) (padded text) ≡ replicate (255 - length text) 0
padded_zeros text = drop-append_seam text (replicate (255 - length text) 0)

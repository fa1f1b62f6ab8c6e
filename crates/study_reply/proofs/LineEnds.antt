-- Texts that end with a line feed.
use Rattle.std.proofs.Common.{◌≡◌, ℕ, true, List, [], ◌∷◌, ◌++◌}
use Rattle.study_reply.specs.Words.{ends_line}

pub ends-behind : (xs ys : List ℕ) → ends_line ys ≡ true → ends_line (xs ++ ys) ≡ true
ends-behind [] ys h = h
ends-behind (x ∷ []) [] h = absurd cc
ends-behind (x ∷ []) (y ∷ ys) h = h
ends-behind (x ∷ z ∷ xs) ys h = ends-behind (z ∷ xs) ys h

-- Counts, one after the other.
use Rattle.std.proofs.Common.{◌≡◌, ℕ, Bool, List, ◌∷◌, ◌++◌, ap, ◌∙◌, append_assoc}
use Rattle.std.specs.Prelude.{◌&&◌, ◌==◌}
use Rattle.study_import.specs.Blocks.{count_words, counts_words}

-- a count is added, and then the others
pub count_on : (out now new : List ℕ) (first then : Bool) (name : List ℕ) (n : ℕ) (cs : List (List ℕ × ℕ)) → now ≡ out ++ count_words first name n
    → then ≡ (first && n == 0) → new ≡ now ++ counts_words then cs → new ≡ out ++ counts_words first ((name, n) ∷ cs)
count_on out now new first then name n cs added flag rest =
    rest ∙ ap (λ (b : Bool). now ++ counts_words b cs) flag ∙ ap (λ (t : List ℕ). t ++ counts_words (first && n == 0) cs) added
    ∙ append_assoc out (count_words first name n) (counts_words (first && n == 0) cs)

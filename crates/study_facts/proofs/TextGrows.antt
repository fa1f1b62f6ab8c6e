-- A text to which parts are appended in turn.
use Rattle.std.proofs.Common.{◌≡◌, ℕ, List, ◌++◌, ap, ◌∙◌, append_assoc}

pub three : (t t1 t2 t3 a b c : List ℕ) → t1 ≡ t ++ a → t2 ≡ t1 ++ b → t3 ≡ t2 ++ c → t3 ≡ t ++ (a ++ (b ++ c))
three t t1 t2 t3 a b c ea eb ec =
    ec ∙ ap (λ (u : List ℕ). u ++ c) (eb ∙ ap (λ (u : List ℕ). u ++ b) ea) ∙ append_assoc (t ++ a) b c ∙ append_assoc t a (b ++ c)

-- Spaces at the end of a text.
use Rattle.std.proofs.Common.{◌≡◌, ℕ, ◌+◌, ◌-◌, ◌<◌, ◌≤◌, Bool, true, false, cond, List, [], ◌∷◌, ◌++◌, length, take, get_or, refl, sym, ap, ◌∙◌, arith}
use Rattle.std.specs.Prelude.{◌&&◌}
use Rattle.std.specs.List.{list_all}
use Rattle.std.proofs.lemmas.Bool.{ne_eqb}
use Rattle.std.proofs.lemmas.List.Folds.{list_all-append}
use Rattle.std.proofs.lemmas.List.{take_more}
use Rattle.study_text.specs.Words.{is_space}
use Rattle.study_command.specs.Parser.{trim_end}

and_yes : (b : Bool) → (b && true) ≡ b
and_yes true = refl
and_yes false = refl

and_no : (b : Bool) → (b && false) ≡ false
and_no true = refl
and_no false = refl

all_spaces : (xs : List ℕ) → list_all is_space (xs ++ 32 ∷ []) ≡ list_all is_space xs
all_spaces xs = list_all-append is_space xs (32 ∷ []) ∙ and_yes (list_all is_space xs)

pub trim_end-space : (xs : List ℕ) → trim_end (xs ++ 32 ∷ []) ≡ trim_end xs
trim_end-space [] = refl
trim_end-space (x ∷ xs) = ap (λ b. cond b [] (x ∷ trim_end (xs ++ 32 ∷ []))) (all_spaces (x ∷ xs))
    ∙ ap (λ (t : List ℕ). cond (list_all is_space (x ∷ xs)) [] (x ∷ t)) (trim_end-space xs)

not_spaces : (xs : List ℕ) (b : ℕ) → (b ≡ 32 → ⊥) → list_all is_space (xs ++ b ∷ []) ≡ false
not_spaces xs b ne = list_all-append is_space xs (b ∷ []) ∙ rw (ne_eqb b 32 ne) (and_no (list_all is_space xs))

pub trim_end-other : (xs : List ℕ) (b : ℕ) → (b ≡ 32 → ⊥) → trim_end (xs ++ b ∷ []) ≡ xs ++ b ∷ []
trim_end-other [] b ne = rw (ne_eqb b 32 ne) refl
trim_end-other (x ∷ xs) b ne = ap (λ t. cond t [] (x ∷ trim_end (xs ++ b ∷ []))) (not_spaces (x ∷ xs) b ne)
    ∙ ap (λ (t : List ℕ). x ∷ t) (trim_end-other xs b ne)

-- a space at place n - 1 is dropped, and any other byte ends the text
pub trim_end-cut : (xs : List ℕ) (n : ℕ) → 0 < n → n ≤ length xs → get_or xs (n - 1) 0 ≡ 32 → trim_end (take (n - 1) xs) ≡ trim_end (take n xs)
trim_end-cut xs n some le e =
    let one : (n - 1) + 1 ≡ n = omega arith in
    sym (ap (λ k. trim_end (take k xs)) (sym one) ∙ ap trim_end (take_more xs (n - 1) 0 (omega arith))
    ∙ ap (λ b. trim_end (take (n - 1) xs ++ b ∷ [])) e ∙ trim_end-space (take (n - 1) xs))

pub trim_end-stop : (xs : List ℕ) (n : ℕ) → 0 < n → n ≤ length xs → (get_or xs (n - 1) 0 ≡ 32 → ⊥) → trim_end (take n xs) ≡ take n xs
trim_end-stop xs n some le ne =
    let one : (n - 1) + 1 ≡ n = omega arith in
    let more : take n xs ≡ take (n - 1) xs ++ get_or xs (n - 1) 0 ∷ [] = ap (λ k. take k xs) (sym one) ∙ take_more xs (n - 1) 0 (omega arith) in
    ap trim_end more ∙ trim_end-other (take (n - 1) xs) (get_or xs (n - 1) 0) ne ∙ sym more

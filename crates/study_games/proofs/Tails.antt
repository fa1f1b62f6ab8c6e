-- Bytes that a text does not end with.
use Rattle.std.proofs.Common.{◌≡◌, ℕ, ◌+◌, ◌-◌, ◌<◌, ◌≤◌, Bool, true, false, cond, List, [], ◌∷◌, ◌++◌, length, take, get_or, refl, sym, ap, ◌∙◌, arith}
use Rattle.std.specs.Prelude.{◌&&◌}
use Rattle.std.specs.List.{list_all}
use Rattle.std.proofs.lemmas.List.Folds.{list_all-append}
use Rattle.std.proofs.lemmas.List.{take_more}
use Rattle.study_games.specs.Symbols.{without_end}

and_yes : (b : Bool) → (b && true) ≡ b
and_yes true = refl
and_yes false = refl

and_no : (b : Bool) → (b && false) ≡ false
and_no true = refl
and_no false = refl

module _ (p : ℕ → Bool) where
  all_more : (xs : List ℕ) (b : ℕ) → p b ≡ true → list_all p (xs ++ b ∷ []) ≡ list_all p xs
  all_more xs b h = list_all-append p xs (b ∷ []) ∙ rw h (and_yes (list_all p xs))

  cut : (xs : List ℕ) (b : ℕ) → p b ≡ true → without_end p (xs ++ b ∷ []) ≡ without_end p xs
  cut [] b h = rw h refl
  cut (x ∷ xs) b h = ap (λ t. cond t [] (x ∷ without_end p (xs ++ b ∷ []))) (all_more (x ∷ xs) b h)
      ∙ ap (λ (t : List ℕ). cond (list_all p (x ∷ xs)) [] (x ∷ t)) (cut xs b h)

  not_all : (xs : List ℕ) (b : ℕ) → p b ≡ false → list_all p (xs ++ b ∷ []) ≡ false
  not_all xs b h = list_all-append p xs (b ∷ []) ∙ rw h (and_no (list_all p xs))

  kept : (xs : List ℕ) (b : ℕ) → p b ≡ false → without_end p (xs ++ b ∷ []) ≡ xs ++ b ∷ []
  kept [] b h = rw h refl
  kept (x ∷ xs) b h = ap (λ t. cond t [] (x ∷ without_end p (xs ++ b ∷ []))) (not_all (x ∷ xs) b h)
      ∙ ap (λ (t : List ℕ). x ∷ t) (kept xs b h)

  -- such a byte at place n - 1 is dropped, and any other ends the text
  pub tail-cut : (xs : List ℕ) (n : ℕ) → 0 < n → n ≤ length xs → p (get_or xs (n - 1) 0) ≡ true
      → without_end p (take (n - 1) xs) ≡ without_end p (take n xs)
  tail-cut xs n some le e =
      let one : (n - 1) + 1 ≡ n = omega arith in
      sym (ap (λ k. without_end p (take k xs)) (sym one) ∙ ap (without_end p) (take_more xs (n - 1) 0 (omega arith))
      ∙ cut (take (n - 1) xs) (get_or xs (n - 1) 0) e)

  pub tail-stop : (xs : List ℕ) (n : ℕ) → 0 < n → n ≤ length xs → p (get_or xs (n - 1) 0) ≡ false
      → without_end p (take n xs) ≡ take n xs
  tail-stop xs n some le e =
      let one : (n - 1) + 1 ≡ n = omega arith in
      let more : take n xs ≡ take (n - 1) xs ++ get_or xs (n - 1) 0 ∷ [] = ap (λ k. take k xs) (sym one) ∙ take_more xs (n - 1) 0 (omega arith) in
      ap (without_end p) more ∙ kept (take (n - 1) xs) (get_or xs (n - 1) 0) e ∙ sym more

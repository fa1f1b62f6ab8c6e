-- Fronts and backs of lists.
use Rattle.std.proofs.Common.{◌≡◌, ℕ, inl, inr, ◌-◌, ◌≤◌, min, List, ◌++◌, length, take, drop, replicate, refl, sym, ap, ◌∙◌, arith}
use Rattle.std.proofs.lemmas.List.{take_all, drop_all, length-take-le, drop-replicate}
use Rattle.std.proofs.lemmas.Bool.{cases_lt}
use Rattle.study_tablefile.specs.Format.{page_cells_of}

pub padded_front : (xs : List ℕ) → length xs ≤ 4096 → xs ++ drop (length xs) (replicate 4096 0) ≡ page_cells_of xs
unfolding page_cells_of
padded_front xs h = rw (take_all 4096 xs h) (ap (λ (l : List ℕ). xs ++ l) (drop-replicate (length xs) 4096 0))

pub field_filled : (xs : List ℕ) → length xs ≤ 8 → drop {A = ℕ} (length xs) (replicate 8 0) ≡ replicate (8 - length xs) 0
field_filled xs h = drop-replicate {X = ℕ} (length xs) 8 0

-- a page is filled with the next 4096 cells, or with the remaining ones
pub next_page : (xs : List ℕ) (m : ℕ) → m ≡ min (length xs) 4096 → page_cells_of (take m xs) ≡ page_cells_of xs
unfolding page_cells_of
next_page xs m e = elim (cases_lt 4096 (length xs)) [
  | inl more ↦
      let m4096 : m ≡ 4096 = omega (arith, e) in
      let full : length (take 4096 xs) ≡ 4096 = length-take-le 4096 xs (omega arith) in
      let none : 4096 - length (take 4096 xs) ≡ 4096 - length xs = omega arith in
      rw m4096 (rw none (rw (take_all 4096 (take 4096 xs) (omega arith)) refl))
  | inr all ↦ let whole : take m xs ≡ xs = take_all m xs (omega (arith, e)) in rw whole refl
]

pub next_rest : (xs : List ℕ) (m : ℕ) → m ≡ min (length xs) 4096 → drop m xs ≡ drop 4096 xs
next_rest xs m e = elim (cases_lt 4096 (length xs)) [
  | inl more ↦ let m4096 : m ≡ 4096 = omega (arith, e) in rw m4096 refl
  | inr all ↦ drop_all m xs (omega (arith, e)) ∙ sym (drop_all 4096 xs all)
]

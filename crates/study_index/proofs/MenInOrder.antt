-- Men in ascending order of their squares have exactly one order.
use Rattle.std.proofs.Common.{◌≡◌, ℕ, ◌<◌, List, [], ◌∷◌, refl, sym, ap, ◌∙◌, subst, arith, inl, inr}
use Rattle.std.specs.List.Sorted.{IsPermutation}
use Rattle.std.proofs.lemmas.List.Sorted.{Contains-permutation, IsPermutation-sym}
use Rattle.study_board.specs.declared.men.Man.{Man}
use Rattle.study_board.specs.Position.{AllAbove, IsAscending}
use Rattle.study_index.proofs.Fillings.{In, In-from_Contains, Contains-from_In}

above : (n : ℕ) (xs : List Man) (z : Man) → AllAbove n xs → In z xs → n < z.at
above n [] z h i = absurd i
above n (x ∷ xs) z h (inl e) = subst (λ w. n < w.at) (sym e) h.0
above n (x ∷ xs) z h (inr i) = above n xs z h.1 i

same_members : (xs ys : List Man) → IsAscending xs → IsAscending ys → ((z : Man) → In z xs → In z ys) → ((z : Man) → In z ys → In z xs) → xs ≡ ys
same_members [] [] h k to from = refl
same_members [] (y ∷ ys) h k to from = absurd (from y (inl refl))
same_members (x ∷ xs) [] h k to from = absurd (to x (inl refl))
same_members (x ∷ xs) (y ∷ ys) h k to from =
    let first : x ≡ y = elim (to x (inl refl)) [
      | inl e ↦ e
      | inr i ↦ elim (from y (inl refl)) [ inl e ↦ sym e | inr j ↦ absurd (let a = above y.at ys x k.0 i in let b = above x.at xs y h.0 j in omega arith) ]
    ] in
    let rest : xs ≡ ys = same_members xs ys h.1 k.1
    (λ z i. after z y ys (above x.at xs z h.0 i) first (to z (inr i)))
    (λ z i. after z x xs (above y.at ys z k.0 i) (sym first) (from z (inr i))) in
    ap (λ m. m ∷ xs) first ∙ ap (λ l. y ∷ l) rest
  where
    -- a man above the first of a list stands among the rest
    after : (z m : Man) (ms : List Man) {n : Man} → n.at < z.at → n ≡ m → In z (m ∷ ms) → In z ms
    after z m ms {n} l e (inl d) = absurd (let a : n.at ≡ z.at = ap (λ w. w.at) (e ∙ sym d) in omega arith)
    after z m ms l e (inr i) = i

pub ascending_same : (xs ys : List Man) → IsPermutation xs ys → IsAscending xs → IsAscending ys → xs ≡ ys
ascending_same xs ys p h k =
    same_members xs ys h k (λ z i. In-from_Contains ys z (Contains-permutation xs ys z p (Contains-from_In xs z i)))
    (λ z i. In-from_Contains xs z (Contains-permutation ys xs z (IsPermutation-sym xs ys p) (Contains-from_In ys z i)))

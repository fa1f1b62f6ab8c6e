-- Men put in the order of their squares.
use Rattle.std.proofs.Common.{◌≡◌, ℕ, ◌+◌, ◌<◌, ◌≤◌, suc, Bool, true, false, cond, List, [], ◌∷◌, ◌++◌, length}
use Rattle.std.proofs.Common.{take, drop, refl, ap, sym, ◌∙◌, subst, nat_lt, arith, fold, append-nil, get_or}
use Rattle.std.specs.List.{prefix_len, insert, All}
use Rattle.std.proofs.lemmas.List.Sums.{fold_more}
use Rattle.std.proofs.lemmas.List.Elements.{All-cons}
use Rattle.std.specs.List.Sorted.{IsPermutation}
use Rattle.std.proofs.lemmas.List.Sorted.{IsPermutation-refl, IsPermutation-trans, IsPermutation-insert}
use Rattle.std.proofs.lemmas.List.Sorted.{IsPermutation-middle, IsPermutation-append_left, All-permutation}
use borrow.Author.Tests.{ltb-true, ltb-false}
use Rattle.study_board.specs.declared.men.Man.{Man}
use Rattle.study_board.specs.Position.{insert_man, in_order}

-- the number of men that stand below a square, from the first on
abbrev pub below : Man → List Man → ℕ
below m xs = prefix_len (λ x. nat_lt x.at m.at) xs

pub insert-insert_man : (m : Man) (xs : List Man) → insert xs (below m xs) m ≡ insert_man m xs
insert-insert_man m [] = refl
insert-insert_man m (x ∷ xs) =
    elim (nat_lt x.at m.at)
    as (λ b. take (cond b (1 + below m xs) 0) (x ∷ xs) ++ m ∷ drop (cond b (1 + below m xs) 0) (x ∷ xs) ≡ cond b (x ∷ insert_man m xs) (m ∷ x ∷ xs)) [
      | true ↦ let e : 1 + below m xs ≡ suc (below m xs) = omega arith in rw e (ap (λ l. x ∷ l) (insert-insert_man m xs))
      | false ↦ refl
    ]

pub IsPermutation-insert_man : (m : Man) (xs : List Man) → IsPermutation (m ∷ xs) (insert_man m xs)
IsPermutation-insert_man m xs = subst (λ (l : List Man). IsPermutation (m ∷ xs) l) (insert-insert_man m xs) (IsPermutation-insert xs (below m xs) m)

pub IsPermutation-fold : (xs done : List Man) → IsPermutation (done ++ xs) (fold (λ d m. insert_man m d) done xs)
IsPermutation-fold [] done = rw append-nil (IsPermutation-refl done)
IsPermutation-fold (x ∷ xs) done =
    IsPermutation-trans _ _ _ (IsPermutation-middle done x xs)
    (IsPermutation-trans _ _ _ (IsPermutation-append_left xs (x ∷ done) (insert_man x done) (IsPermutation-insert_man x done))
    (IsPermutation-fold xs (insert_man x done)))

pub IsPermutation-in_order : (xs : List Man) → IsPermutation xs (in_order xs)
IsPermutation-in_order xs = IsPermutation-fold xs []

-- each man of the list is on a square not below n
abbrev pub NoneBelow : ℕ → List Man → Type 0
NoneBelow n [] = Unit {0}
NoneBelow n (x ∷ xs) = (n ≤ x.at) × NoneBelow n xs

abbrev pub IsSortedByAt : List Man → Type 0
IsSortedByAt [] = Unit {0}
IsSortedByAt (x ∷ xs) = NoneBelow x.at xs × IsSortedByAt xs

pub NoneBelow-less : (a b : ℕ) (xs : List Man) → a ≤ b → NoneBelow b xs → NoneBelow a xs
NoneBelow-less a b [] le h = tt
NoneBelow-less a b (x ∷ xs) le h = (omega (arith, h.0), NoneBelow-less a b xs le h.1)

NoneBelow-insert_man : (n : ℕ) (m : Man) (xs : List Man) → n ≤ m.at → NoneBelow n xs → NoneBelow n (insert_man m xs)
NoneBelow-insert_man n m [] le h = (le, tt)
NoneBelow-insert_man n m (x ∷ xs) le h =
    elim (nat_lt x.at m.at) as (λ b. NoneBelow n (cond b (x ∷ insert_man m xs) (m ∷ x ∷ xs)))
    [ true ↦ (h.0, NoneBelow-insert_man n m xs le h.1) | false ↦ (le, h) ]

pub IsSortedByAt-insert_man : (m : Man) (xs : List Man) → IsSortedByAt xs → IsSortedByAt (insert_man m xs)
IsSortedByAt-insert_man m [] h = (tt, tt)
IsSortedByAt-insert_man m (x ∷ xs) h =
    let go : (b : Bool) → nat_lt x.at m.at ≡ b → IsSortedByAt (cond b (x ∷ insert_man m xs) (m ∷ x ∷ xs)) =
    λ b. elim b as (λ v. nat_lt x.at m.at ≡ v → IsSortedByAt (cond v (x ∷ insert_man m xs) (m ∷ x ∷ xs))) [
      | true ↦ λ e. (NoneBelow-insert_man x.at m xs (omega (arith, ltb-true _ _ e)) h.0, IsSortedByAt-insert_man m xs h.1)
      | false ↦ λ e. let le : m.at ≤ x.at = omega (arith, ltb-false _ _ e) in ((le, NoneBelow-less m.at x.at xs le h.0), h)
    ]
    in go (nat_lt x.at m.at) refl

IsSortedByAt-fold : (xs done : List Man) → IsSortedByAt done → IsSortedByAt (fold (λ d m. insert_man m d) done xs)
IsSortedByAt-fold [] done h = h
IsSortedByAt-fold (x ∷ xs) done h = IsSortedByAt-fold xs (insert_man x done) (IsSortedByAt-insert_man x done h)

-- the result of `insert` at the place of a man
pub placed_by_insert : (m : Man) (xs zs ys : List Man) (n i : ℕ) → zs ≡ xs → n ≡ m.at
    → i ≡ prefix_len (λ x. nat_lt x.at n) zs → ys ≡ insert xs i m → ys ≡ insert_man m xs
placed_by_insert m xs zs ys n i z k e h =
    let j : i ≡ below m xs = e ∙ rw (z, k) in
    h ∙ rw j (insert-insert_man m xs)

-- a man more in order
pub in_order_more : (xs : List Man) (i : ℕ) (d m : Man) (ys zs : List Man) → i < length xs → m ≡ get_or xs i d
    → ys ≡ in_order (take i xs) → zs ≡ insert_man m ys → zs ≡ in_order (take (i + 1) xs)
in_order_more xs i d m ys zs lt e h k = k ∙ rw (h, e) (sym (fold_more (λ d m. insert_man m d) [] xs i d lt))

pub All-insert_man : (m : Man) (xs : List Man) → m.at < 64 → All (λ x. x.at < 64) xs → All (λ x. x.at < 64) (insert_man m xs)
All-insert_man m xs one all = All-permutation (λ x. x.at < 64) (m ∷ xs) (insert_man m xs) (IsPermutation-insert_man m xs)
    (All-cons (λ x. x.at < 64) m xs one all)

pub IsSortedByAt-in_order : (xs : List Man) → IsSortedByAt (in_order xs)
IsSortedByAt-in_order xs = IsSortedByAt-fold xs [] tt

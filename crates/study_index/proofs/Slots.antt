-- Men put in the order of their slots.
use Rattle.std.proofs.Common.{◌≡◌, ℕ, ◌+◌, ◌<◌, ◌≤◌, suc, Bool, true, false, cond, List, [], ◌∷◌, ◌++◌}
use Rattle.std.proofs.Common.{length, take, drop, refl, ap, sym, ◌∙◌, subst, nat_le, arith, get_or}
use Rattle.std.specs.List.{prefix_len, insert}
use Rattle.std.specs.List.Sorted.{IsPermutation}
use Rattle.std.proofs.lemmas.List.Sorted.{IsPermutation-insert, IsPermutation-cons, IsPermutation-trans, IsPermutation-refl}
use Rattle.std.proofs.lemmas.Bool.Decides.{nat_tests}
use Rattle.study_board.specs.declared.men.Man.{Man}
use Rattle.study_values.specs.Slots.{man_slot_number, NoneBefore, IsInSlots, IsFilling}
use Rattle.study_values.specs.Index.{insert_by_slot, sort_by_slot}
use Rattle.study_index.proofs.Fillings.{NoneBefore-less}

-- the number of men after which it is inserted
abbrev pub before : Bool → Man → List Man → ℕ
before c m xs = prefix_len (λ x. nat_le (man_slot_number c x) (man_slot_number c m)) xs

insert-insert_by_slot : (c : Bool) (m : Man) (xs : List Man) → insert xs (before c m xs) m ≡ insert_by_slot c m xs
unfolding insert_by_slot
insert-insert_by_slot c m [] = refl
insert-insert_by_slot c m (x ∷ xs) =
    elim (nat_le (man_slot_number c x) (man_slot_number c m))
    as (λ b. take (cond b (1 + before c m xs) 0) (x ∷ xs) ++ m ∷ drop (cond b (1 + before c m xs) 0) (x ∷ xs)
    ≡ cond b (x ∷ insert_by_slot c m xs) (m ∷ x ∷ xs)) [
      | true ↦ let e : 1 + before c m xs ≡ suc (before c m xs) = omega arith in rw e (ap (λ l. x ∷ l) (insert-insert_by_slot c m xs))
      | false ↦ refl
    ]

NoneBefore-insert_by_slot : (c : Bool) (n : ℕ) (m : Man) (xs : List Man) → n ≤ man_slot_number c m → NoneBefore c n xs → NoneBefore c n (insert_by_slot c m xs)
unfolding insert_by_slot
NoneBefore-insert_by_slot c n m [] le h = (le, tt)
NoneBefore-insert_by_slot c n m (x ∷ xs) le h =
    elim (nat_le (man_slot_number c x) (man_slot_number c m)) as (λ b. NoneBefore c n (cond b (x ∷ insert_by_slot c m xs) (m ∷ x ∷ xs)))
    [ true ↦ (h.0, NoneBefore-insert_by_slot c n m xs le h.1) | false ↦ (le, h) ]

IsInSlots-insert_by_slot : (c : Bool) (m : Man) (xs : List Man) → IsInSlots c xs → IsInSlots c (insert_by_slot c m xs)
unfolding insert_by_slot
IsInSlots-insert_by_slot c m [] h = (tt, tt)
IsInSlots-insert_by_slot c m (x ∷ xs) h =
    let go : (b : Bool) → nat_le (man_slot_number c x) (man_slot_number c m) ≡ b → IsInSlots c (cond b (x ∷ insert_by_slot c m xs) (m ∷ x ∷ xs)) =
    λ b. elim b as (λ v. nat_le (man_slot_number c x) (man_slot_number c m) ≡ v → IsInSlots c (cond v (x ∷ insert_by_slot c m xs) (m ∷ x ∷ xs))) [
      | true ↦ λ e. (let le : man_slot_number c x ≤ man_slot_number c m = grind (arith, nat_tests) in
          (NoneBefore-insert_by_slot c (man_slot_number c x) m xs le h.0, IsInSlots-insert_by_slot c m xs h.1))
      | false ↦ λ e. (let le : man_slot_number c m ≤ man_slot_number c x = grind (arith, nat_tests) in
          ((le, NoneBefore-less c (man_slot_number c m) (man_slot_number c x) xs le h.0), h))
    ]
    in go (nat_le (man_slot_number c x) (man_slot_number c m)) refl

IsPermutation-insert_by_slot : (c : Bool) (m : Man) (xs : List Man) → IsPermutation (m ∷ xs) (insert_by_slot c m xs)
IsPermutation-insert_by_slot c m xs = subst (λ (l : List Man). IsPermutation (m ∷ xs) l) (insert-insert_by_slot c m xs)
    (IsPermutation-insert xs (before c m xs) m)

-- the men sorted are a filling
pub IsFilling-sort_by_slot : (c : Bool) (men : List Man) → IsFilling c men (sort_by_slot c men)
IsFilling-sort_by_slot c [] = record { each_once = IsPermutation-refl []; in_slots = tt }
IsFilling-sort_by_slot c (m ∷ ms) =
    let f = IsFilling-sort_by_slot c ms in
    record {
      each_once = IsPermutation-trans (m ∷ ms) (m ∷ sort_by_slot c ms) (insert_by_slot c m (sort_by_slot c ms))
          (IsPermutation-cons m ms (sort_by_slot c ms) f.each_once) (IsPermutation-insert_by_slot c m (sort_by_slot c ms));
      in_slots = IsInSlots-insert_by_slot c m (sort_by_slot c ms) f.in_slots;
    }

pub sort_by_slot-one : (c : Bool) (m : Man) → sort_by_slot c (m ∷ []) ≡ m ∷ []
unfolding insert_by_slot
sort_by_slot-one c m = refl

-- one more man is inserted among the others
pub sort_by_slot-more : (c : Bool) (m : Man) (ms xs ys : List Man) → ys ≡ insert_by_slot c m xs → xs ≡ sort_by_slot c ms → ys ≡ sort_by_slot c (m ∷ ms)
sort_by_slot-more c m ms xs ys e f = e ∙ ap (λ l. insert_by_slot c m l) f

-- a list of one man is in order
pub sort_by_slot-alone : (c : Bool) (xs : List Man) (a : Man) → 1 ≤ length xs → length xs < 2 → a ≡ get_or xs 0 a → a ∷ [] ≡ sort_by_slot c xs
sort_by_slot-alone c [] a l m e = absurd (omega arith)
sort_by_slot-alone c (x ∷ []) a l m e = ap (λ z. z ∷ []) e ∙ sym (sort_by_slot-one c x)
sort_by_slot-alone c (x ∷ y ∷ ys) a l m e = absurd (omega arith)

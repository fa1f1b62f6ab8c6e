-- The computed index is the index, and the computed position is that of the number.
use Rattle.std.proofs.Common.{◌≡◌, ℕ, ◌+◌, ◌<◌, ◌/◌, ◌==◌, nat_lt, ◌%◌, Bool, true, false, cond, ◌&&◌, List}
use Rattle.std.proofs.Common.{[], ◌∷◌, Option, Some, None, unwrap_or, refl, sym, ◌∙◌, ap, subst, arith}
use Rattle.std.specs.List.{All}
use Rattle.std.specs.List.Sorted.{IsPermutation}
use Rattle.std.specs.Option.{is_none}
use Rattle.std.proofs.lemmas.Bool.{false≢true, and_parts, and_from, eqb-true, eq-eqb}
use Rattle.std.proofs.lemmas.Bool.Decides.{nat_tests}
use Rattle.std.proofs.lemmas.List.Elements.{All-nil, All-cons}
use Rattle.std.proofs.lemmas.List.Sorted.{All-permutation, IsPermutation-sym, IsPermutation-trans}
use Rattle.study_board.specs.declared.men.Man.{Man}
use Rattle.study_board.specs.declared.fault.PositionFault.{PositionFault}
use Rattle.study_board.specs.Position.{Position, IsValid, in_order, first_fault}
use Rattle.study_board.proofs.Faults.{first_fault_same}
use Rattle.study_board.proofs.MenInOrder.{IsPermutation-in_order, IsSortedByAt-in_order}
use Rattle.study_board.proofs.Valid.{IsFaultless-from_first, IsAscending-from_sorted}
use Rattle.study_material.specs.declared.class.Class.{Class}
use Rattle.study_material.specs.Lists.{is_swapped}
use Rattle.study_index.specs.declared.decoding.Slot.{Slot}
use Rattle.study_values.specs.Number.{IsLeastNumber, IsIndex, king_places, numbers_of, cells_of, without_bit}
use Rattle.study_index.specs.Decoded.{IsDecoded, AreSlots, slots_of, slots_have_pawn, men_of, decoded_men, listed_square, man}
use borrow.Author.Tests.{ltb-true}
use Rattle.study_index.specs.Computed.{position_decoded, is_entry, position_numbered}
use Rattle.study_values.specs.Index.{least_number, index_of}
use Rattle.study_index.proofs.ClassLaws.{below}
use Rattle.study_index.proofs.ClassSlots.{AreSlots-class, is_cell-below, number_below}
use Rattle.study_index.proofs.TurnedNumbers.{least_is}
use Rattle.study_index.proofs.NumbersReadOff.{IsLeastNumber-unique, IsIndex-unique, IsOfMen-decoded, decoded, decoded_fault, same_position}
use Rattle.study_index.proofs.Slots.{IsFilling-sort_by_slot}

pub IsLeastNumber-least_number : (p : Position) → IsValid p → IsLeastNumber p (least_number p)
unfolding least_number
IsLeastNumber-least_number p v =
    let h = least_is p _ _ v (IsFilling-sort_by_slot (is_swapped p.men) p.men) refl in
    subst (λ n. IsLeastNumber p n) (sym (ap (λ o. unwrap_or o 0) h.1)) h.2

pub least_number-only : (p : Position) (n : ℕ) → IsValid p → IsLeastNumber p n → n ≡ least_number p
least_number-only p n v i = IsLeastNumber-unique p n (least_number p) i (IsLeastNumber-least_number p v)

pub IsIndex-index_of : (p : Position) → IsValid p → IsIndex p (index_of p)
unfolding index_of
IsIndex-index_of p v = record { number = least_number p; least = IsLeastNumber-least_number p v; is = refl }

pub index_of-only : (p : Position) (n : ℕ) → IsValid p → IsIndex p n → n ≡ index_of p
index_of-only p n v i = IsIndex-unique p n (index_of p) i (IsIndex-index_of p v)

listed_small : (pawns : Bool) (q : ℕ) → q < king_places pawns → listed_square pawns q < 64
unfolding listed_square
listed_small true q l = omega arith
listed_small false q l = small (nat_lt q 4) (nat_lt q 7) (nat_lt q 9) refl refl refl
  where
    small : (a b d : Bool) → nat_lt q 4 ≡ a → nat_lt q 7 ≡ b → nat_lt q 9 ≡ d → cond a q (cond b (q + 5) (cond d (q + 11) 27)) < 64
    small true b d e f g = omega arith
    small false true d e f g = omega arith
    small false false true e f g = omega arith
    small false false false e f g = omega arith

mod_small : (pawns : Bool) (h : ℕ) → h % king_places pawns < king_places pawns
mod_small true h = omega arith
mod_small false h = omega arith

abbrev OnBoard : Man → Type 0
OnBoard m = m.at < 64

one_on : (s : Slot) (x : ℕ) (xs : List Man) → x < 64 → All OnBoard xs → All OnBoard (man s x ∷ xs)
one_on s x xs l h = All-cons OnBoard (man s x) xs l h

one_more : (s : Slot) (pawns : Bool) (q : ℕ) (xs : List Man) → q < king_places pawns → All OnBoard xs → All OnBoard (man s (listed_square pawns q) ∷ xs)
one_more s pawns q xs l h = one_on s (listed_square pawns q) xs (listed_small pawns q l) h

on_board : (pawns : Bool) (slots : List Slot) (n : ℕ) → AreSlots slots → All OnBoard (men_of pawns slots n)
on_board pawns (k ∷ b ∷ []) n a =
    let last = man b (n % 64) ∷ [] in
    one_more k pawns (n / 64 % king_places pawns) last (mod_small pawns (n / 64)) (one_on b (n % 64) [] (omega arith) (All-nil OnBoard))
on_board pawns (k ∷ b ∷ x ∷ []) n a =
    let last = man x (n % 64) ∷ [] in
    let further = man b (n / 64 % 64) ∷ last in
    one_more k pawns (n / 64 / 64 % king_places pawns) further (mod_small pawns (n / 64 / 64))
    (one_on b (n / 64 % 64) last (omega arith) (one_on x (n % 64) [] (omega arith) (All-nil OnBoard)))
on_board pawns (k ∷ b ∷ x ∷ y ∷ []) n a =
    let last = man y (n % 64) ∷ [] in
    let third = man x (n / 64 % 64) ∷ last in
    let further = man b (n / 64 / 64 % 64) ∷ third in
    one_more k pawns (n / 64 / 64 / 64 % king_places pawns) further (mod_small pawns (n / 64 / 64 / 64))
    (one_on b (n / 64 / 64 % 64) third (omega arith) (one_on x (n / 64 % 64) last (omega arith) (one_on y (n % 64) [] (omega arith) (All-nil OnBoard))))
on_board pawns [] n a = absurd a
on_board pawns (k ∷ []) n a = absurd a
on_board pawns (k ∷ b ∷ x ∷ y ∷ z ∷ fs) n a = absurd a

-- men in order without a fault are a valid position
decoded_is_valid : (c : Class) (n : ℕ) → first_fault (position_decoded c n).men (position_decoded c n).to_move (position_decoded c n).passed ≡ None
    → IsValid (position_decoded c n)
decoded_is_valid c n e =
    let men = decoded_men (slots_of c) (without_bit n) in
    record {
      ordered =
          IsAscending-from_sorted (in_order men) (IsSortedByAt-in_order men)
          (IsFaultless-from_first (in_order men) (position_decoded c n).to_move (position_decoded c n).passed e).once;
      on_board = All-permutation OnBoard men (in_order men) (IsPermutation-in_order men)
          (on_board (slots_have_pawn (slots_of c)) (slots_of c) (without_bit n) (AreSlots-class c));
      faultless = e;
    }

-- the decoded position is the encoded one
one_decoded : (c : Class) (n : ℕ) (q : Position) → IsDecoded c n q → position_decoded c n ≡ q
one_decoded c n q d =
    let men = decoded_men (slots_of c) (without_bit n) in
    let o = IsOfMen-decoded (slots_of c) n q (AreSlots-class c) d in
    let same : IsPermutation q.men (in_order men) =
    IsPermutation-trans q.men men (in_order men) (IsPermutation-sym men q.men o.same)
    (IsPermutation-in_order men) in
    let none : first_fault (in_order men) (position_decoded c n).to_move (position_decoded c n).passed ≡ None =
    sym (first_fault_same men (in_order men) (IsPermutation-in_order men) (position_decoded c n).to_move (position_decoded c n).passed)
    ∙ decoded_fault (slots_of c) n q o ∙ d.valid.faultless in
    same_position (position_decoded c n) q (decoded_is_valid c n none) d.valid (IsPermutation-sym q.men (in_order men) same) (sym o.move) (sym o.passed)

abbrev test : Class → ℕ → Position → Bool
test c n r = nat_lt n (cells_of c) && is_none (first_fault r.men r.to_move r.passed) && (index_of r == n)

pub numbered_of_decoded : (c : Class) (n : ℕ) (q : Position) → IsDecoded c n q → position_numbered c n ≡ Some q
unfolding position_numbered
numbered_of_decoded c n q d =
    let lt : nat_lt n (cells_of c) ≡ true = small n (cells_of c) (below c n q d) in
    let none : is_none (first_fault q.men q.to_move q.passed) ≡ true = ap (λ o. is_none o) d.valid.faultless in
    let at_q : test c n q ≡ true = and_from _ _ (and_from _ _ lt none) (eq-eqb (index_of q) n (sym (index_of-only q n d.valid d.index))) in
    subst (λ (r : Position). cond (test c n r) (Some r) None ≡ Some q) (sym (one_decoded c n q d)) (at_test (test c n q) at_q)
  where
    small : (m k : ℕ) → m < k → nat_lt m k ≡ true
    small m k l = grind (arith, nat_tests)

    at_test : (b : Bool) → b ≡ true → cond b (Some q) None ≡ Some q
    at_test true e = refl
    at_test false e = absurd (false≢true e)

pub decoded_of_numbered : (c : Class) (n : ℕ) (q : Position) → position_numbered c n ≡ Some q → IsDecoded c n q
unfolding position_numbered
decoded_of_numbered c n q e = by_test (is_entry c n) refl e
  where
    no_fault : (o : Option PositionFault) → is_none o ≡ true → o ≡ None
    no_fault None e = refl
    no_fault (Some f) e = absurd (false≢true e)

    by_test : (b : Bool) → is_entry c n ≡ b → cond b (Some (position_decoded c n)) None ≡ Some q → IsDecoded c n q
    by_test false f e = absurd (let no : None ≡ Some q = e in cc)
    by_test true f e =
        let r = position_decoded c n in
        let men = decoded_men (slots_of c) (without_bit n) in
        let a = and_parts (nat_lt n (cells_of c) && is_none (first_fault r.men r.to_move r.passed)) (index_of r == n) f in
        let b = and_parts (nat_lt n (cells_of c)) (is_none (first_fault r.men r.to_move r.passed)) a.0 in
        let v : IsValid r = decoded_is_valid c n (no_fault (first_fault r.men r.to_move r.passed) b.1) in
        let same : r ≡ q = (let s : Some r ≡ Some q = e in cc) in
        subst (λ (z : Position). IsDecoded c n z) same
        (decoded (slots_of c) n r (AreSlots-class c)
        (is_cell-below c (without_bit n) ∙ below_test (without_bit n) (numbers_of c)
        (number_below c n (ltb-true n (cells_of c) b.0)))
        (record { valid = v; same_men = IsPermutation-in_order men; same_side = refl; same_passed = refl })
        (subst (λ k. IsIndex r k) (eqb-true (index_of r) n a.1) (IsIndex-index_of r v)))
      where
        below_test : (m k : ℕ) → m < k → nat_lt m k ≡ true
        below_test m k l = grind (arith, nat_tests)

-- The number of the men that another number encodes, one of which has moved.
use Rattle.std.specs.List.Sorted.{IsPermutation}
use Rattle.study_board.specs.Position.{IsValid}
use Rattle.study_moves.specs.EnPassant.{has_legal_en_passant}
use Rattle.std.proofs.Common.{◌≡◌, ℕ, ◌==◌, ◌≤◌, Bool, true, false, cond, List, [], ◌∷◌, map, Option, Some, refl, sym, ◌∙◌, subst, ap}
use Rattle.study_board.specs.declared.men.Side.{Side}
use Rattle.study_board.specs.declared.men.Man.{Man}
use Rattle.study_board.specs.Men.{other_side, moved_if}
use Rattle.study_board.specs.Position.{Position}
use Rattle.study_board.specs.Symmetry.{turned_side}
use Rattle.study_material.specs.declared.class.Class.{Class}
use Rattle.study_material.specs.Lists.{is_exchanged, is_swapped}
use Rattle.study_values.specs.Slots.{man_slot_number, NoneBefore, IsInSlots, IsFilling}
use Rattle.study_values.specs.Number.{has_pawn, with_bit, without_bit, IsLeastNumber}
use Rattle.study_index.specs.Decoded.{slot_filled, slots_of, slots_have_pawn, decoded_men, decoded_side}
use Rattle.study_values.specs.Canonical.{canonical_number}
use Rattle.study_values.specs.Index.{index_of}
use Rattle.study_index.specs.Moved.{IsMoved}
use Rattle.study_index.proofs.NumbersReadOff.{filled-men_of, has_pawn-slots, IsInSlots-men_of}
use Rattle.study_index.proofs.ClassSlots.{AreSlots-class, class_in_order}
use Rattle.study_index.proofs.ListOrder.{lists-filled}
use Rattle.study_index.proofs.TurnedNumbers.{least_is}
use Rattle.study_index.proofs.ComputedIndex.{index_of-only}

-- a man that moves fills the same slot
slot_kept : (x a : ℕ) (m : Man) → slot_filled (moved_if x a m) ≡ slot_filled m
slot_kept x a m = by_test (m.at == x)
  where
    by_test : (b : Bool) → slot_filled (cond b (let r : Man = record { side = m.side; kind = m.kind; at = a } in r) m) ≡ slot_filled m
    by_test true = refl
    by_test false = refl

slots_kept : (x a : ℕ) (ms : List Man) → map slot_filled (map (moved_if x a) ms) ≡ map slot_filled ms
slots_kept x a [] = refl
slots_kept x a (m ∷ ms) =
    ap (λ s. s ∷ map slot_filled (map (moved_if x a) ms)) (slot_kept x a m) ∙ ap (λ ss. slot_filled m ∷ ss) (slots_kept x a ms)

number_kept : (x a : ℕ) (m : Man) → man_slot_number false (moved_if x a m) ≡ man_slot_number false m
unfolding man_slot_number
number_kept x a m = by_test (m.at == x)
  where
    by_test : (b : Bool) → man_slot_number false (cond b (let r : Man = record { side = m.side; kind = m.kind; at = a } in r) m) ≡ man_slot_number false m
    by_test true = refl
    by_test false = refl

NoneBefore-kept : (n x a : ℕ) (ms : List Man) → NoneBefore false n ms → NoneBefore false n (map (moved_if x a) ms)
NoneBefore-kept n x a [] h = h
NoneBefore-kept n x a (m ∷ ms) h = (subst (λ (k : ℕ). n ≤ k) (sym (number_kept x a m)) h.0, NoneBefore-kept n x a ms h.1)

IsInSlots-kept : (x a : ℕ) (ms : List Man) → IsInSlots false ms → IsInSlots false (map (moved_if x a) ms)
IsInSlots-kept x a [] h = h
IsInSlots-kept x a (m ∷ ms) h = (
  subst (λ (k : ℕ). NoneBefore false k (map (moved_if x a) ms)) (sym (number_kept x a m)) (NoneBefore-kept (man_slot_number false m) x a ms h.0),
  IsInSlots-kept x a ms h.1,
)

-- the least number of men in the order of the slots of a class is that of their position
pub least_number_is : (c : Class) (p : Position) (men : List Man) (side : Side) (r : Option ℕ) → IsValid p → IsPermutation p.men men
    → map slot_filled men ≡ slots_of c → IsInSlots false men → p.to_move ≡ side
    → r ≡ canonical_number (slots_have_pawn (slots_of c)) side false men → (n : ℕ) × (r ≡ Some n) × IsLeastNumber p n
least_number_is c p men side r valid same filled in_slots to_move e =
    let slots = slots_of c in
    let pawns = slots_have_pawn slots in
    let unswapped : is_swapped p.men ≡ false = ap (λ k. is_exchanged k) (lists-filled c p.men men same filled) ∙ class_in_order c in
    let fills : IsFilling false p.men men = record { each_once = same; in_slots = in_slots } in
    let with_pawn : has_pawn p.men ≡ pawns = has_pawn-slots p.men men slots same filled in
    least_is p men r valid (subst (λ w. IsFilling w p.men men) (sym unswapped) fills)
    (e ∙ as_is (is_swapped p.men) (has_pawn p.men) pawns p.to_move side men unswapped with_pawn to_move)
  where
    as_is : (w h g : Bool) (y z : Side) (men : List Man) → w ≡ false → h ≡ g → y ≡ z
        → canonical_number g z false men ≡ canonical_number h (turned_side w y) w men
    as_is w h g y z men e f k = rw (e, f, k) refl

-- and its index, if no capture in passing is legal
pub least_index : (c : Class) (p : Position) (men : List Man) (side : Side) (r : Option ℕ) → IsValid p → IsPermutation p.men men
    → map slot_filled men ≡ slots_of c → IsInSlots false men → p.to_move ≡ side → has_legal_en_passant p ≡ false
    → r ≡ canonical_number (slots_have_pawn (slots_of c)) side false men → r ≡ Some (index_of p)
least_index c p men side r valid same filled in_slots to_move dead e =
    let found = least_number_is c p men side r valid same filled in_slots to_move e in
    found.1 ∙ ap (λ (k : ℕ). Some k)
    (index_of-only p found.0 valid (record { number = found.0; least = found.2; is = ap (λ w. with_bit w found.0) (sym dead) }))

-- the least number of the men that a number encodes, one of them on another square, is the index of their position
pub moved_number : (c : Class) (n x a : ℕ) (p : Position) (r : Option ℕ) → IsMoved c n x a p
    → r ≡ canonical_number (slots_have_pawn (slots_of c)) (other_side (decoded_side (slots_of c) (without_bit n))) false
    (map (moved_if x a) (decoded_men (slots_of c) (without_bit n))) → r ≡ Some (index_of p)
moved_number c n x a p r t e =
    let slots = slots_of c in
    let b = without_bit n in
    let decoded_as = decoded_men slots b in
    let men = map (moved_if x a) decoded_as in
    let s = AreSlots-class c in
    let pawns = slots_have_pawn slots in
    least_index c p men (other_side (decoded_side slots b)) r t.valid t.men (slots_kept x a decoded_as ∙ filled-men_of pawns slots b s)
    (IsInSlots-kept x a decoded_as (IsInSlots-men_of pawns slots b s)) t.to_move t.dead e

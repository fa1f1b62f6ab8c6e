-- The least number of the men that are read off is the index of their position.
use Rattle.std.proofs.Common.{◌≡◌, ℕ, Bool, true, false, Option, Some, refl, sym, ◌∙◌, ap, subst}
use Rattle.std.specs.List.Sorted.{IsPermutation}
use Rattle.std.proofs.lemmas.Bool.{false≢true}
use Rattle.std.proofs.lemmas.List.Sorted.{IsPermutation-sym, IsPermutation-trans}
use Rattle.study_board.specs.Position.{Position}
use Rattle.study_board.specs.Symmetry.{turned_side}
use Rattle.study_moves.specs.EnPassant.{has_legal_en_passant}
use Rattle.study_material.specs.declared.class.Class.{Class}
use Rattle.study_material.specs.Lists.{is_exchanged, is_swapped}
use Rattle.study_values.specs.Canonical.{canonical_number}
use Rattle.study_values.specs.Slots.{IsFilling}
use Rattle.study_values.specs.Number.{has_pawn, with_bit, has_bit, without_bit, IsLeastNumber}
use Rattle.study_index.specs.Decoded.{slots_of, slots_have_pawn, decoded_men, decoded_side, passed_behind, is_cell, IsPlaced, HasLeast, IsDecoded}
use Rattle.study_index.proofs.ClassSlots.{AreSlots-class, class_in_order}
use Rattle.study_index.proofs.ListOrder.{lists-filled}
use Rattle.study_index.proofs.TurnedNumbers.{least_is}
use Rattle.study_index.proofs.NumbersReadOff.{IsLeastNumber-unique, IsOfMen-decoded, decoded, same_position, filled-men_of, has_pawn-slots, IsInSlots-men_of}
use Rattle.study_index.proofs.WithBit.{HasParts-from}

-- men of a class in the order of its slots have a least number
placed_least : (c : Class) (n : ℕ) (o : Option ℕ) (p : Position) → IsPlaced (decoded_men (slots_of c) n) (decoded_side (slots_of c) n) o p
    → (m : ℕ) × HasLeast (slots_have_pawn (slots_of c)) (decoded_side (slots_of c) n) m (decoded_men (slots_of c) n) × IsLeastNumber p m
placed_least c n o p l =
    let men = decoded_men (slots_of c) n in
    let pawns = slots_have_pawn (slots_of c) in
    let a = AreSlots-class c in
    let back : IsPermutation p.men men = IsPermutation-sym men p.men l.same_men in
    let filled_so = filled-men_of pawns (slots_of c) n a in
    let unswapped : is_swapped p.men ≡ false = ap (λ k. is_exchanged k) (lists-filled c p.men men back filled_so) ∙ class_in_order c in
    let fills : IsFilling false p.men men = record { each_once = back; in_slots = IsInSlots-men_of pawns (slots_of c) n a } in
    let same : has_pawn p.men ≡ pawns = has_pawn-slots p.men men (slots_of c) back filled_so in
    least_is p men (canonical_number pawns (decoded_side (slots_of c) n) false men) l.valid
    (subst (λ b. IsFilling b p.men men) (sym unswapped) fills)
    (as_is (is_swapped p.men) (has_pawn p.men) unswapped same l.same_side)
  where
    as_is : (b h : Bool) → b ≡ false → h ≡ slots_have_pawn (slots_of c) → p.to_move ≡ decoded_side (slots_of c) n
        → canonical_number (slots_have_pawn (slots_of c)) (decoded_side (slots_of c) n) false (decoded_men (slots_of c) n)
        ≡ canonical_number h (turned_side b p.to_move) b (decoded_men (slots_of c) n)
    as_is b h e f g = rw (e, f, g) refl

the_same : (m n : ℕ) (o : Option ℕ) → o ≡ Some m → o ≡ Some n → m ≡ n
the_same m n o e f = (let s : Some m ≡ Some n = sym e ∙ f in cc)

-- the position of the men, the side and the passed square that a number encodes
abbrev pub IsEncodedBy : Class → ℕ → Position → Type 0
IsEncodedBy c n p =
    IsPlaced (decoded_men (slots_of c) (without_bit n)) (decoded_side (slots_of c) (without_bit n))
    (passed_behind (has_bit n) (decoded_side (slots_of c) (without_bit n)) (decoded_men (slots_of c) (without_bit n))) p

-- the number without its bit is the least of the men that it encodes
abbrev pub IsLeastDecoded : Class → ℕ → Type 0
IsLeastDecoded c n = HasLeast (slots_have_pawn (slots_of c)) (decoded_side (slots_of c) (without_bit n)) (without_bit n)
    (decoded_men (slots_of c) (without_bit n))

-- men whose least number it is are decoded, if the bit agrees with whether a capture in passing is legal
pub read_decoded : (c : Class) (n : ℕ) (p : Position) → is_cell (slots_of c) (without_bit n) ≡ true → IsEncodedBy c n p
    → IsLeastDecoded c n → n ≡ with_bit (has_legal_en_passant p) (without_bit n) → IsDecoded c n p
read_decoded c n p cell l h e =
    let r = placed_least c (without_bit n) _ p l in
    decoded (slots_of c) n p (AreSlots-class c) cell l
    (record { number = without_bit n; least = subst (λ k. IsLeastNumber p k) (the_same r.0 (without_bit n) _ r.1 h) r.2; is = e })

pub encoded_by : (c : Class) (n : ℕ) (q : Position) → IsDecoded c n q → IsEncodedBy c n q
encoded_by c n q d =
    let o = IsOfMen-decoded (slots_of c) n q (AreSlots-class c) d in
    record { valid = d.valid; same_men = o.same; same_side = o.move; same_passed = o.passed }

-- if the number is not the least, nothing is decoded
pub not_least : (c : Class) (n : ℕ) → (IsLeastDecoded c n → ⊥) → (q : Position) → IsDecoded c n q → ⊥
not_least c n h q d =
    let r = placed_least c (without_bit n) _ q (encoded_by c n q d) in
    let i = HasParts-from q n d.valid d.index in
    h
    (subst (λ k. HasLeast (slots_have_pawn (slots_of c)) (decoded_side (slots_of c) (without_bit n)) k
    (decoded_men (slots_of c) (without_bit n))) (IsLeastNumber-unique q r.0 (without_bit n) r.2 i.least) r.1)

-- if the bit is set and no capture in passing is legal, nothing is decoded
pub not_passing : (c : Class) (n : ℕ) (p : Position) → IsEncodedBy c n p → has_bit n ≡ true → has_legal_en_passant p ≡ false → (q : Position)
    → IsDecoded c n q → ⊥
not_passing c n p l bit dead q d =
    let k = encoded_by c n q d in
    let men = decoded_men (slots_of c) (without_bit n) in
    let same : p ≡ q =
    same_position p q l.valid d.valid
    (IsPermutation-trans p.men men q.men (IsPermutation-sym men p.men l.same_men) k.same_men)
    (l.same_side ∙ sym k.same_side) (l.same_passed ∙ sym k.same_passed) in
    false≢true (sym dead ∙ ap (λ r. has_legal_en_passant r) same ∙ sym (HasParts-from q n d.valid d.index).bit ∙ bit)

use Rattle.std.proofs.Common.{◌≡◌, ℕ, ◌+◌, ◌*◌, ◌<◌, ◌-◌, List, length, slice_index_or, refl, sym, ◌∙◌, subst, arith}
use Rattle.study_board.specs.declared.men.Man.{Man}
use Rattle.study_index.specs.declared.decoding.Slot.{Slot}
use Rattle.study_values.specs.Number.{without_bit}
use Rattle.study_index.specs.Decoded.{slots_of, decoded_men}
use Rattle.study_index.proofs.RowDepartures.{IsRowSum-terms, IsLeastOfRowSum-terms, IsRowSumOfKing-terms, stands_in_row}
use Rattle.study_index.proofs.RowDepartures.{found_row_sum, found_row_image, found_row_king}
use Rattle.study_index.proofs.row_departure.way_from.Goals as goal

pub returns-then-slot-eq0 : goal.returns-then-slot-eq0
returns-then-slot-eq0 c =
    let stands : (d : Man) → (slice_index_or (decoded_men (slots_of c.args.class) (without_bit (64 * c.args.row))) 0 d).at ≡ c.args.from =
    subst (λ (ss : List Slot). (d : Man) → (slice_index_or (decoded_men ss (without_bit (64 * c.args.row))) 0 d).at ≡ c.args.from) c.slots-slots.ensures
    (subst (λ (i : ℕ). (d : Man) → (slice_index_or (decoded_men c.slots-slots.result.now (without_bit (64 * c.args.row))) i d).at ≡ c.args.from)
    (let z : c.args.slot ≡ 0 = c.if-slot-eq0.true in z) (c.is_slot_square.ensures c.if-not-is_slot_square.false).1) in
    found_row_king c.args.class c.args.row c.args.from c.terms_of_king-terms.result
    (λ unlike. IsRowSumOfKing-terms c.args.class c.args.row c.args.from c.terms_of_king-terms.result (omega arith) unlike stands
    (c.terms_of_king-terms.ensures.rest ∙ rw (c.head.ensures, c.class_has_pawn-pawns.ensures, c.slots-slots.ensures) refl)
    (c.terms_of_king-terms.ensures.weight ∙ rw c.slots-slots.ensures refl))
    (λ y l. stands_in_row c.args.class c.args.row 0 c.args.from y l (omega arith) stands)

pub returns-then-is_canonical_as_is : goal.returns-then-is_canonical_as_is
returns-then-is_canonical_as_is c =
    let is = c.slots-slots.ensures in
    let before : c.args.slot < length c.slots-slots.result.now - 1 = omega (arith, c.if-slot-count.false) in
    found_row_sum c.args.class c.args.row c.args.from c.terms_of-terms.result
    (IsRowSum-terms c.args.class c.args.row c.args.slot c.args.from c.terms_of-terms.result c.requires (omega (arith, c.if-slot-eq0.false))
    (subst (λ (ss : List Slot). c.args.slot + 1 < length ss) is (omega (arith, before)))
    (sym c.is_canonical_as_is.ensures ∙ c.if-is_canonical_as_is.true)
    (subst (λ (ss : List Slot). (d : Man) → (slice_index_or (decoded_men ss (without_bit (64 * c.args.row))) c.args.slot d).at ≡ c.args.from) is
    (c.is_slot_square.ensures c.if-not-is_slot_square.false).1)
    (c.terms_of-terms.ensures.rest ∙ rw (c.class_has_pawn-pawns.ensures, is) refl, c.terms_of-terms.ensures.weight ∙ rw is refl))

pub returns-else-is_canonical_as_is : goal.returns-else-is_canonical_as_is
returns-else-is_canonical_as_is c =
    let is = c.slots-slots.ensures in
    let before : c.args.slot < length c.slots-slots.result.now - 1 = omega (arith, c.if-slot-count.false) in
    found_row_image c.args.class c.args.row c.args.from c.terms_of-terms.result
    (IsLeastOfRowSum-terms c.args.class c.args.row c.args.slot c.args.from c.terms_of-terms.result c.requires (omega (arith, c.if-slot-eq0.false))
    (subst (λ (ss : List Slot). c.args.slot + 1 < length ss) is (omega (arith, before)))
    (subst (λ (ss : List Slot). (d : Man) → (slice_index_or (decoded_men ss (without_bit (64 * c.args.row))) c.args.slot d).at ≡ c.args.from) is
    (c.is_slot_square.ensures c.if-not-is_slot_square.false).1)
    (c.terms_of-terms.ensures.rest ∙ rw (c.class_has_pawn-pawns.ensures, is) refl, c.terms_of-terms.ensures.weight ∙ rw is refl))

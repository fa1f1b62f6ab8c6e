use Rattle.std.proofs.Common.{◌≡◌, ℕ, List, slice_index_or, subst}
use Rattle.study_board.specs.declared.men.Man.{Man}
use Rattle.study_index.specs.declared.decoding.Slot.{Slot}
use Rattle.study_values.specs.Number.{without_bit}
use Rattle.study_index.specs.Decoded.{decoded_men}
use Rattle.study_index.proofs.Departures.{found_king}
use Rattle.study_index.proofs.departure.way_from.Goals as goal

pub way_of-requires-clause-stands : goal.way_of-requires-clause-stands
way_of-requires-clause-stands c =
    subst (λ (ss : List Slot). (d : Man) → (slice_index_or (decoded_men ss (without_bit c.args.number)) c.args.slot d).at ≡ c.args.from)
    c.slots-slots.ensures (c.is_slot_square.ensures c.if-not-is_slot_square.false).1

pub returns-then-slot-eq0 : goal.returns-then-slot-eq0
returns-then-slot-eq0 c =
    found_king c.args.class c.args.number c.args.from
    (subst (λ (ss : List Slot). (d : Man) → (slice_index_or (decoded_men ss (without_bit c.args.number)) 0 d).at ≡ c.args.from) c.slots-slots.ensures
    (subst (λ (i : ℕ). (d : Man) → (slice_index_or (decoded_men c.slots-slots.result.now (without_bit c.args.number)) i d).at ≡ c.args.from)
    (let z : c.args.slot ≡ 0 = c.if-slot-eq0.true in z) (c.is_slot_square.ensures c.if-not-is_slot_square.false).1))

use Rattle.std.proofs.Common.{◌≡◌, ◌<◌, List, Bool, false, length, slice_index_or, map, sym, ◌∙◌, ap, subst}
use Rattle.study_board.specs.declared.men.Man.{Man}
use Rattle.study_board.specs.Men.{other_side, moved_if}
use Rattle.study_index.specs.declared.decoding.Slot.{Slot}
use Rattle.study_values.specs.Number.{without_bit}
use Rattle.study_values.specs.Canonical.{canonical_number}
use Rattle.study_index.specs.Decoded.{slots_of, slots_have_pawn, decoded_men, decoded_side}
use Rattle.study_index.proofs.MovedNumbers.{moved_number}
use Rattle.study_index.proofs.AddedNumbers.{IsStepped-moved}
use Rattle.study_index.proofs.moved_index.index_after_move.Goals as goal

pub returns-in-Some : goal.returns-in-Some
returns-in-Some c = λ p t.
    let a = c.args in
    let is = c.slots-slots.ensures in
    let there = c.in-Some.ensures in
    let few = subst (λ (ss : List Slot). c.in-Some.slot < length ss) is there.0 in
    let stands = subst (λ (ss : List Slot). (d : Man) → (slice_index_or (decoded_men ss (without_bit a.number)) c.in-Some.slot d).at ≡ a.from) is there.1 in
    c.index_after_step.ensures p (IsStepped-moved a.class a.number c.in-Some.slot a.from a.to p few stands t)

pub returns-in-Some-least_moved : goal.returns-in-Some-least_moved
returns-in-Some-least_moved c = λ p t.
    let n = without_bit c.args.number in
    let e =
    c.least_moved.ensures
    ∙ ap (λ (w : Bool). canonical_number w (other_side (decoded_side c.slots-slots.result.now n)) false
    (map (moved_if c.args.from c.args.to) (decoded_men c.slots-slots.result.now n)))
    c.class_has_pawn-pawns.ensures
    ∙ ap (λ (ss : List Slot). canonical_number (slots_have_pawn (slots_of c.args.class)) (other_side (decoded_side ss n)) false
    (map (moved_if c.args.from c.args.to) (decoded_men ss n)))
    c.slots-slots.ensures in
    let is = sym c.in-Some-least_moved.is ∙ moved_number c.args.class c.args.number c.args.from c.args.to p c.least_moved.result t e in
    cc

pub returns-in-None : goal.returns-in-None
returns-in-None c = λ p t.
    let n = without_bit c.args.number in
    let e =
    c.least_moved.ensures
    ∙ ap (λ (w : Bool). canonical_number w (other_side (decoded_side c.slots-slots.result.now n)) false
    (map (moved_if c.args.from c.args.to) (decoded_men c.slots-slots.result.now n)))
    c.class_has_pawn-pawns.ensures
    ∙ ap (λ (ss : List Slot). canonical_number (slots_have_pawn (slots_of c.args.class)) (other_side (decoded_side ss n)) false
    (map (moved_if c.args.from c.args.to) (decoded_men ss n)))
    c.slots-slots.ensures in
    absurd (let is = sym c.in-None.is ∙ moved_number c.args.class c.args.number c.args.from c.args.to p c.least_moved.result t e in cc)

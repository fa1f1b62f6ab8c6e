use Rattle.std.proofs.Common.{◌≡◌, ℕ, ◌≤◌, Bool, List, refl, sym, ◌∙◌, subst, arith}
use Rattle.study_index.specs.declared.decoding.Slot.{Slot}
use Rattle.study_values.specs.Number.{without_bit}
use Rattle.study_index.specs.Stepped.{IsStepped}
use Rattle.study_index.proofs.SteppedNumbers.{stepped_index}
use Rattle.study_index.proofs.KingNumbers.{number_so, king_index, no_number}
use Rattle.study_index.proofs.moved_index.index_after_step.Goals as goal

same_number : (v w : Bool) (ss ts : List Slot) (n a : ℕ) → v ≡ w → ss ≡ ts → number_so v ss n a ≡ number_so w ts n a
same_number v w ss ts n a e f = rw (e, f) refl

pub returns-in-Some : goal.returns-in-Some
returns-in-Some c = λ p t.
    let first = subst (λ (k : ℕ). IsStepped c.args.class c.args.number k c.args.to p) c.if-slot-eq0.true t in
    rw (c.least_image.ensures, c.has_like_men-like.ensures, c.class_has_pawn-pawns.ensures, c.slots-slots.ensures)
    (king_index c.args.class c.args.number c.args.to p c.in-Some.turned first
    (sym c.in-Some.is ∙ c.number_with_king_on.ensures.value
    ∙ same_number _ _ _ _ (without_bit c.args.number) c.args.to c.class_has_pawn-pawns.ensures c.slots-slots.ensures))

pub returns-in-None : goal.returns-in-None
returns-in-None c = λ p t.
    let first = subst (λ (k : ℕ). IsStepped c.args.class c.args.number k c.args.to p) c.if-slot-eq0.true t in
    absurd (no_number c.args.class c.args.number c.args.to p first
    (sym c.in-None.is ∙ c.number_with_king_on.ensures.value
    ∙ same_number _ _ _ _ (without_bit c.args.number) c.args.to c.class_has_pawn-pawns.ensures c.slots-slots.ensures))

pub returns-else-slot-eq0 : goal.returns-else-slot-eq0
returns-else-slot-eq0 c = λ p t.
    let one : 1 ≤ c.args.slot = omega (arith, c.if-slot-eq0.false) in
    rw (
      c.least_image-else-slot-eq0.ensures,
      c.number_after_step-moved.ensures.value,
      c.has_like_men-like.ensures,
      c.class_has_pawn-pawns.ensures,
      c.slots-slots.ensures,
    )
    (stepped_index c.args.class c.args.number c.args.slot c.args.to p c.requires.cell one c.requires.slot t)

use Rattle.std.proofs.Common.{sym}
use Rattle.study_index.proofs.AddedNumbers.{IsStepped-moved}
use Rattle.study_index.proofs.Departures.{found_image, found_sum}
use Rattle.study_index.proofs.SteppedNumbers.{added_image, added_sum}
use Rattle.study_index.proofs.departure.way_of.Goals as goal

pub returns-then-is_canonical_as_is : goal.returns-then-is_canonical_as_is
returns-then-is_canonical_as_is c =
    found_sum c.args.class c.args.number c.args.from _
    (λ a p on t.
    rw (
      c.saturating_sub.ensures,
      c.with_side_swapped.ensures.value,
      c.square_of_slot.ensures.value,
      c.square_weight-weight.ensures.value,
      c.class_has_pawn-pawns.ensures,
      c.slots-slots.ensures,
    )
    (added_sum c.args.class c.args.number c.args.slot a p c.requires.cell c.requires.after c.requires.slot on (sym c.if-is_canonical_as_is.ensures)
    (IsStepped-moved c.args.class c.args.number c.args.slot c.args.from a p c.requires.slot c.requires.stands t)))

pub returns-else-is_canonical_as_is : goal.returns-else-is_canonical_as_is
returns-else-is_canonical_as_is c =
    found_image c.args.class c.args.number c.args.from _
    (λ a p on t.
    rw (
      c.saturating_sub.ensures,
      c.with_side_swapped.ensures.value,
      c.square_of_slot.ensures.value,
      c.square_weight-weight.ensures.value,
      c.class_has_pawn-pawns.ensures,
      c.slots-slots.ensures,
    )
    (added_image c.args.class c.args.number c.args.slot a p c.requires.cell c.requires.after c.requires.slot
    (IsStepped-moved c.args.class c.args.number c.args.slot c.args.from a p c.requires.slot c.requires.stands t)))

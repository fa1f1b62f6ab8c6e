use Rattle.std.proofs.Common.{ℕ, ◌/◌, refl, sym, ◌∙◌, subst}
use Rattle.study_index.specs.RowDeparture.{IsRowOfLast}
use Rattle.study_index.proofs.RowDepartures.{IsRowOfLast-turned}
use Rattle.study_index.proofs.row_departure.row_of_last_man.Goals as goal

pub returns-then-is_canonical_as_is-clause-numbers : goal.returns-then-is_canonical_as_is-clause-numbers
returns-then-is_canonical_as_is-clause-numbers c =
    subst (λ (k : ℕ). IsRowOfLast c.args.class c.args.row (k / 64))
    (sym (c.with_side_swapped.ensures.value ∙ rw (c.class_has_pawn-pawns.ensures, c.slots-slots.ensures) refl))
    (IsRowOfLast-turned c.args.class c.args.row (sym c.is_canonical_as_is.ensures ∙ c.if-is_canonical_as_is.true) c.requires)

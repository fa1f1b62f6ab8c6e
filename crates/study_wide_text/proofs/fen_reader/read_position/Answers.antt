use Rattle.std.proofs.Common.{sym, refl, ◌∙◌, subst, List}
use Rattle.study_board.specs.declared.men.Man.{Man}
use Rattle.study_board.specs.Position.{IsAscending}
use Rattle.study_notation.proofs.PlacementFaults.{IsAscending-placement}
use Rattle.study_wide_text.proofs.fen_reader.read_position.Goals as goal

pub placement_fault-requires : goal.placement_fault-requires
placement_fault-requires c = subst (λ (l : List Man). IsAscending l) (sym c.as_slice.ensures.value)
    (IsAscending-placement c.args.fields.now.placement.now c.in-Some.men.items (sym c.read_placement.ensures ∙ rw c.in-Some.is refl))

pub position_of-requires-clause-ordered : goal.position_of-requires-clause-ordered
position_of-requires-clause-ordered c = subst (λ (l : List Man). IsAscending l) (sym c.as_slice-4.ensures.value)
    (IsAscending-placement c.args.fields.now.placement.now c.in-Some.men.items (sym c.read_placement.ensures ∙ rw c.in-Some.is refl))

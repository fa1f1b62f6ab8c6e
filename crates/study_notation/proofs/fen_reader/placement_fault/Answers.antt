use Rattle.std.proofs.Common.{sym, ap, ◌∙◌}
use Rattle.study_notation.proofs.PlacementFaults.{reported, placement_fault-reported}
use Rattle.study_notation.proofs.fen_reader.placement_fault.Goals as goal

pub returns-in-Some : goal.returns-in-Some
returns-in-Some c = c.fen_fault_of_men.ensures ∙ ap reported (sym c.in-Some.is ∙ c.first_fault.ensures)
    ∙ sym (placement_fault-reported c.args.men.now c.requires)

pub returns-in-None : goal.returns-in-None
returns-in-None c = ap reported (sym c.in-None.is ∙ c.first_fault.ensures) ∙ sym (placement_fault-reported c.args.men.now c.requires)

use Rattle.std.proofs.Common.{sym, ap, ◌∙◌, ◌≡◌, refl, true, false, List, Some, None}
use Rattle.study_board.specs.declared.men.Man.{Man}
use Rattle.study_board.specs.declared.men.Side.TheVariants.{White}
use Rattle.study_board.specs.Position.{IsAscending}
use Rattle.study_board.specs.Sound.{fault_among}
use Rattle.study_notation.specs.declared.fault.FenFault.TheVariants.{TooManyMen}
use Rattle.study_notation.proofs.PlacementFaults.{reported}
use Rattle.study_wide.specs.Wide.{is_crowded}
use Rattle.study_wide_text.specs.Fen.{wide_placement_fault}
use Rattle.study_wide_text.proofs.WideFen.{placed_fault}
use Rattle.study_wide_text.proofs.fen_reader.placement_fault.Goals as goal

crowded : (men : List Man) → IsAscending men → is_crowded men ≡ true → Some TooManyMen ≡ wide_placement_fault men
crowded men h e = sym (placed_fault men h ∙ rw e refl)

not_crowded : (men : List Man) → IsAscending men → is_crowded men ≡ false → reported (fault_among men White None) ≡ wide_placement_fault men
not_crowded men h e = sym (placed_fault men h ∙ rw e refl)

pub returns-then-is_crowded : goal.returns-then-is_crowded
returns-then-is_crowded c = crowded c.args.men.now c.requires (sym c.is_crowded.ensures ∙ c.if-is_crowded.true)

pub returns-in-Some : goal.returns-in-Some
returns-in-Some c = c.fen_fault_of_men.ensures ∙ ap reported (sym c.in-Some.is ∙ c.fault_among.ensures)
    ∙ not_crowded c.args.men.now c.requires (sym c.is_crowded.ensures ∙ c.if-is_crowded.false)

pub returns-in-None : goal.returns-in-None
returns-in-None c = ap reported (sym c.in-None.is ∙ c.fault_among.ensures)
    ∙ not_crowded c.args.men.now c.requires (sym c.is_crowded.ensures ∙ c.if-is_crowded.false)

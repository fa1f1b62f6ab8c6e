use Rattle.std.proofs.Common.{◌∙◌}
use Rattle.study_board.proofs.SquareLists.{none-of-empty}
use Rattle.study_retro.proofs.RowSets.{set-none, set-more}
use Rattle.study_retro.proofs.SquaresKept.{first-as}
use Rattle.study_retro.proofs.rows.predecessors.write_row.Goals as goal

pub loop-square-init : goal.loop-square-init
loop-square-init g c = record { size = c.requires.cells; set = set-none _ _ _ _ _ _ c.into_iter-square-iterator.ensures.into_iter_gives }

pub write_with_twin-requires-clause-number : goal.write_with_twin-requires-clause-number
write_with_twin-requires-clause-number g c =
    let f = first-as _ _ _ c.from.result c.in-Some.ensures.steps (c.from.ensures ∙ c.number.ensures.value) in
    (c.requires.numbers c.from.result f.inside (c.loop-square.invariant.set.among c.from.result f.inside f.there)).0

pub write_with_twin-requires-clause-plain : goal.write_with_twin-requires-clause-plain
write_with_twin-requires-clause-plain g c =
    let f = first-as _ _ _ c.from.result c.in-Some.ensures.steps (c.from.ensures ∙ c.number.ensures.value) in
    (c.requires.numbers c.from.result f.inside (c.loop-square.invariant.set.among c.from.result f.inside f.there)).1

pub loop-square-preserved : goal.loop-square-preserved
loop-square-preserved g c =
    let f = first-as _ _ _ c.from.result c.in-Some.ensures.steps (c.from.ensures ∙ c.number.ensures.value) in
    let inv = c.loop-square.invariant in
    record {
      size = c.write_with_twin.ensures.size ∙ inv.size;
      set = set-more _ _ _ _ _ _ _ f c.requires.cell _ _ _ inv.set c.write_with_twin.ensures.rise c.write_with_twin.ensures.done;
    }

pub returns-clause-done : goal.returns-clause-done
returns-clause-done g c = λ n y on e w. c.loop-square.invariant.set.done n y on e (none-of-empty _ c.in-None.ensures.steps.0 y on) w

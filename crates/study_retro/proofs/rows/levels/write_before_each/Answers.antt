use Rattle.std.proofs.Common.{◌∙◌}
use Rattle.study_board.proofs.SquareLists.{none-of-empty}
use Rattle.study_retro.proofs.RowSets.{set-more, set-none}
use Rattle.study_retro.proofs.SquaresKept.{first-as}
use Rattle.study_retro.proofs.rows.levels.write_before_each.Goals as goal

pub loop-square-init : goal.loop-square-init
loop-square-init g c = record { size = c.requires.cells; set = set-none _ _ _ _ _ _ c.into_iter-square-iterator.ensures.into_iter_gives }

pub write_before-requires-clause-numbered : goal.write_before-requires-clause-numbered
write_before-requires-clause-numbered g c =
    let f = first-as _ _ _ c.from.result c.in-Some.ensures.steps (c.from.ensures ∙ c.number.ensures.value) in
    c.requires.numbered c.from.result f.inside (c.loop-square.invariant.set.among c.from.result f.inside f.there)

pub loop-square-preserved : goal.loop-square-preserved
loop-square-preserved g c =
    let f = first-as _ _ _ c.from.result c.in-Some.ensures.steps (c.from.ensures ∙ c.number.ensures.value) in
    let inv = c.loop-square.invariant in
    record {
      size = c.write_before.ensures.size ∙ inv.size;
      set = set-more _ _ _ _ _ _ _ f c.requires.cell _ _ _ inv.set c.write_before.ensures.rise c.write_before.ensures.done;
    }

pub returns-clause-done : goal.returns-clause-done
returns-clause-done g c = λ n y on e b. c.loop-square.invariant.set.done n y on e (none-of-empty _ c.in-None.ensures.steps.0 y on) b

use Rattle.std.proofs.Common.{◌+◌, ◌*◌, ◌<◌, refl, ◌∙◌, arith}
use Rattle.study_board.proofs.SquareLists.{first-of, none-of-empty}
use Rattle.study_levels.specs.Numbered.{LeadsIntoRow}
use Rattle.study_retro.proofs.BackLemmas.{set-added}
use Rattle.study_retro.proofs.RowSets.{added-set, added-where, set-more, set-none}
use Rattle.study_retro.proofs.SquaresKept.{first-as}
use Rattle.study_retro.proofs.rows.levels.mark_one_by_one.Goals as goal

pub loop-square-init : goal.loop-square-init
loop-square-init g c = record { size = c.requires.cells; set = set-none _ _ _ _ _ _ c.into_iter-square-iterator.ensures.into_iter_gives }

pub overflow_mul-number : goal.overflow_mul-number
overflow_mul-number g c =
    let f = first-of _ _ _ c.in-Some.ensures.steps in
    let h = c.requires.numbered c.in-Some.square f.inside (c.loop-square.invariant.set.among c.in-Some.square f.inside f.there) in
    let low = c.requires.laws.below (64 * c.args.row + c.in-Some.square) h.0 h.1 in
    omega (arith, low)

pub overflow_add-number : goal.overflow_add-number
overflow_add-number g c =
    let f = first-as _ _ _ c.from.result c.in-Some.ensures.steps (c.from.ensures ∙ c.number.ensures.value) in
    let h = c.requires.numbered c.from.result f.inside (c.loop-square.invariant.set.among c.from.result f.inside f.there) in
    let low = c.requires.laws.below (64 * c.args.row + c.from.result) h.0 h.1 in
    omega (arith, low)

pub mark_by_moves-requires-clause-number : goal.mark_by_moves-requires-clause-number
mark_by_moves-requires-clause-number g c =
    let f = first-as _ _ _ c.from.result c.in-Some.ensures.steps (c.from.ensures ∙ c.number.ensures.value) in
    let h = c.requires.numbered c.from.result f.inside (c.loop-square.invariant.set.among c.from.result f.inside f.there) in
    c.requires.laws.below (64 * c.args.row + c.from.result) h.0 h.1

pub loop-square-preserved : goal.loop-square-preserved
loop-square-preserved g c =
    let f = first-as _ _ _ c.from.result c.in-Some.ensures.steps (c.from.ensures ∙ c.number.ensures.value) in
    let new = c.mark_by_moves.new.cells in
    let k = c.args.level + 2 in
    let pos : 0 < k = omega arith in
    record {
      size = c.mark_by_moves.ensures.size ∙ c.loop-square.invariant.size;
      set = set-more _ _ _ _ _ _ _ f pos _ _ _ c.loop-square.invariant.set (added-set _ c.args.level _ new c.mark_by_moves.ensures.rise)
          (λ n w. added-where k new n (c.mark_by_moves.ensures.done n w));
    }

pub returns-clause-rise : goal.returns-clause-rise
returns-clause-rise g c =
    set-added (LeadsIntoRow (g.G.Game.numbered c.args.game.now) c.args.row c.args.decided) c.args.level (c.args.level + 2)
    c.args.cells.now c.loop-square.cells refl c.loop-square.invariant.set.rise

pub returns-clause-done : goal.returns-clause-done
returns-clause-done g c = λ i y on e t.
    let h = c.loop-square.invariant.set.done i y on e (none-of-empty _ c.in-None.ensures.steps.0 y on) t in
    h.0

use Rattle.std.proofs.Common.{◌+◌, ℕ, arith, ap, refl, ◌∙◌}
use Rattle.study_board.specs.Sets.{has}
use Rattle.study_board.proofs.SquareLists.{first-of, none-of-empty}
use Rattle.study_moves.proofs.LastMoves.{gathering_begins, gathered_more, gathering_ends, few_end, next_below}
use Rattle.study_moves.proofs.unmove.add_unmoves_of.Goals as goal

pub loop-origin-init : goal.loop-origin-init
loop-origin-init c =
    (0, gathering_begins c.args.man.now c.into_iter-origin-iterator.result _ c.args.list.now.items c.requires.once c.requires.apart)

pub push-requires : goal.push-requires
push-requires c =
    let g = c.loop-origin.invariant.1 in
    let f = first-of _ _ _ c.in-Some.ensures.steps in
    let low = next_below c.args.man.now c.into_iter-origin-iterator.result _ _ _ _ _ _ _ g f.inside f.there in
    (omega arith, omega (arith, g.few, low, f.inside, c.requires.room))

pub loop-origin-preserved : goal.loop-origin-preserved
loop-origin-preserved c =
    let set = c.into_iter-origin-iterator.result in
    let f = first-of _ _ _ c.in-Some.ensures.steps in
    (c.in-Some.origin + 1, gathered_more c.args.man.now set _ _ _ _ _ _ _ _ _ c.loop-origin.invariant.1 f refl c.push.ensures.items)

pub returns-clause-more : goal.returns-clause-more
returns-clause-more c = gathering_ends c.args.man.now c.into_iter-origin-iterator.result c.args.q.now
    (λ a la. ap (λ (set : ℕ). has set a) c.into_iter-origin-iterator.ensures.into_iter_gives
    ∙ c.unmove_origins-origin-items.ensures a la ∙ rw (c.men.ensures.value, c.to_move.ensures) refl) _ _ _ _ _ _ c.loop-origin.invariant.1
    (none-of-empty _ c.in-None.ensures.steps.0)

pub returns-clause-few : goal.returns-clause-few
returns-clause-few c = few_end c.args.man.now c.into_iter-origin-iterator.result _ _ _ _ _ _ c.loop-origin.invariant.1

pub returns-clause-once : goal.returns-clause-once
returns-clause-once c = c.loop-origin.invariant.1.once

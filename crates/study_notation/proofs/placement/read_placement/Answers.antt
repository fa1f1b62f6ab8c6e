use Rattle.std.proofs.Common.{◌+◌, List, length, sym, ap, ◌∙◌, arith}
use Rattle.std.specs.List.{slice_split}
use Rattle.study_board.specs.declared.men.Man.{Man}
use Rattle.study_notation.proofs.PlacementParts.{is_stroke, placed, placed_init, placed_step, placed_end}
use Rattle.study_notation.proofs.placement.read_placement.Goals as goal

pub loop-rank-init : goal.loop-rank-init
loop-rank-init c = (
  ap (λ (ms : List Man). placed 0 ms (slice_split is_stroke c.args.text.now)) c.new-men.ensures
      ∙ placed_init c.args.text.now,
  omega (arith, ap length c.new-men.ensures),
)

pub loop-rank-preserved : goal.loop-rank-preserved
loop-rank-preserved c =
    let rank = c.loop-rank.rank in
    let part = c.in-Some.part.now in
    let said = c.read_rank-in-loop-rank.ensures in
    let good = sym said.tells ∙ c.if-not-read_rank-2.false in
    let step = placed_step rank c.loop-rank.men.items (slice_split is_stroke c.in-Some.front.now) part good in (
      ap (λ (ms : List Man). placed (rank + 1) ms (slice_split is_stroke c.in-Some.front.now))
          (said.added c.if-not-read_rank-2.false) ∙ sym step ∙ ap (placed rank c.loop-rank.men.items)
          (sym c.in-Some.ensures.found) ∙ c.loop-rank.invariant.0,
      omega (arith, said.room c.if-not-read_rank-2.false),
    )

pub returns : goal.returns
returns c = sym (placed_end c.loop-rank.rank c.loop-rank.men.items c.loop-rank.rest.now c.loop-rank-test.false) ∙ c.loop-rank.invariant.0

use Rattle.std.proofs.Common.{◌+◌, ◌++◌, List, length, get_or, ap, ◌∙◌, arith, length-append}
use Rattle.study_board.specs.declared.men.Man.{Man}
use Rattle.study_notation.specs.Fen.{squares_of, men_from}
use Rattle.study_notation.proofs.PlacementParts.{rank_goes, rank_stops, rank_done, men_more, men_done, length-men_from}
use Rattle.study_notation.proofs.placement.read_rank.Goals as goal

pub returns-in_default-clause-tells : goal.returns-in_default-clause-tells
returns-in_default-clause-tells c = rank_stops c.args.part.now c.loop-b.b-index c.loop-b.file c.loop-b-test.true c.loop-b.invariant.0 c.in_default.ensures.none

pub loop-b-preserved : goal.loop-b-preserved
loop-b-preserved c =
    let part = c.args.part.now in
    let i = c.loop-b.b-index in
    let inv = c.loop-b.invariant in
    let said = c.in-Some.ensures in
    let cells = squares_of (get_or part i 0) in (
      rank_goes part i c.loop-b.file c.in-Some.next c.loop-b-test.true inv.0 said.known said.next.0 said.next.1,
      said.added ∙ ap (λ (ms : List Man). ms ++ men_from (c.args.first + c.loop-b.file) cells) inv.1
          ∙ men_more c.args.first c.loop-b.file part i c.args.men.now.items c.loop-b-test.true inv.0.file_is,
      omega (
        arith,
        inv.2,
        ap length said.added,
        length-append c.loop-b.men.items
            (men_from (c.args.first + c.loop-b.file) cells),
        length-men_from (c.args.first + c.loop-b.file) cells,
        said.next.0,
      ),
    )

pub returns-clause-tells : goal.returns-clause-tells
returns-clause-tells c = rank_done c.args.part.now c.loop-b.b-index c.loop-b.file c.loop-b-test.false c.loop-b.invariant.0

pub returns-clause-added : goal.returns-clause-added
returns-clause-added c = λ _. c.loop-b.invariant.1 ∙ men_done c.args.part.now c.loop-b.b-index c.args.first c.args.men.now.items c.loop-b-test.false

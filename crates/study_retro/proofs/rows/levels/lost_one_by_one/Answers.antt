use Rattle.std.proofs.Common.{◌≡◌, ◌+◌, ◌*◌, ◌∙◌, arith}
use Rattle.study_board.proofs.SquareLists.{first-of, none-of-empty}
use Rattle.study_retro.proofs.SquaresKept.{first-as, kept-none, kept-with, kept-without}
use Rattle.study_retro.proofs.rows.levels.lost_one_by_one.Goals as goal

pub loop-square-init : goal.loop-square-init
loop-square-init g c = kept-none _ _ _ _ _ c.into_iter-square-iterator.ensures.into_iter_gives c.empty-lost.ensures

pub overflow_mul-number : goal.overflow_mul-number
overflow_mul-number g c =
    let f = first-of _ _ _ c.in-Some.ensures.steps in
    let h = c.requires.numbered c.in-Some.square f.inside (c.loop-square.invariant.among c.in-Some.square f.inside f.there) in
    let low = c.requires.laws.below (64 * c.args.row + c.in-Some.square) h.0 h.1 in
    omega (arith, low)

pub overflow_add-number : goal.overflow_add-number
overflow_add-number g c =
    let f = first-as _ _ _ c.from.result c.in-Some.ensures.steps (c.from.ensures ∙ c.number.ensures.value) in
    let h = c.requires.numbered c.from.result f.inside (c.loop-square.invariant.among c.from.result f.inside f.there) in
    let low = c.requires.laws.below (64 * c.args.row + c.from.result) h.0 h.1 in
    omega (arith, low)

pub is_lost_by_moves-requires-clause-number : goal.is_lost_by_moves-requires-clause-number
is_lost_by_moves-requires-clause-number g c =
    let f = first-as _ _ _ c.from.result c.in-Some.ensures.steps (c.from.ensures ∙ c.number.ensures.value) in
    let h = c.requires.numbered c.from.result f.inside (c.loop-square.invariant.among c.from.result f.inside f.there) in
    c.requires.laws.below (64 * c.args.row + c.from.result) h.0 h.1

pub loop-square-preserved-then-is_lost_by_moves : goal.loop-square-preserved-then-is_lost_by_moves
loop-square-preserved-then-is_lost_by_moves g c =
    let f = first-of _ _ _ c.in-Some.ensures.steps in
    let same : c.from.result ≡ c.in-Some.square = c.from.ensures ∙ c.number.ensures.value in
    kept-with _ _ _ _ _ c.loop-square.invariant _ _ f c.from.result same _ _ c.of.ensures c.union-lost.ensures
    (c.is_lost_by_moves.ensures.yes c.if-is_lost_by_moves.true)

pub loop-square-preserved : goal.loop-square-preserved
loop-square-preserved g c =
    let f = first-of _ _ _ c.in-Some.ensures.steps in
    let same : c.from.result ≡ c.in-Some.square = c.from.ensures ∙ c.number.ensures.value in
    kept-without _ _ _ _ _ c.loop-square.invariant _ _ f c.from.result same (c.is_lost_by_moves.ensures.no c.if-is_lost_by_moves.false)

pub returns-clause-only : goal.returns-clause-only
returns-clause-only g c = λ y on e. (c.loop-square.invariant.keeps y on e).0

pub returns-clause-yes : goal.returns-clause-yes
returns-clause-yes g c = λ y on e. (c.loop-square.invariant.keeps y on e).1

pub returns-clause-no : goal.returns-clause-no
returns-clause-no g c = λ y on e n. c.loop-square.invariant.others y on e (none-of-empty _ c.in-None.ensures.steps.0 y on) n

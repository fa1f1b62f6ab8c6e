use Rattle.std.proofs.Common.{◌≡◌, ◌∙◌}
use Rattle.study_board.proofs.SquareLists.{first-of, none-of-empty}
use Rattle.study_retro.proofs.SquaresKept.{first-as, kept-none, kept-with, kept-without}
use Rattle.study_retro.proofs.rows.quiet_moves.lost_after_quiet.Goals as goal

pub loop-square-init : goal.loop-square-init
loop-square-init g c = kept-none _ _ _ _ _ c.into_iter-square-iterator.ensures.into_iter_gives c.empty-lost.ensures

pub is_lost_after_quiet-requires-clause-numbered : goal.is_lost_after_quiet-requires-clause-numbered
is_lost_after_quiet-requires-clause-numbered g c =
    let y = c.from.result in
    let f = first-as _ _ _ y c.in-Some.ensures.steps (c.from.ensures ∙ c.number.ensures.value) in
    c.requires.numbered y f.inside (c.loop-square.invariant.among y f.inside f.there)

pub is_lost_after_quiet-requires-clause-quiet : goal.is_lost_after_quiet-requires-clause-quiet
is_lost_after_quiet-requires-clause-quiet g c = λ q at.
    let y = c.from.result in
    let f = first-as _ _ _ y c.in-Some.ensures.steps (c.from.ensures ∙ c.number.ensures.value) in
    c.requires.quiet y q f.inside (c.loop-square.invariant.among y f.inside f.there) at

pub loop-square-preserved-then-is_lost_after_quiet : goal.loop-square-preserved-then-is_lost_after_quiet
loop-square-preserved-then-is_lost_after_quiet g c =
    let f = first-of _ _ _ c.in-Some.ensures.steps in
    let same : c.from.result ≡ c.in-Some.square = c.from.ensures ∙ c.number.ensures.value in
    kept-with _ _ _ _ _ c.loop-square.invariant _ _ f c.from.result same _ _ c.of.ensures c.union-lost.ensures
    (c.is_lost_after_quiet.ensures.yes c.if-is_lost_after_quiet.true)

pub loop-square-preserved : goal.loop-square-preserved
loop-square-preserved g c =
    let f = first-of _ _ _ c.in-Some.ensures.steps in
    let same : c.from.result ≡ c.in-Some.square = c.from.ensures ∙ c.number.ensures.value in
    kept-without _ _ _ _ _ c.loop-square.invariant _ _ f c.from.result same (c.is_lost_after_quiet.ensures.no c.if-is_lost_after_quiet.false)

pub returns-clause-only : goal.returns-clause-only
returns-clause-only g c = λ y on e. (c.loop-square.invariant.keeps y on e).0

pub returns-clause-yes : goal.returns-clause-yes
returns-clause-yes g c = λ y on e. (c.loop-square.invariant.keeps y on e).1

pub returns-clause-no : goal.returns-clause-no
returns-clause-no g c = λ y on e n. c.loop-square.invariant.others y on e (none-of-empty _ c.in-None.ensures.steps.0 y on) n

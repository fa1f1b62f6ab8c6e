use Rattle.std.proofs.Common.{◌≡◌, ◌∙◌}
use Rattle.study_board.proofs.SquareLists.{first-of, none-of-empty}
use Rattle.study_retro.proofs.SquaresKept.{first-as, kept-none, kept-with, kept-without}
use Rattle.study_retro.proofs.rows.levels.lost_plainly_each.Goals as goal

pub loop-square-init : goal.loop-square-init
loop-square-init g c = kept-none _ _ _ _ _ c.into_iter-square-iterator.ensures.into_iter_gives c.empty-lost.ensures

pub is_lost_plainly-requires-clause-numbered : goal.is_lost_plainly-requires-clause-numbered
is_lost_plainly-requires-clause-numbered g c =
    let f = first-as _ _ _ c.from.result c.in-Some.ensures.steps (c.from.ensures ∙ c.number.ensures.value) in
    c.requires.numbered c.from.result f.inside (c.loop-square.invariant.among c.from.result f.inside f.there)

pub loop-square-preserved-then-is_lost_plainly : goal.loop-square-preserved-then-is_lost_plainly
loop-square-preserved-then-is_lost_plainly g c =
    let f = first-of _ _ _ c.in-Some.ensures.steps in
    let same : c.from.result ≡ c.in-Some.square = c.from.ensures ∙ c.number.ensures.value in
    kept-with _ _ _ _ _ c.loop-square.invariant _ _ f c.from.result same _ _ c.of.ensures c.union-lost.ensures
    (c.is_lost_plainly.ensures.yes c.if-is_lost_plainly.true)

pub loop-square-preserved : goal.loop-square-preserved
loop-square-preserved g c =
    let f = first-of _ _ _ c.in-Some.ensures.steps in
    let same : c.from.result ≡ c.in-Some.square = c.from.ensures ∙ c.number.ensures.value in
    kept-without _ _ _ _ _ c.loop-square.invariant _ _ f c.from.result same (c.is_lost_plainly.ensures.no c.if-is_lost_plainly.false)

pub returns-clause-only : goal.returns-clause-only
returns-clause-only g c = λ y on e. (c.loop-square.invariant.keeps y on e).0

pub returns-clause-yes : goal.returns-clause-yes
returns-clause-yes g c = λ y on e. (c.loop-square.invariant.keeps y on e).1

pub returns-clause-no : goal.returns-clause-no
returns-clause-no g c = λ y on e n. c.loop-square.invariant.others y on e (none-of-empty _ c.in-None.ensures.steps.0 y on) n

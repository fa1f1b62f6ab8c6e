use Rattle.std.proofs.Common.{arith}
use Rattle.study_search.proofs.by_cells.end_page.Goals as goal

pub returns-clause-within : goal.returns-clause-within
returns-clause-within c =
    let value = c.side_step.ensures.value in
    let end = c.min.ensures in
    omega (arith, value, end)

pub returns-clause-all : goal.returns-clause-all
returns-clause-all c k to low =
    let value = c.side_step.ensures.value in
    let whole = c.requires.whole in
    let up = c.div_ceil.ensures in
    let end = c.min.ensures in
    omega (arith, value, whole, up, end, to, low)

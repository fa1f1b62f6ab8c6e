use Rattle.std.proofs.Common.{ℕ, ◌+◌, ◌/◌, ap, arith}
use Rattle.study_search.proofs.by_cells.opposite.Goals as goal

pub returns-then-white-clause-page : goal.returns-then-white-clause-page
returns-then-white-clause-page c =
    let value = c.side_step-pages.ensures.value in
    let low = c.if-white.true in
    let whole = c.requires.whole in
    record {
      black = λ l. ap (λ (m : ℕ). c.args.page + m / 4096) value;
      white = λ h. absurd (omega (arith, value, low, whole, h));
    }

pub returns-then-white-clause-there : goal.returns-then-white-clause-there
returns-then-white-clause-there c =
    let value = c.side_step-pages.ensures.value in
    let low = c.if-white.true in
    let whole = c.requires.whole in
    omega (arith, value, low, whole)

pub returns-else-white-clause-page : goal.returns-else-white-clause-page
returns-else-white-clause-page c =
    let value = c.side_step-pages.ensures.value in
    let high = c.if-white.false in
    let whole = c.requires.whole in
    record {
      black = λ l. absurd (omega (arith, value, high, whole, l));
      white = λ h. omega (arith, value, high, whole, h);
    }

pub returns-else-white-clause-there : goal.returns-else-white-clause-there
returns-else-white-clause-there c =
    let page = c.requires.page in
    omega (arith, page)

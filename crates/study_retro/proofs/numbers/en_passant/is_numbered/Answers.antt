use Rattle.std.proofs.Common.{ℕ, ◌<◌, arith, sym, subst}
use borrow.Author.Tests.{ltb-true}
use Rattle.study_index.proofs.ClassLaws.{below}
use Rattle.study_index.proofs.ComputedIndex.{decoded_of_numbered}
use Rattle.study_retro.proofs.numbers.en_passant.is_numbered.Goals as goal

pub returns-else-number-cells : goal.returns-else-number-cells
returns-else-number-cells c = (
  λ t. absurd (let l = ltb-true c.args.number c.cells.result t in omega (arith, l, c.if-number-cells.false)),
  λ s. absurd (
      let b = below c.args.class c.args.number s.0 (decoded_of_numbered c.args.class c.args.number s.0 s.1) in
      let l : c.args.number < c.cells.result = subst (λ (k : ℕ). c.args.number < k) (sym c.cells.ensures) b in
      omega (arith, l, c.if-number-cells.false)),
)

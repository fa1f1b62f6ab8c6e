use Rattle.std.proofs.Common.{◌≡◌, ℕ, true, arith, ◌≤◌, ◌↔◌}
use Rattle.std.specs.Prelude.{nat_le}
use Rattle.std.proofs.lemmas.Bool.Decides.{nat_tests}
use Rattle.study_values.specs.Index.{index_of}
use Rattle.study_search.proofs.OneOfTwo.{other-drawn, lower-number}
use Rattle.study_search.proofs.pairs.has_lower_number.Goals as goal

test-of : (a b m n : ℕ) → a ≡ m → b ≡ n → (nat_le a b ≡ true) ↔ (m ≤ n)
test-of a b m n e f = ((λ t. grind (arith, nat_tests)), (λ l. grind (arith, nat_tests)))

pub returns-in-Ok-true-clause-game : goal.returns-in-Ok-true-clause-game
returns-in-Ok-true-clause-game g c h =
    other-drawn c.args.p.now c.args.q.now c.in-Ok-true.field-0 (c.in-Ok-true.ensures.game h) c.in-Ok-true.field-0-test

pub returns-in-Ok-false-clause-game : goal.returns-in-Ok-false-clause-game
returns-in-Ok-false-clause-game g c h =
    lower-number c.args.p.now c.args.q.now c.in-Ok-false.field-0 (nat_le c.index-own.result c.index-other.result) (c.in-Ok-false.ensures.game h)
    c.in-Ok-false.field-0-test
    (test-of c.index-own.result c.index-other.result (index_of c.args.p.now) (index_of c.args.q.now) c.index-own.ensures.value c.index-other.ensures.value)

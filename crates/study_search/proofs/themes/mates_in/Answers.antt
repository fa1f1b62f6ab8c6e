use Rattle.std.proofs.Common.{◌≡◌, true, ◌==◌, arith, ◌↔◌, ℕ}
use Rattle.std.proofs.lemmas.Bool.Decides.{nat_tests}
use Rattle.study_search.proofs.LongestFound.{in-so-many, in-none}
use Rattle.study_search.proofs.themes.mates_in.Goals as goal

same-test : (k n : ℕ) → ((k == n) ≡ true) ↔ (k ≡ n)
same-test k n = ((λ e. grind (arith, nat_tests)), (λ e. grind (arith, nat_tests)))

pub returns-in-Ok-None-clause-game : goal.returns-in-Ok-None-clause-game
returns-in-Ok-None-clause-game g c h = in-none c.args.p.now c.in-Ok-None.field-0 c.args.plies (c.in-Ok-None.ensures.game h) c.in-Ok-None.field-0-is

pub returns-in-Ok-Some-clause-game : goal.returns-in-Ok-Some-clause-game
returns-in-Ok-Some-clause-game g c h =
    in-so-many c.args.p.now c.in-Ok-Some.field-0 c.in-Ok-Some.k c.args.plies (c.in-Ok-Some.ensures.game h) c.in-Ok-Some.field-0-is
    (c.in-Ok-Some.k == c.args.plies) (same-test c.in-Ok-Some.k c.args.plies)

use Rattle.std.proofs.Common.{sym, ◌∙◌, arith}
use Rattle.study_games.specs.Bytes.{is_tail}
use Rattle.study_games.proofs.Tails.{tail-cut, tail-stop}
use Rattle.study_games.proofs.spelling.len_without_tail.Goals as goal

pub loop-n-preserved : goal.loop-n-preserved
loop-n-preserved c = (
  omega (arith, c.loop-n.invariant.0),
  tail-cut is_tail c.args.text.now c.loop-n.n c.loop-n-test.true c.loop-n.invariant.0 (sym c.if-is_tail.ensures) ∙ c.loop-n.invariant.1,
)

pub returns-else-is_tail-clause-value : goal.returns-else-is_tail-clause-value
returns-else-is_tail-clause-value c =
    sym (tail-stop is_tail c.args.text.now c.loop-n.n c.loop-n-test.true c.loop-n.invariant.0 (sym c.if-is_tail.ensures)) ∙ c.loop-n.invariant.1

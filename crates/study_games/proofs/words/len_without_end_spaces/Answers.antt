use Rattle.std.proofs.Common.{sym, ◌∙◌, arith}
use Rattle.std.proofs.lemmas.Bool.{eq-eqb, ne_eqb}
use Rattle.study_games.specs.Words.{is_space}
use Rattle.study_games.proofs.Tails.{tail-cut, tail-stop}
use Rattle.study_games.proofs.words.len_without_end_spaces.Goals as goal

pub loop-n-preserved : goal.loop-n-preserved
loop-n-preserved c = (
  omega (arith, c.loop-n.invariant.0),
  tail-cut is_space c.args.text.now c.loop-n.n (omega arith) c.loop-n.invariant.0 (eq-eqb _ 32 c.if-text-n-eq32.true) ∙ c.loop-n.invariant.1,
)

pub returns-else-text-n-eq32-clause-value : goal.returns-else-text-n-eq32-clause-value
returns-else-text-n-eq32-clause-value c =
    sym (tail-stop is_space c.args.text.now c.loop-n.n (omega arith) c.loop-n.invariant.0 (ne_eqb _ 32 c.if-text-n-eq32.false)) ∙ c.loop-n.invariant.1

use Rattle.std.proofs.Common.{sym, ◌∙◌, arith}
use Rattle.study_command.proofs.SpacesAtEnd.{trim_end-cut, trim_end-stop}
use Rattle.study_command.proofs.arguments.len_without_end_spaces.Goals as goal

pub loop-n-preserved : goal.loop-n-preserved
loop-n-preserved c = (
  omega (arith, c.loop-n.invariant.0),
  trim_end-cut c.args.text.now c.loop-n.n (omega arith) c.loop-n.invariant.0
      c.if-text-n-eq32.true ∙ c.loop-n.invariant.1,
)

pub returns-else-text-n-eq32-clause-value : goal.returns-else-text-n-eq32-clause-value
returns-else-text-n-eq32-clause-value c =
    sym (trim_end-stop c.args.text.now c.loop-n.n (omega arith) c.loop-n.invariant.0 c.if-text-n-eq32.false)
    ∙ c.loop-n.invariant.1

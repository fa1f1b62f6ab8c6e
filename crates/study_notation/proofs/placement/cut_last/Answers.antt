use Rattle.std.proofs.Common.{◌-◌, arith}
use Rattle.std.proofs.lemmas.List.{take_rest}
use Rattle.study_notation.proofs.PlacementParts.{cut_last}
use Rattle.study_notation.proofs.placement.cut_last.Goals as goal

pub returns-then-text-i-eq47-clause-found : goal.returns-then-text-i-eq47-clause-found
returns-then-text-i-eq47-clause-found c =
    rw take_rest (cut_last c.args.text.now (c.loop-i.i - 1) c.loop-i.i (omega arith) (omega arith)
    c.if-text-i-eq47.true c.loop-i.invariant.1)

use Rattle.std.proofs.lemmas.Bool.{iff_false}
use Rattle.study_moves.proofs.Mates.{no_mate_more}
use Rattle.study_moves.proofs.forced_mate.solve.Goals as goal

pub loop-before-preserved : goal.loop-before-preserved
loop-before-preserved c = no_mate_more c.args.p.now c.loop-before.before c.loop-before.invariant (iff_false c.mates_within.ensures c.if-mates_within.false)

use Rattle.std.proofs.Common.{drop}
use Rattle.study_text.proofs.TextTaken.{Wrote}
use Rattle.study_reply.specs.Words.{moves_listed}
use Rattle.study_reply.proofs.reply_text.put_moves.Given as goal

abbrev pub invariant-loop-m : goal.invariant-loop-m
invariant-loop-m g l =
    Wrote (g.W.Write.contents l.initial.out) (g.W.Write.contents l.out) (moves_listed l.p l.moves)
    (moves_listed l.p (drop l.m-index l.moves))

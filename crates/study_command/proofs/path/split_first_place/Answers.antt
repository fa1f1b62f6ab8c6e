use Rattle.std.proofs.lemmas.List.{take_rest}
use Rattle.study_command.proofs.PathRead.{cut_at, cut_none}
use Rattle.study_command.proofs.path.split_first_place.Goals as goal

pub returns-then-word-i-eq46-clause-cut : goal.returns-then-word-i-eq46-clause-cut
returns-then-word-i-eq46-clause-cut c = rw take_rest (cut_at c.args.word.now c.loop-i.i c.loop-i-test.true c.if-word-i-eq46.true c.loop-i.invariant)

pub returns-clause-cut : goal.returns-clause-cut
returns-clause-cut c = cut_none c.args.word.now c.loop-i.i c.loop-i-test.false c.loop-i.invariant

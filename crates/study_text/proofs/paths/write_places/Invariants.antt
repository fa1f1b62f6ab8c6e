use Rattle.std.proofs.Common.{drop}
use Rattle.study_text.proofs.TextTaken.{Wrote}
use Rattle.study_text.specs.Paths.{more_places}
use Rattle.study_text.proofs.paths.write_places.Given as goal

abbrev pub invariant-loop-place : goal.invariant-loop-place
invariant-loop-place g l = Wrote (g.W.Write.contents l.initial.out) (g.W.Write.contents l.out) (more_places l.steps) (more_places (drop l.place-index l.steps))

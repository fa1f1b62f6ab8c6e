use Rattle.std.proofs.Common.{◌≡◌, ◌++◌, take}
use Rattle.std.specs.List.{flat_map}
use Rattle.study_review.specs.NodeFacts.{drawing_moves}
use Rattle.study_facts.specs.Words.{move_words}
use Rattle.study_review.proofs.lines.add_drawing_moves.Given as goal

abbrev pub invariant-loop-x : goal.invariant-loop-x
invariant-loop-x g l = l.text ≡ l.fn.text ++ flat_map (move_words l.fn.p) (drawing_moves (take l.x-index l.evaluated))

use Rattle.std.proofs.Common.{◌≡◌}
use Rattle.study_games.specs.Ascii.{word_at}
use Rattle.study_games.proofs.ascii.word_at.Given as goal

abbrev pub invariant-loop-left : goal.invariant-loop-left
invariant-loop-left l = word_at l.left l.rest ≡ word_at l.place l.table

abbrev pub decreases-loop-left : goal.decreases-loop-left
decreases-loop-left l = l.left

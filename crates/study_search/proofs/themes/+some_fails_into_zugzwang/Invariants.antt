use Rattle.std.proofs.Common.{length}
use Rattle.study_search.proofs.themes.+some_fails_into_zugzwang.Given as goal

abbrev pub decreases-some_fails_into_zugzwang : goal.decreases-some_fails_into_zugzwang
decreases-some_fails_into_zugzwang g l = length l.moves.now

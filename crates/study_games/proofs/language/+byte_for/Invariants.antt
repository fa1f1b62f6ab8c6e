use Rattle.std.proofs.Common.{length}
use Rattle.study_games.proofs.language.+byte_for.Given as goal

abbrev pub decreases-byte_for : goal.decreases-byte_for
decreases-byte_for l = length l.keys.now

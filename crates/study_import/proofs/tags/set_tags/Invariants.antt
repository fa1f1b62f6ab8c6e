use Rattle.std.proofs.Common.{◌≡◌, length}
use Rattle.study_games.specs.Header.{tags_of}
use Rattle.study_import.specs.Blocks.{with_tags, six_names}
use Rattle.study_import.proofs.tags.set_tags.Given as goal

abbrev pub invariant-loop-rest : goal.invariant-loop-rest
invariant-loop-rest g l = with_tags (tags_of l.game) l.rest l.study ≡ with_tags (tags_of l.game) six_names l.fn.study

abbrev pub decreases-loop-rest : goal.decreases-loop-rest
decreases-loop-rest g l = length l.rest

use Rattle.std.proofs.Common.{length, ◌+◌, ◌*◌}
use Rattle.study_facts.proofs.repetition.+back.Given as goal

abbrev pub decreases-all_wins_repeat : goal.decreases-all_wins_repeat
decreases-all_wins_repeat g l = 1024 * l.m + 1 + length l.moves.now

abbrev pub decreases-can_force_repetition : goal.decreases-can_force_repetition
decreases-can_force_repetition g l = 1024 * l.m + 600 + length l.moves.now

abbrev pub decreases-is_repeatable_within : goal.decreases-is_repeatable_within
decreases-is_repeatable_within g l = 1024 * l.m

abbrev pub decreases-must_repeat : goal.decreases-must_repeat
decreases-must_repeat g l = 1024 * l.m + 590

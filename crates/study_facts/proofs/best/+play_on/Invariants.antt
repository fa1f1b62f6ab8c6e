use Rattle.study_facts.proofs.best.+play_on.Given as goal

abbrev pub decreases-play_on : goal.decreases-play_on
decreases-play_on g l = l.plies

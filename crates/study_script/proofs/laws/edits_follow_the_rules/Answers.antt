use Rattle.study_script.proofs.RulesFollowed.{by-the-rules}
use Rattle.study_script.proofs.laws.edits_follow_the_rules.Goals as goal

pub returns : goal.returns
returns c = by-the-rules

use Rattle.std.proofs.Common.{◌∙◌}
use Rattle.study_games.proofs.Figurines.{front_has, behind_has, few_have_none}
use Rattle.study_games.proofs.symbols.has_figurine.Goals as goal

pub loop-rest-preserved : goal.loop-rest-preserved
loop-rest-preserved c = behind_has c.loop-rest.rest.now c.in-len1-up.len_at_least c.if-begins_figurine.ensures ∙ c.loop-rest.invariant

pub returns-then-begins_figurine : goal.returns-then-begins_figurine
returns-then-begins_figurine c = front_has c.loop-rest.rest.now c.in-len1-up.len_at_least c.if-begins_figurine.ensures ∙ c.loop-rest.invariant

pub returns : goal.returns
returns c = few_have_none c.loop-rest.rest.now c.in_default.len_below ∙ c.loop-rest.invariant

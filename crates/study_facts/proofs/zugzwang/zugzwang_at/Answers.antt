use Rattle.std.proofs.Common.{sym, ◌∙◌}
use Rattle.study_facts.proofs.ZugzwangReported.{none-passing, none-other}
use Rattle.study_facts.proofs.zugzwang.zugzwang_at.Goals as goal

pub returns-then-passing-clause-game : goal.returns-then-passing-clause-game
returns-then-passing-clause-game g c h = none-passing c.args.p.now (sym c.has_legal_en_passant-passing.ensures ∙ c.if-passing.true)

pub returns-in-None-clause-game : goal.returns-in-None-clause-game
returns-in-None-clause-game g c h = none-other c.args.p.now c.in-None.ensures.none

use Rattle.study_moves.specs.Rules.{after}
use Rattle.study_zugzwang.specs.Zugzwang.{IsZugzwang}
use Rattle.study_search.specs.OnlyMoves.{IsKey}
use Rattle.study_search.proofs.OneMove.{one-none, one-some}
use Rattle.study_search.proofs.themes.leads_into_zugzwang.Goals as goal

pub returns-in-Ok-None-clause-game : goal.returns-in-Ok-None-clause-game
returns-in-Ok-None-clause-game g c h =
    one-none (IsKey c.args.outcome c.args.p.now) (λ m. IsZugzwang (after c.args.p.now m)) c.in-Ok-None.field-0 (c.in-Ok-None.ensures.game h)
    c.in-Ok-None.field-0-is

pub returns-in-Ok-Some-clause-game : goal.returns-in-Ok-Some-clause-game
returns-in-Ok-Some-clause-game g c h =
    one-some (IsKey c.args.outcome c.args.p.now) (λ m. IsZugzwang (after c.args.p.now m)) c.in-Ok-Some.field-0 c.in-Ok-Some.m
    c.leads_to_zugzwang.result (c.in-Ok-Some.ensures.game h) c.in-Ok-Some.field-0-is
    (c.leads_to_zugzwang.ensures.game (c.key_move.ensures.honest h))

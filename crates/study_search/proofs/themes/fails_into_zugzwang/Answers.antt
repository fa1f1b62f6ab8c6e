use Rattle.std.proofs.Common.{subst}
use Rattle.study_moves.specs.Rules.{after}
use Rattle.study_search.specs.declared.only_moves.Outcome.{Outcome}
use Rattle.study_search.specs.OnlyMoves.{IsOnlyMove}
use Rattle.study_search.specs.Themes.{IsZugzwangOf, spoiling_outcome}
use Rattle.study_search.proofs.OneMove.{IsOne, one-none, one-some}
use Rattle.study_search.proofs.themes.fails_into_zugzwang.Goals as goal

pub returns-in-Ok-None-clause-game : goal.returns-in-Ok-None-clause-game
returns-in-Ok-None-clause-game g c h =
    one-none (IsOnlyMove (spoiling_outcome c.args.outcome) c.args.q.now) (λ m. IsZugzwangOf c.args.outcome (after c.args.q.now m)) c.in-Ok-None.field-0
    (subst (λ (o : Outcome). IsOne (IsOnlyMove o c.args.q.now) c.in-Ok-None.field-0) c.spoiling_outcome.ensures (c.in-Ok-None.ensures.game h))
    c.in-Ok-None.field-0-is

pub returns-in-Ok-Some-clause-game : goal.returns-in-Ok-Some-clause-game
returns-in-Ok-Some-clause-game g c h =
    one-some (IsOnlyMove (spoiling_outcome c.args.outcome) c.args.q.now) (λ m. IsZugzwangOf c.args.outcome (after c.args.q.now m)) c.in-Ok-Some.field-0 c.in-Ok-Some.r
    c.leads_to_zugzwang_of.result
    (subst (λ (o : Outcome). IsOne (IsOnlyMove o c.args.q.now) c.in-Ok-Some.field-0) c.spoiling_outcome.ensures (c.in-Ok-Some.ensures.game h))
    c.in-Ok-Some.field-0-is
    (c.leads_to_zugzwang_of.ensures.game (c.only_move.ensures.honest h))

use Rattle.std.proofs.Common.{◌≡◌, true, sym, ◌∙◌}
use Rattle.study_search.specs.OnlyMoves.{IsKey}
use Rattle.study_search.specs.Themes.{is_underpromoted}
use Rattle.study_search.proofs.OneMove.{one-none, one-true}
use Rattle.study_search.proofs.themes.underpromotes.Goals as goal

pub returns-in-Ok-None-clause-game : goal.returns-in-Ok-None-clause-game
returns-in-Ok-None-clause-game g c h =
    one-none (IsKey c.args.outcome c.args.p.now) (λ m. is_underpromoted m.promoted ≡ true) c.in-Ok-None.field-0 (c.in-Ok-None.ensures.game h)
    c.in-Ok-None.field-0-is

pub returns-in-Ok-Some-clause-game : goal.returns-in-Ok-Some-clause-game
returns-in-Ok-Some-clause-game g c h =
    one-true (IsKey c.args.outcome c.args.p.now) (λ m. is_underpromoted m.promoted ≡ true) c.in-Ok-Some.field-0 c.in-Ok-Some.m
    c.is_underpromotion.result (c.in-Ok-Some.ensures.game h) c.in-Ok-Some.field-0-is
    ((λ e. sym c.is_underpromotion.ensures ∙ e), (λ e. c.is_underpromotion.ensures ∙ e))

use Rattle.std.proofs.Common.{List, sym, subst}
use Rattle.study_moves.specs.declared.moves.Move.{Move}
use Rattle.study_moves.specs.Rules.{after}
use Rattle.study_moves.specs.Game.{IsLegal}
use Rattle.study_search.specs.Themes.{LeadsIntoZugzwang, FailsIntoZugzwang}
use Rattle.study_search.proofs.OnlyMoves.{AreLegal}
use Rattle.study_search.proofs.OneMove.{both-by, not-first, some-legal}
use Rattle.study_search.proofs.themes.has_zugzwang_try.Goals as goal

pub returns-in-Ok-false-clause-game : goal.returns-in-Ok-false-clause-game
returns-in-Ok-false-clause-game g c h =
    not-first (LeadsIntoZugzwang c.args.outcome c.args.p.now)
    ((m : Move) × IsLegal c.args.p.now m × FailsIntoZugzwang c.args.outcome (after c.args.p.now m)) c.in-Ok-false.field-0
    (c.in-Ok-false.ensures.game h) c.in-Ok-false.field-0-test

pub returns-in-Ok-true-clause-game : goal.returns-in-Ok-true-clause-game
returns-in-Ok-true-clause-game g c h =
    both-by (LeadsIntoZugzwang c.args.outcome c.args.p.now)
    ((m : Move) × IsLegal c.args.p.now m × FailsIntoZugzwang c.args.outcome (after c.args.p.now m)) c.in-Ok-true.field-0
    c.some_fails_into_zugzwang.result (c.in-Ok-true.ensures.game h) c.in-Ok-true.field-0-test
    (some-legal (FailsIntoZugzwang c.args.outcome) c.args.p.now c.as_slice.result.now c.some_fails_into_zugzwang.result
    (subst (λ (l : List Move). AreLegal c.args.p.now l) (sym c.as_slice.ensures.value) c.legal_moves-moves.ensures.legal)
    (c.some_fails_into_zugzwang.ensures.game (c.leads_into_zugzwang.ensures.honest h)))

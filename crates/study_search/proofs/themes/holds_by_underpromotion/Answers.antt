use Rattle.std.proofs.Common.{List, sym, ◌∙◌, subst}
use Rattle.study_moves.specs.declared.moves.Move.{Move}
use Rattle.study_search.specs.declared.only_moves.Outcome.TheVariants.{Win, Draw}
use Rattle.study_search.specs.Themes.{Underpromotes}
use Rattle.study_search.proofs.OneMove.{either-first, either-second}
use Rattle.study_search.proofs.OnlyMoves.{AreLegal}
use Rattle.study_search.proofs.Promotions.{no-underpromotion}
use Rattle.study_search.proofs.themes.holds_by_underpromotion.Goals as goal

pub returns-in-Ok-true-clause-game : goal.returns-in-Ok-true-clause-game
returns-in-Ok-true-clause-game g c h =
    either-first (Underpromotes Win c.args.p.now) (Underpromotes Draw c.args.p.now) c.in-Ok-true.field-0 (c.in-Ok-true.ensures.game h)
    c.in-Ok-true.field-0-test

pub returns-in-Ok-false-clause-game : goal.returns-in-Ok-false-clause-game
returns-in-Ok-false-clause-game g c h =
    either-second (Underpromotes Win c.args.p.now) (Underpromotes Draw c.args.p.now) c.in-Ok-false.field-0 c.draws_by_underpromotion.result
    (c.in-Ok-false.ensures.game h) c.in-Ok-false.field-0-test (c.draws_by_underpromotion.ensures.game (c.underpromotes.ensures.honest h))

pub returns-then-not-some-clause-game : goal.returns-then-not-some-clause-game
returns-then-not-some-clause-game g c h =
    no-underpromotion c.args.p.now c.as_slice.result.now
    (subst (λ (l : List Move). AreLegal c.args.p.now l) (sym c.as_slice.ensures.value) c.legal_moves-moves.ensures.legal)
    (sym c.some_underpromotes-some.ensures ∙ c.if-not-some.true)

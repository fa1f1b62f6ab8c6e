use Rattle.std.proofs.Common.{List, sym, subst}
use Rattle.std.specs.Prelude.{IfSome, IfNone}
use Rattle.std.specs.List.{AllPairs}
use Rattle.study_moves.specs.declared.moves.Move.{Move}
use Rattle.study_moves.specs.Order.{IsBefore}
use Rattle.study_moves.specs.Game.{HasNoMove}
use Rattle.study_facts.specs.Best.{IsFirstBestMove}
use Rattle.study_facts.proofs.BackSteps.{AreLegal, if-ok}
use Rattle.study_facts.proofs.BestSteps.{IsBestOf}
use Rattle.study_facts.proofs.FirstBest.{is-first-best, has-none}
use Rattle.study_facts.proofs.best.best_move.Goals as goal

pub returns-clause-best : goal.returns-clause-best
returns-clause-best g c h =
    let p = c.args.p.now in
    let ms = c.as_slice.result.now in
    if-ok (IsBestOf p ms) (λ best. IfSome best (IsFirstBestMove p)) c.best_among.result
    (λ best. is-first-best c.values_are_unique.ensures p ms best
    (subst (λ (l : List Move). AreLegal p l) (sym c.as_slice.ensures.value) c.legal_moves-moves.ensures.legal)
    (subst (λ (l : List Move). AllPairs IsBefore l) (sym c.as_slice.ensures.value) c.legal_moves-moves.ensures.ordered))
    (c.best_among.ensures.game h)

pub returns-clause-none : goal.returns-clause-none
returns-clause-none g c h =
    let p = c.args.p.now in
    let ms = c.as_slice.result.now in
    if-ok (IsBestOf p ms) (λ best. IfNone best (HasNoMove p)) c.best_among.result
    (λ best. has-none c.values_are_unique.ensures p ms best
    (subst (λ (l : List Move). AreLegal p l) (sym c.as_slice.ensures.value) c.legal_moves-moves.ensures.legal)
    (subst (λ (l : List Move). AllPairs IsBefore l) (sym c.as_slice.ensures.value) c.legal_moves-moves.ensures.ordered))
    (c.best_among.ensures.game h)

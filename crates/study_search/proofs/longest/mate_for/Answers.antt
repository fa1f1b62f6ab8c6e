use Rattle.std.proofs.Common.{Some, ap, sym, ◌∙◌}
use Rattle.study_search.specs.Finding.{is_for}
use Rattle.study_search.proofs.LongestFound.{for-side, other-side}
use Rattle.study_search.proofs.longest.mate_for.Goals as goal

pub returns-then-wanted-clause-game : goal.returns-then-wanted-clause-game
returns-then-wanted-clause-game g c h =
    for-side c.args.side c.args.p.now c.mate_of.result
    (sym (c.is_for-wanted.ensures ∙ ap (λ x. is_for (Some c.args.side) x) c.to_move.ensures) ∙ c.if-wanted.true) (c.mate_of.ensures.game h)

pub returns-clause-game : goal.returns-clause-game
returns-clause-game g c h =
    other-side c.args.side c.args.p.now
    (sym (c.is_for-wanted.ensures ∙ ap (λ x. is_for (Some c.args.side) x) c.to_move.ensures) ∙ c.if-wanted.false)

use Rattle.std.proofs.Common.{◌≡◌, ◌↔◌, true, List, Option, IfOk, sym, subst, ◌∙◌}
use Rattle.study_moves.specs.declared.moves.Move.{Move}
use Rattle.study_listing.specs.declared.features.Feature.{Feature}
use Rattle.study_listing.specs.Features.{RowHasAll}
use Rattle.study_listing.proofs.RowFeatures.{row-wanted}
use Rattle.study_listing.proofs.main_line.has_wanted_row.Goals as goal

pub returns-in-Ok-clause-game : goal.returns-in-Ok-clause-game
returns-in-Ok-clause-game g c h =
    let ws = c.args.filters.now.row in
    let p = c.args.p.now in
    row-wanted c.values_are_unique.ensures ws p c.in-Ok.row.items c.row_has_all.result
    (sym c.is_on_row-asked.ensures ∙ c.if-not-asked.false) (c.in-Ok.ensures.game h)
    (subst (λ (l : List Move). IfOk c.row_has_all.result (λ b. (b ≡ true) ↔ RowHasAll ws p l)) c.as_slice-in-Ok.ensures.value
    (subst (λ (l : List (Option Feature)). IfOk c.row_has_all.result (λ b. (b ≡ true) ↔ RowHasAll l p c.as_slice-in-Ok.result.now)) c.as_slice.ensures
    (c.row_has_all.ensures.game (c.shown_row.ensures.honest h))))

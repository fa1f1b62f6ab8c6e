use Rattle.std.proofs.Common.{List, Option, ap, ◌∙◌}
use Rattle.study_board.specs.Position.{Position}
use Rattle.study_board.specs.Symmetry.{image}
use Rattle.study_search.specs.Laws.{colours_swapped}
use Rattle.study_listing.specs.declared.filters.Placed.{Placed}
use Rattle.study_listing.specs.Filters.{first_placed, turns}
use Rattle.study_listing.proofs.Shown.{counterpart-needs}
use Rattle.study_listing.proofs.listed.counterpart_placed.Goals as goal

pub returns-clause-needs : goal.returns-clause-needs
returns-clause-needs c =
    counterpart-needs c.args.p.now c.in_ok-other.other c.turned.result c.first_placed.result c.in_ok-other.ensures.some.0 c.turned.ensures.value
    c.first_placed.ensures.needs

pub returns-clause-value : goal.returns-clause-value
returns-clause-value c valid =
    c.first_placed.ensures.value
    ∙ ap (λ (ws : List (Option Placed)). first_placed ws c.turned.result turns) c.as_slice.ensures
    ∙ ap (λ (q : Position). first_placed c.args.selection.now.filters.men q turns)
    (c.turned.ensures.value ∙ ap (λ (q : Position). image colours_swapped q) c.in_ok-other.ensures.some.0)

use Rattle.std.proofs.Common.{ap, sym, ◌∙◌}
use Rattle.study_board.specs.declared.men.Side.{Side}
use Rattle.study_search.specs.Laws.{colours_swapped, image_for}
use Rattle.study_search.proofs.Faults.{needs-image}
use Rattle.study_listing.proofs.listed.with_white_to_move.Goals as goal

pub returns-in-White-clause-value : goal.returns-in-White-clause-value
returns-in-White-clause-value c = c.same.ensures.value ∙ ap (λ (s : Side). image_for s c.args.p.now) (sym c.in-White.is ∙ c.to_move.ensures)

pub returns-in-Black-clause-value : goal.returns-in-Black-clause-value
returns-in-Black-clause-value c = c.turned.ensures.value ∙ ap (λ (s : Side). image_for s c.args.p.now) (sym c.in-Black.is ∙ c.to_move.ensures)

pub returns-in-Black-clause-needs : goal.returns-in-Black-clause-needs
returns-in-Black-clause-needs c = needs-image c.args.p.now c.turned.result colours_swapped c.turned.ensures.value

use Rattle.std.proofs.Common.{◌≡◌, List, Option, Some, None, ap, ◌∙◌}
use Rattle.study_board.specs.Position.{Position}
use Rattle.study_listing.specs.declared.filters.Placed.{Placed}
use Rattle.study_listing.specs.Filters.{first_placed, or_else, turns}
use Rattle.study_listing.specs.Lists.{hero_image, second_placed}
use Rattle.study_listing.proofs.listed.listed_image.Goals as goal

pub returns-in-Some-clause-needs : goal.returns-in-Some-clause-needs
returns-in-Some-clause-needs c k n = c.hero_image-hero.ensures.needs k (c.in-Some.ensures.needs k n)

pub returns-in-Some-clause-value : goal.returns-in-Some-clause-value
returns-in-Some-clause-value c valid =
    let s = c.args.selection.now in
    ap (λ (o : Option Position). or_else o (second_placed s c.args.p.now))
    (c.in-Some.ensures.value
    ∙ ap (λ (ws : List (Option Placed)). first_placed ws c.hero_image-hero.result turns) c.as_slice.ensures
    ∙ ap (λ (q : Position). first_placed s.filters.men q turns) c.hero_image-hero.ensures.value)

pub returns-in-None-clause-value : goal.returns-in-None-clause-value
returns-in-None-clause-value c valid =
    let s = c.args.selection.now in
    c.second_placed.ensures.value valid
    ∙ ap (λ (o : Option Position). or_else o (second_placed s c.args.p.now))
    (c.in-None.ensures.value
    ∙ ap (λ (ws : List (Option Placed)). first_placed ws c.hero_image-hero.result turns) c.as_slice.ensures
    ∙ ap (λ (q : Position). first_placed s.filters.men q turns) c.hero_image-hero.ensures.value)

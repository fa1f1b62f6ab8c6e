use Rattle.std.proofs.Common.{ℕ, Option, Some, None, sym, subst}
use Rattle.study_search.specs.declared.themes.Theme.TheVariants.{MateIn}
use Rattle.study_search.specs.Longest.{IsLongest}
use Rattle.study_listing.specs.declared.request.Request.{Request}
use Rattle.study_listing.specs.Lists.{IsSelectionOf}
use Rattle.study_listing.proofs.Selected.{of-mates}
use Rattle.study_listing.proofs.listing.selection_of.Goals as goal

pub returns-in-Ok-None-clause-game : goal.returns-in-Ok-None-clause-game
returns-in-Ok-None-clause-game g c h =
    subst (λ (r : Request). IsSelectionOf r None) (sym c.in-Longest.is)
    (subst (λ (x : Option ℕ). IsLongest c.in-Longest.class c.in-Longest.side x) c.in-Ok-None.field-0-is (c.in-Ok-None.ensures.game h))

pub returns-in-Ok-Some-clause-game : goal.returns-in-Ok-Some-clause-game
returns-in-Ok-Some-clause-game g c h =
    subst (λ (r : Request). IsSelectionOf r (Some c.mates_in.result)) (sym c.in-Longest.is) (
      c.in-Ok-Some.plies,
      of-mates c.mates_in.result (record { class = c.in-Longest.class; theme = MateIn c.in-Ok-Some.plies; side = Some c.in-Longest.side })
          c.mates_in.ensures.search c.mates_in.ensures.filters,
      subst (λ (x : Option ℕ). IsLongest c.in-Longest.class c.in-Longest.side x) c.in-Ok-Some.field-0-is (c.in-Ok-Some.ensures.game h),
    )

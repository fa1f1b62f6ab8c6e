-- What is listed without filters.
use Rattle.std.proofs.Common.{◌≡◌, ap, ◌∙◌}
use Rattle.study_search.specs.declared.finding.Search.{Search}
use Rattle.study_listing.specs.declared.filters.Filters.{Filters}
use Rattle.study_listing.specs.declared.filters.Selection.{Selection}
use Rattle.study_listing.specs.Filters.{no_filters}

abbrev of : Search → Filters → Selection
of s f = record { search = s; filters = f }

pub of-mates : (x : Selection) (s : Search) → x.search ≡ s → x.filters ≡ no_filters → x ≡ of s no_filters
of-mates x s e f = ap (λ (y : Search). of y x.filters) e ∙ ap (λ (y : Filters). of s y) f

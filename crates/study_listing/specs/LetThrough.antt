-- Not part of any public contract: a position that passes the filters, but for that of the row.
use Rattle.study_board.specs.Position.{Position}
use Rattle.study_listing.specs.declared.filters.Selection.{Selection}
use Rattle.study_listing.specs.Filters.{HasWantedKey, HasWantedResult}
use Rattle.study_listing.specs.Lists.{IsOneOfPair}

abbrev pub IsLetThrough : Selection → Position → Type 0
IsLetThrough s p = IsOneOfPair s.search p × HasWantedKey s.filters p × HasWantedResult s.filters.result p

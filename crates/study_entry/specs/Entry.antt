-- An entry of a report.
use Rattle.std.specs.Prelude.{[]}
use Rattle.study_entry.specs.declared.entry.Names.{Names}
use Rattle.study_entry.specs.declared.entry.Origin.{Origin}
use Rattle.study_entry.specs.declared.entry.Standing.TheVariants.{Whole}

-- no name is known in its own letters
abbrev pub no_names : Names
no_names = record { event = []; site = []; date = []; round = []; white = [] }

-- a study that was read to its end, without such names
abbrev pub whole : Origin
whole = record { standing = Whole; names = no_names }

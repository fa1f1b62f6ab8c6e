-- The tally as contracts see it.
use Rattle.study_import.specs.declared.importer.Imported.{Imported}
use Rattle.study_import.specs.Blocks.{Tally}

abbrev pub tally_seen : Imported → Tally
tally_seen t = record { met = t.met; reported = t.reported; with_study = t.with_study; studies = t.studies }

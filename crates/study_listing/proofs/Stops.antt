-- What stops a later list could have stopped one before.
use Rattle.std.proofs.Common.{Result, Ok, Err, IfErr}
use Rattle.study_material.specs.declared.class.Class.{Class}
use Rattle.study_values.specs.Values.{ValueSource}
use Rattle.study_search.specs.Faults.{HasSameTables}
use Rattle.study_search.proofs.Faults.{can_report}
use Rattle.study_listing.specs.declared.fault.Stop.{Stop}
use Rattle.study_listing.specs.declared.fault.Stop.TheVariants.{Values, TooManyStudies, WriteDevice}
use Rattle.study_listing.specs.Stops.{CanStop}

pub if_stopped : {V T : Type 0} (source : ValueSource V) (Needs : Class → Type 0) (old new : V) (r : Result T Stop) → IfErr r (CanStop source Needs new)
    → HasSameTables source old new → (source.is_honest old → source.is_honest new) → IfErr r (CanStop source Needs old)
if_stopped source Needs old new (Ok x) h tables honest = tt
if_stopped source Needs old new (Err (Values f)) h tables honest = can_report source Needs old new f h tables honest
if_stopped source Needs old new (Err TooManyStudies) h tables honest = tt
if_stopped source Needs old new (Err WriteDevice) h tables honest = tt

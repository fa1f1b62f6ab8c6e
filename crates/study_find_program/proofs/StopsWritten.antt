-- Why the list stopped, of what the call that writes it promises of each stop.
use Rattle.std.proofs.Common.{◌≡◌, ℕ, ◌<◌, List, Option, Some, Result, Ok, Err, refl, inl}
use Rattle.std.specs.Prelude.{OnOk, IfErr, IsErrOf}
use Rattle.study_values.specs.Number.{cells_of}
use Rattle.study_values.specs.declared.values.ProbeFault.{ProbeFault}
use Rattle.study_listing.specs.declared.fault.Stop.{Stop}
use Rattle.study_listing.specs.declared.fault.Stop.TheVariants.{Values, TooManyStudies, WriteDevice}
use Rattle.study_listing.specs.declared.filters.Selection.{Selection}
use Rattle.study_listing.specs.declared.text.Form.{Form}
use Rattle.study_listing.specs.declared.text.Form.TheVariants.{Script}
use Rattle.study_listing.specs.Lists.{AreSoMany, HasWrittenSome, HasStopped}
use Rattle.study_listing.specs.declared.request.Request.{Request}
use Rattle.study_find_program.specs.declared.options.Output.{Output}
use Rattle.study_find_program.specs.Listed.{HasAnswered}
use Rattle.study_find_program.specs.Stopped.{ListStops, IsStopped}
use Rattle.study_find_program.specs.Ended.{IsWholeOrStopped}

pub list_stopped : (r : Result ℕ Stop) (s : Selection) (form : Form) (old new : Option (List ℕ))
    → ((f : ProbeFault) → IsErrOf r (Values f) → HasWrittenSome s form 0 (cells_of s.search.class) old new)
    → (IsErrOf r TooManyStudies → (form ≡ Script) × ((count : ℕ) × AreSoMany s 0 (cells_of s.search.class) count × (3846 < count)))
    → (IsErrOf r TooManyStudies → new ≡ old)
    → (IsErrOf r WriteDevice → HasStopped s form 0 (cells_of s.search.class) old new)
    → IfErr r (ListStops form (Some s) old new)
list_stopped (Ok count) s form old new values many nothing device = tt
list_stopped (Err (Values f)) s form old new values many nothing device = values f refl
list_stopped (Err TooManyStudies) s form old new values many nothing device = ((many refl).0, nothing refl, (many refl).1)
list_stopped (Err WriteDevice) s form old new values many nothing device = device refl

-- the list, whole or stopped
pub whole_or_stopped : (r : Result (Unit {0}) Stop) (request : Request) (out : Output) (old new : Option (List ℕ)) → OnOk r (HasAnswered request out old new)
    → IfErr r (λ stop. IsStopped request out old new stop) → IsWholeOrStopped request out old new r
whole_or_stopped (Ok done) request out old new h k = h
whole_or_stopped (Err stop) request out old new h k = inl k

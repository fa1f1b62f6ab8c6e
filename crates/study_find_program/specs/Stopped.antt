-- Why a list is not complete, and what of it is written.
use Rattle.std.specs.Prelude.{◌≡◌, ◌⊎◌, ℕ, ◌<◌, List, [], ◌∷◌, ◌++◌, Option, Some, None, decimal}
use Rattle.study_text.specs.Taken.{TakesPrefix}
use Rattle.study_values.specs.Number.{cells_of}
use Rattle.study_values.specs.declared.values.ProbeFault.{ProbeFault}
use Rattle.study_listing.specs.declared.fault.Stop.{Stop}
use Rattle.study_listing.specs.declared.fault.Stop.TheVariants.{Values, TooManyStudies, WriteDevice}
use Rattle.study_listing.specs.declared.filters.Selection.{Selection}
use Rattle.study_listing.specs.declared.request.Request.{Request}
use Rattle.study_listing.specs.declared.text.Form.{Form}
use Rattle.study_listing.specs.declared.text.Form.TheVariants.{Script}
use Rattle.study_listing.specs.Lists.{AreSoMany, HasWrittenSome, HasStopped, IsSelectionOf}
use Rattle.study_find_program.specs.declared.options.Output.{Output}
use Rattle.study_find_program.specs.declared.options.Output.TheVariants as output
use Rattle.study_find_program.specs.Listed.{AreSoManyOf}

-- a number: nothing of it is written if a value cannot be read, and a part of its line if the device fails
abbrev pub CountStops : Option Selection → Option (List ℕ) → Option (List ℕ) → Stop → Type 0
CountStops selection old new (Values fault) = new ≡ old
CountStops selection old new TooManyStudies = ⊥
CountStops selection old new WriteDevice = (count : ℕ) × AreSoManyOf selection count × TakesPrefix old new (decimal count ++ 10 ∷ [])

-- A list: the positions before the one whose value cannot be read, or a part of the list if the device fails. A script with too many studies is not begun.
abbrev pub ListStops : Form → Option Selection → Option (List ℕ) → Option (List ℕ) → Stop → Type 0
ListStops form None old new stop = ⊥
ListStops form (Some s) old new (Values fault) = HasWrittenSome s form 0 (cells_of s.search.class) old new
ListStops form (Some s) old new TooManyStudies =
    (form ≡ Script) × (new ≡ old) × ((count : ℕ) × AreSoMany s 0 (cells_of s.search.class) count × (3846 < count))
ListStops form (Some s) old new WriteDevice = HasStopped s form 0 (cells_of s.search.class) old new

abbrev pub PutStops : Output → Option Selection → Option (List ℕ) → Option (List ℕ) → Stop → Type 0
PutStops (output.List form) selection old new stop = ListStops form selection old new stop
PutStops output.Count selection old new stop = CountStops selection old new stop

-- Nothing is written, since a value cannot be read, or the positions of the request are written in part.
abbrev pub IsStopped : Request → Output → Option (List ℕ) → Option (List ℕ) → Stop → Type 0
IsStopped request out old new stop =
    (((fault : ProbeFault) × (stop ≡ Values fault)) × (new ≡ old))
    ⊎ ((selection : Option Selection) × IsSelectionOf request selection × PutStops out selection old new stop)

-- What the program writes to standard output.
use Rattle.std.specs.Prelude.{◌≡◌, ℕ, List, [], ◌∷◌, ◌++◌, Option, Some, None, decimal}
use Rattle.std.specs.Io.KnownBytes.{Appends}
use Rattle.study_values.specs.Number.{cells_of}
use Rattle.study_listing.specs.declared.filters.Selection.{Selection}
use Rattle.study_listing.specs.declared.request.Request.{Request}
use Rattle.study_listing.specs.declared.text.Form.{Form}
use Rattle.study_listing.specs.Lists.{AreSoMany, HasWritten, IsSelectionOf}
use Rattle.study_find_program.specs.declared.options.Output.{Output}
use Rattle.study_find_program.specs.declared.options.Output.TheVariants as output

-- so many positions are listed: zero if the request selects none
abbrev pub AreSoManyOf : Option Selection → ℕ → Type 0
AreSoManyOf None count = count ≡ 0
AreSoManyOf (Some s) count = AreSoMany s 0 (cells_of s.search.class) count

-- their number in a line of its own
abbrev pub HasCounted : Option Selection → Option (List ℕ) → Option (List ℕ) → Type 0
HasCounted selection old new = (count : ℕ) × AreSoManyOf selection count × Appends old new (decimal count ++ 10 ∷ [])

-- the whole list
abbrev pub HasListed : Form → Option Selection → Option (List ℕ) → Option (List ℕ) → Type 0
HasListed form None old new = Appends old new []
HasListed form (Some s) old new = (count : ℕ) × HasWritten s form 0 (cells_of s.search.class) old new count

abbrev pub HasPut : Output → Option Selection → Option (List ℕ) → Option (List ℕ) → Type 0
HasPut (output.List form) selection old new = HasListed form selection old new
HasPut output.Count selection old new = HasCounted selection old new

-- the positions of the request, in the requested form
abbrev pub HasAnswered : Request → Output → Option (List ℕ) → Option (List ℕ) → Type 0
HasAnswered request out old new = (selection : Option Selection) × IsSelectionOf request selection × HasPut out selection old new

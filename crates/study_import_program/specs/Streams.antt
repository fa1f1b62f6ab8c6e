-- What a run writes, whole or in part.
use Rattle.std.specs.Prelude.{◌≡◌, ℕ, List, [], ◌∷◌, ◌++◌, Option, Some}
use Rattle.std.specs.Io.KnownBytes.{Appends}
use Rattle.study_import.specs.declared.importer.Choice.{Choice}
use Rattle.study_import.specs.declared.importer.Imported.{Imported}
use Rattle.study_import.specs.Imported.{Held, script_of, tally_of, still_written, still_tallied}
use Rattle.study_import.specs.ImportedSeen.{tally_seen}

-- known bytes grow by a prefix of the text
abbrev pub AppendsFront : Option (List ℕ) → Option (List ℕ) → List ℕ → Type 0
AppendsFront old new text = (front : List ℕ) × (back : List ℕ) × (text ≡ front ++ back) × Appends old new front

-- a byte was taken, and what it completes was written
abbrev pub PutsByte : ℕ → Held → Held → Option (List ℕ) → Option (List ℕ) → Type 0
PutsByte byte before now old new =
    (text : List ℕ) × Appends old new text × ((bytes : List ℕ) → still_written before (byte ∷ bytes) ≡ text ++ still_written now bytes)
    × ((bytes : List ℕ) → still_tallied before (byte ∷ bytes) ≡ still_tallied now bytes)

-- whatever follows, at most a prefix of the text due is written
abbrev pub StopsAtByte : ℕ → Held → Option (List ℕ) → Option (List ℕ) → Type 0
StopsAtByte byte before old new = (bytes : List ℕ) → AppendsFront old new (still_written before (byte ∷ bytes))

-- all is written
abbrev pub PutsRest : Held → Imported → Option (List ℕ) → Option (List ℕ) → Type 0
PutsRest before imported old new = Appends old new (still_written before []) × (tally_seen imported ≡ still_tallied before [])

-- for a reader that has this text left the whole script is written, and the games are counted right
abbrev pub IsWhole : Choice → Option (List ℕ) → Option (List ℕ) → Option (List ℕ) → Imported → Type 0
IsWhole c left old new imported =
    (text : List ℕ) → left ≡ Some text → Appends old new (script_of c text) × (tally_seen imported ≡ tally_of c text)

-- for such a reader a prefix of the script is written
abbrev pub IsFront : Choice → Option (List ℕ) → Option (List ℕ) → Option (List ℕ) → Type 0
IsFront c left old new = (text : List ℕ) → left ≡ Some text → AppendsFront old new (script_of c text)

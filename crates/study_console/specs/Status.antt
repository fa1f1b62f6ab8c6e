-- Exit statuses, and the line of a stop.
use Rattle.std.specs.Prelude.{ℕ, Bool, true, false, ◌⊎◌, List, [], ◌∷◌, ◌++◌, Option, codes}
use Rattle.std.specs.Io.KnownBytes.{Appends}
use Rattle.clap.specs.declared.error.kind.ErrorKind.{ErrorKind}
use Rattle.clap.specs.declared.error.kind.ErrorKind.TheVariants as word
use Rattle.study_text.specs.Taken.{TakesPrefix}

-- help or the version was requested: 0 if it was printed; elsewhere the words were refused
abbrev pub status_shown : Bool → ℕ
status_shown true = 0
status_shown false = 3

abbrev pub status_unread : ErrorKind → Bool → ℕ
status_unread word.OutOfMemory printed = 3
status_unread word.DisplayHelp printed = status_shown printed
status_unread word.DisplayVersion printed = status_shown printed
status_unread _ printed = 2

-- `studybench: OutOfMemory`
abbrev pub stop_line : List ℕ → List ℕ → List ℕ
stop_line program name = program ++ (codes ": " ++ (name ++ 10 ∷ []))

-- the line is written, or a prefix of it if standard error fails
abbrev pub IsStopWritten : List ℕ → List ℕ → Option (List ℕ) → Option (List ℕ) → Type 0
IsStopWritten program name old new = Appends old new (stop_line program name) ⊎ TakesPrefix old new (stop_line program name)

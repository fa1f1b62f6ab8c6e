-- The ends of a file's lines.
use Rattle.std.specs.Prelude.{ℕ, ◌==◌, List, [], ◌∷◌, Option, Some, None, Result, Ok, Err, if◌then◌else◌}
use Rattle.std.specs.Option.{option_map}
use Rattle.std.specs.Io.KnownBytes.{Consumes, IsAtEnd, Keeps}
use Rattle.study_import_program.specs.declared.line_ends.LineReader.{LineReader}

abbrev pub first_of : List ℕ → Option ℕ
first_of [] = None
first_of (b ∷ bs) = Some b

-- a carriage return stays if a line feed follows; else a line feed is in its place
abbrev pub line_end : Option ℕ → ℕ
line_end None = 10
line_end (Some b) = if b == 10 then 13 else 10

abbrev pub with_feeds : List ℕ → List ℕ
with_feeds [] = []
with_feeds (b ∷ bs) = (if b == 13 then line_end (first_of bs) else b) ∷ with_feeds bs

-- ---- a reader that is read byte by byte

-- a byte was read; or the end was met; or a read failed, and nothing is lost
abbrev pub GivesByte : {E : Type 0} → Option (List ℕ) → Option (List ℕ) → Result (Option ℕ) E → Type 0
GivesByte old new (Ok (Some b)) = Consumes old new (b ∷ [])
GivesByte old new (Ok None) = Consumes old new [] × IsAtEnd new
GivesByte old new (Err e) = Keeps old new

-- a byte ahead, and the rest of the file
abbrev pub with_ahead : Option ℕ → List ℕ → List ℕ
with_ahead None bytes = bytes
with_ahead (Some b) bytes = b ∷ bytes

-- what is left of the file, and of its text
abbrev pub file_left : {R : Type 0} → (R → Option (List ℕ)) → LineReader R → Option (List ℕ)
file_left remaining r = option_map (with_ahead r.ahead) (remaining r.inner)

abbrev pub lines_remaining : {R : Type 0} → (R → Option (List ℕ)) → LineReader R → Option (List ℕ)
lines_remaining remaining r = option_map with_feeds (file_left remaining r)

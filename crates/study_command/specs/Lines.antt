-- The lines of a script.
use Rattle.std.specs.Prelude.{◌≡◌, ℕ, ◌<◌, ◌≤◌, count_by, ◌==◌, List, [], ◌∷◌, length, map, Option, Some, None, if◌then◌else◌, true, false, Bool, ⊤}
use Rattle.std.specs.List.{slice_split}
use Rattle.std.specs.Io.KnownBytes.{Consumes}
use Rattle.std.specs.Str.Lines.{strip_carriage_return}

-- the parts between line feeds; if no byte follows the last line feed, no line begins there
abbrev pub begun_lines : List (List ℕ) → List (List ℕ)
begun_lines [] = []
begun_lines (part ∷ []) = if length part == 0 then [] else part ∷ []
begun_lines (part ∷ next ∷ more) = part ∷ begun_lines (next ∷ more)

-- a carriage return before a line feed, or before the end, is not part of the line
unfoldable pub script_lines : List ℕ → List (List ℕ)
script_lines script = map strip_carriage_return (begun_lines (slice_split (λ b. b == 10) script))

-- a reader with the old bytes returned a line, or had none
abbrev pub TakesLine : Option (List ℕ) → Option (List ℕ) → Bool → List ℕ → Type 0
TakesLine None new more line = ⊤
TakesLine (Some script) None more line = ⊥
TakesLine (Some script) (Some rest) true line = script_lines script ≡ line ∷ script_lines rest
TakesLine (Some script) (Some rest) false line = script_lines script ≡ []

-- the next line is too long
abbrev pub BeginsLong : Option (List ℕ) → Type 0
BeginsLong None = ⊤
BeginsLong (Some script) = (line : List ℕ) × (more : List (List ℕ)) × (script_lines script ≡ line ∷ more) × (1024 < length line)

-- the number of line feeds
abbrev pub feed_count : List ℕ → ℕ
feed_count bytes = count_by (λ b. b == 10) bytes

-- a reader with the old bytes returned some of them, with at most n line feeds
abbrev pub GaveFeeds : Option (List ℕ) → Option (List ℕ) → ℕ → Type 0
GaveFeeds old new n = (given : List ℕ) × Consumes old new given × (feed_count given ≤ n)

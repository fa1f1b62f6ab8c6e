-- Laws of the lines of every script.
use Rattle.std.specs.Prelude.{◌≡◌, ℕ, List, [], ◌∷◌, ◌++◌}
use Rattle.std.specs.List.{AllByRecursion, flat_map}
use Rattle.std.specs.Str.Lines.{strip_carriage_return}
use Rattle.study_command.specs.Lines.{script_lines, feed_count}

-- without a line feed, and with no carriage return at the end
abbrev pub IsPlain : List ℕ → Type 0
IsPlain line = (feed_count line ≡ 0) × (strip_carriage_return line ≡ line)

-- lines that are each ended by a line feed are read back
abbrev pub AreReadAgain : Type 0
AreReadAgain = (lines : List (List ℕ)) → AllByRecursion IsPlain lines → script_lines (flat_map (λ line. line ++ 10 ∷ []) lines) ≡ lines

-- lines that are each ended by a carriage return and a line feed are read back, too
abbrev pub AreReadAgainBehindReturns : Type 0
AreReadAgainBehindReturns =
    (lines : List (List ℕ)) → AllByRecursion (λ line. feed_count line ≡ 0) lines → script_lines (flat_map (λ line. line ++ 13 ∷ 10 ∷ []) lines) ≡ lines
